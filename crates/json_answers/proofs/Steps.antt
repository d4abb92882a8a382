-- The values of the entries, one after another.
use Rattle.std.proofs.Common.{◌≡◌, ℕ, ◌+◌, ◌<◌, List, [], ◌∷◌, ◌++◌, length, map, take, get_or, ap, sym, ◌∙◌, arith}
use Rattle.std.proofs.lemmas.List.{map-append, take_more}
use Rattle.std.proofs.lemmas.List.FromFn.{length-map-range_with_len, get_or-map-range_with_len}
use Rattle.cache_reader.specs.Cache.{CachedEntry, entry_at, nlibs, read}
use Rattle.serde_json.specs.Data.{Data}
use Rattle.serde_json.specs.View.{view}
use Rattle.serde_json.specs.declared.value.Value.{Value}
use Rattle.json_answers.specs.Cached.{entry_data}

-- the value of the next entry
pub value_more : (bytes : List ℕ) (i : ℕ) (vs : List Value) (v : Value) → i < length (read bytes) → map view vs ≡ map entry_data (take i (read bytes))
    → view v ≡ entry_data (entry_at bytes i) → map view (vs ++ v ∷ []) ≡ map entry_data (take (i + 1) (read bytes))
value_more bytes i vs v h so_far is =
    let size = length-map-range_with_len (entry_at bytes) 0 (nlibs bytes) in
    let item = get_or-map-range_with_len (entry_at bytes) 0 (nlibs bytes) i i (entry_at bytes i) (omega arith) (omega arith) in
    map-append view vs (v ∷ [])
    ∙ ap (λ (ds : List Data). ds ++ view v ∷ []) so_far
    ∙ ap (λ (d : Data). map entry_data (take i (read bytes)) ++ d ∷ []) (is ∙ ap entry_data (sym item))
    ∙ sym (map-append entry_data (take i (read bytes)) (get_or (read bytes) i (entry_at bytes i) ∷ []))
    ∙ sym (ap (map entry_data) (take_more (read bytes) i (entry_at bytes i) h))
