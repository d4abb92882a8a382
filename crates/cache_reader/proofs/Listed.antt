-- The list of entries, by index.
use Rattle.std.proofs.Common.{◌≡◌, ℕ, ◌+◌, ◌<◌, ◌≤◌, List, [], ◌∷◌, ◌++◌, length, take, drop, get_or, flat_map, Some, None, sym, ap, ◌∙◌, arith}
use Rattle.std.proofs.lemmas.List.FromFn.{length-map-range_with_len, get_or-map-range_with_len}
use Rattle.std.proofs.lemmas.Option.{slice_get-get_or, slice_get_past}
use Rattle.std.proofs.lemmas.List.{append-nil, take_more, take-append-drop}
use Rattle.std.proofs.lemmas.List.Concat.{flat_map-append}
use Rattle.std.specs.List.{slice_get}
use Rattle.cache_reader.specs.Printed.{entry_line}
use Rattle.cache_reader.specs.Cache.{read, nlibs, entry_at}

pub length_read : (bytes : List ℕ) (n : ℕ) → n ≡ nlibs bytes → n ≡ length (read bytes)
length_read bytes n e = e ∙ sym (length-map-range_with_len (entry_at bytes) 0 (nlibs bytes))

pub within_read : (bytes : List ℕ) (i : ℕ) → i < length (read bytes) → i < nlibs bytes
within_read bytes i h = let size = length-map-range_with_len (entry_at bytes) 0 (nlibs bytes) in omega (arith, size)

pub read_past : (bytes : List ℕ) (n i : ℕ) → n ≡ nlibs bytes → n ≤ i → None ≡ slice_get (read bytes) i
read_past bytes n i e h = let size = length_read bytes n e in sym (slice_get_past (read bytes) i (omega arith))

pub read_within : (bytes : List ℕ) (n i : ℕ) → n ≡ nlibs bytes → i < n → Some (entry_at bytes i) ≡ slice_get (read bytes) i
read_within bytes n i e h =
    let size = length_read bytes n e in
    let item = get_or-map-range_with_len (entry_at bytes) 0 (nlibs bytes) i i (entry_at bytes i) (omega arith) (omega arith) in
    sym (slice_get-get_or (read bytes) i (entry_at bytes i) (omega arith) ∙ ap Some item)

-- ---- the lines of the entries, one after another

pub line_more : (bytes : List ℕ) (i : ℕ) → i < length (read bytes) → flat_map entry_line (take (i + 1) (read bytes)) ≡ flat_map entry_line (take i (read bytes)) ++ entry_line (entry_at bytes i)
line_more bytes i h =
    let size = length-map-range_with_len (entry_at bytes) 0 (nlibs bytes) in
    let item = get_or-map-range_with_len (entry_at bytes) 0 (nlibs bytes) i i (entry_at bytes i) (omega arith) (omega arith) in
    ap (flat_map entry_line) (take_more (read bytes) i (entry_at bytes i) h)
    ∙ flat_map-append entry_line (take i (read bytes)) (get_or (read bytes) i (entry_at bytes i) ∷ [])
    ∙ ap (λ (xs : List ℕ). flat_map entry_line (take i (read bytes)) ++ xs) (append-nil (entry_line (get_or (read bytes) i (entry_at bytes i))) ∙ ap entry_line item)

pub line_rest : (bytes : List ℕ) (i : ℕ) → i < length (read bytes)
    → (flat_map entry_line (take i (read bytes)) ++ entry_line (entry_at bytes i)) ++ flat_map entry_line (drop (i + 1) (read bytes)) ≡ flat_map entry_line (read bytes)
line_rest bytes i h =
    ap (λ (xs : List ℕ). xs ++ flat_map entry_line (drop (i + 1) (read bytes))) (sym (line_more bytes i h))
    ∙ sym (flat_map-append entry_line (take (i + 1) (read bytes)) (drop (i + 1) (read bytes)))
    ∙ ap (flat_map entry_line) (take-append-drop (i + 1) (read bytes))
