-- The records of the file, one after another.
use Rattle.std.proofs.Common.{◌≡◌, ℕ, ◌<◌, List, [], ◌∷◌, ◌++◌, length, map, flat_map, get_or, refl, sym, ap, subst, ◌∙◌, append_assoc, arith}
use Rattle.std.proofs.lemmas.List.{append-nil, get_or-map, length-map, map-append}
use Rattle.std.proofs.lemmas.List.Concat.{flat_map-append}
use Rattle.std.proofs.lemmas.List.Elements.{All-push}
use Rattle.byteorder.specs.Endian.{little_bytes}
use Rattle.cache_layout.specs.Layout.{laid_out}
use Rattle.string_pool.specs.InOrder.{Strings, table_of, place_of}
use Rattle.aux_cache.specs.AuxLayout.{magic, record_fields}
use Rattle.aux_cache.specs.AuxText.{analysis_fields, aux_text, header, numbers_of, record_bytes, soname_of, strings}
use Rattle.aux_cache.specs.Range.{IsInRange, AreInRange}
use Rattle.aux_cache.specs.Stamps.{IsRecordable, AreRecordable}
use Rattle.aux_cache.specs.declared.fields.AnalysisFields.{AnalysisFields}
use Rattle.aux_cache.specs.declared.layout.Version.TheVariants.{V1_1}
use Rattle.aux_cache.specs.declared.numbers.NumberedStamp.{NumberedStamp}
use Rattle.aux_cache.specs.declared.stamps.Stamp.{Stamp}

-- the fields of a record, one after another
pub put_fields : (s : Strings) (x : Stamp) (out : List ℕ) (f : AnalysisFields) (offset : ℕ) → f ≡ analysis_fields x.analysis offset → offset ≡ place_of s (soname_of x)
    → out ++ laid_out record_fields (x.id.inode ∷ x.id.ctime ∷ x.id.size ∷ x.id.dev ∷ numbers_of f) ≡ out ++ record_bytes (place_of s) x
unfolding record_bytes
put_fields s x out f offset is at = rw (is, at) refl

pub header_parts : (out : List ℕ) (records strings : ℕ) → ((out ++ magic V1_1) ++ little_bytes 4 records) ++ little_bytes 4 strings ≡ out ++ header records strings
unfolding header
header_parts out records strings = simp (append_assoc, append-nil)

records_are : (s : Strings) (ns : List NumberedStamp) → flat_map (λ n. record_bytes (place_of s) n.stamp.now) ns ≡ flat_map (record_bytes (place_of s)) (map (λ n. n.stamp.now) ns)
records_are s [] = refl
records_are s (n ∷ ns) = ap (λ rest. record_bytes (place_of s) n.stamp.now ++ rest) (records_are s ns)

pub joined : (xs ys : List Stamp) (ns : List NumberedStamp) (s : Strings) (out bytes : List ℕ) → ys ≡ xs → map (λ n. n.stamp.now) ns ≡ ys → s ≡ record { base = 0; texts = strings ys } → out ≡ [] → bytes ≡ table_of s.texts
    → ((out ++ header (length ys) (length bytes)) ++ flat_map (λ n. record_bytes (place_of s) n.stamp.now) ns) ++ bytes ≡ aux_text xs
unfolding aux_text
joined xs ys ns s out bytes same listed texts none all =
    rw (none, all, records_are s ns, listed, texts) (ap aux_text same)

-- ---- the loop over the stamps

pub records_step : (s : Strings) (start out new : List ℕ) (ns more : List NumberedStamp) (n : NumberedStamp) → more ≡ ns ++ n ∷ [] → out ≡ start ++ flat_map (λ n. record_bytes (place_of s) n.stamp.now) ns
    → new ≡ out ++ record_bytes (place_of s) n.stamp.now → new ≡ start ++ flat_map (λ n. record_bytes (place_of s) n.stamp.now) more
records_step s start out new ns more n next before put =
    let f : NumberedStamp → List ℕ = λ n. record_bytes (place_of s) n.stamp.now in
    rw (put, before, next, flat_map-append f ns (n ∷ []), append-nil (f n)) (append_assoc start (flat_map f ns) (f n))

pub range_step : (ns more : List NumberedStamp) (n : NumberedStamp) → more ≡ ns ++ n ∷ [] → AreInRange (map (λ n. n.stamp.now) ns) → IsInRange n.stamp.now → AreInRange (map (λ n. n.stamp.now) more)
range_step ns more n next all last =
    let now : NumberedStamp → Stamp = λ n. n.stamp.now in
    rw (next, map-append now ns (n ∷ [])) (All-push IsInRange (map now ns) n.stamp.now all last)

-- the stamp at this index can be recorded
pub item_recordable : (ns : List NumberedStamp) (i : ℕ) (n : NumberedStamp) → AreRecordable (map (λ n. n.stamp.now) ns) → i < length ns → n ≡ get_or ns i n → IsRecordable n.stamp.now.analysis
item_recordable ns i n all h is =
    let now : NumberedStamp → Stamp = λ n. n.stamp.now in
    let at : get_or (map now ns) i (now n) ≡ now n = get_or-map now ns i n (now n) h ∙ ap now (sym is) in
    let many : length (map now ns) ≡ length ns = length-map ns now in
    subst (λ (s : Stamp). IsRecordable s.analysis) at (all i (now n) (omega (arith, many, h)))
