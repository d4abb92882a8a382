-- Parts of one text stay as they are if bytes are appended to the text, or a row to the list of rows.
use Rattle.std.proofs.Common.{◌≡◌, ◌≤◌, ◌+◌, ◌-◌, ℕ, List, [], ◌∷◌, ◌++◌, length, map, drop, take, ap, refl, sym, ◌∙◌, arith}
use Rattle.std.proofs.Math.Seq.{drop-append_seam, take-length}
use Rattle.std.proofs.lemmas.List.{drop-append-le, length-append, length-drop, map-append, take-append-le}
use Rattle.std.specs.List.{AllByRecursion}
use Rattle.lib_types.specs.Part.{part_of, IsLonger, IsWithin}
use Rattle.lib_types.specs.declared.part.Part.{Part}

-- ---- a longer text

pub not_longer : (text : List ℕ) → IsLonger text text
not_longer text = ([], sym (append_none text))
  where
    append_none : (xs : List ℕ) → xs ++ [] ≡ xs
    append_none [] = refl
    append_none (x ∷ xs) = ap (λ l. x ∷ l) (append_none xs)

pub part_within : (count more : ℕ) (part : Part) → count ≤ more → IsWithin count part → IsWithin more part
part_within count more part le h = (h.0, omega arith)

pub part_kept : (text more : List ℕ) (part : Part) → IsWithin (length text) part → part_of (text ++ more) part ≡ part_of text part
part_kept text more part h =
    let size = length-drop part.from text in
    ap (take (part.to - part.from)) (drop-append-le part.from text more (omega arith)) ∙ take-append-le (part.to - part.from) (drop part.from text) more (omega arith)

-- ---- bytes that are added

module _ (old bytes : List ℕ) where
  abbrev added : Part
  added = record { from = length old; to = length old + length bytes }

  pub added_within : IsWithin (length (old ++ bytes)) added
  added_within = let size = length-append old bytes in (omega arith, omega arith)

  pub added_is : part_of (old ++ bytes) added ≡ bytes
  added_is =
      let count : length old + length bytes - length old ≡ length bytes = omega arith in
      ap (λ n. take n (drop (length old) (old ++ bytes))) count ∙ ap (take (length bytes)) (drop-append_seam old bytes) ∙ take-length bytes

-- ---- one more row, where the rows stay the same if the text grows

module _ {R X : Type 0} (item_in : List ℕ → R → X) (IsIn : ℕ → R → Type 0)
    (stays_in : (count more : ℕ) (row : R) → count ≤ more → IsIn count row → IsIn more row)
    (stays : (text more : List ℕ) (row : R) → IsIn (length text) row → item_in (text ++ more) row ≡ item_in text row) where
  still_in : (count more : ℕ) (rows : List R) → count ≤ more → AllByRecursion (IsIn count) rows → AllByRecursion (IsIn more) rows
  still_in count more [] le h = tt
  still_in count more (row ∷ rows) le h = (stays_in count more row le h.0, still_in count more rows le h.1)

  in_pushed : (count : ℕ) (rows : List R) (row : R) → AllByRecursion (IsIn count) rows → IsIn count row → AllByRecursion (IsIn count) (rows ++ row ∷ [])
  in_pushed count [] row h is = (is, tt)
  in_pushed count (r ∷ rows) row h is = (h.0, in_pushed count rows row h.1 is)

  all_stay : (text more : List ℕ) (rows : List R) → AllByRecursion (IsIn (length text)) rows → map (item_in (text ++ more)) rows ≡ map (item_in text) rows
  all_stay text more [] h = refl
  all_stay text more (row ∷ rows) h =
      ap (λ x. x ∷ map (item_in (text ++ more)) rows) (stays text more row h.0) ∙ ap (λ xs. item_in text row ∷ xs) (all_stay text more rows h.1)

  module _ (text new : List ℕ) (rows : List R) (longer : IsLonger text new) (within : AllByRecursion (IsIn (length text)) rows) where
    pub rows_within : AllByRecursion (IsIn (length new)) rows
    rows_within =
        let size : length new ≡ length text + length longer.0 = ap length longer.1 ∙ length-append text longer.0 in
        still_in (length text) (length new) rows (omega arith) within

    pub rows_kept : map (item_in new) rows ≡ map (item_in text) rows
    rows_kept = ap (λ z. map (item_in z) rows) longer.1 ∙ all_stay text longer.0 rows within

    pub pushed_within : (row : R) → IsIn (length new) row → AllByRecursion (IsIn (length new)) (rows ++ row ∷ [])
    pushed_within row is = in_pushed (length new) rows row rows_within is

    pub pushed : (row : R) (item : X) → item_in new row ≡ item → map (item_in new) (rows ++ row ∷ []) ≡ map (item_in text) rows ++ item ∷ []
    pushed row item e =
        map-append (item_in new) rows (row ∷ [])
        ∙ ap (λ x. map (item_in new) rows ++ x ∷ []) e
        ∙ ap (λ xs. xs ++ item ∷ []) rows_kept
