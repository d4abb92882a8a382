-- Items that are processed in order, up to the first file that is missing.
use Rattle.std.proofs.Common.{◌≡◌, ◌+◌, ℕ, Bool, false, ◌||◌, cond, List, [], ◌∷◌, ◌++◌, length, refl, sym, ap, ◌∙◌, append_assoc, arith}
use Rattle.std.proofs.lemmas.List.{length-append}
use Rattle.std.proofs.lemmas.List.Concat.{flat_map-append}
use Rattle.std.proofs.lemmas.List.Folds.{list_any-append}
use Rattle.std.specs.List.{flat_map, list_any}
use Rattle.lib_types.proofs.SortedPairs.{by_test}
use Rattle.ldso_conf.specs.Reading.{Item, dir_in, is_missing, key_begun, origin_in, place_in, report_in, until_missing}
use Rattle.ldso_conf.specs.Visits.{Progress, HasTaken, with_items}

flat_more : {A B : Type 0} (f : A → List B) (r : List B) (xs ys : List A) → (r ++ flat_map f xs) ++ flat_map f ys ≡ r ++ flat_map f (xs ++ ys)
flat_more f r xs ys = append_assoc r (flat_map f xs) (flat_map f ys) ∙ ap (λ l. r ++ l) (sym (flat_map-append f xs ys))

more_files : (n : ℕ) (xs ys : List Item) → (n + length (flat_map key_begun xs)) + length (flat_map key_begun ys) ≡ n + length (flat_map key_begun (xs ++ ys))
more_files n xs ys = rw (flat_map-append key_begun xs ys, length-append (flat_map key_begun xs) (flat_map key_begun ys)) (omega arith)

pub with_more : (r : Progress) (xs ys : List Item) → with_items (with_items r xs) ys ≡ with_items r (xs ++ ys)
with_more r xs ys =
    rw (flat_more dir_in r.dirs xs ys, flat_more origin_in r.origins xs ys, flat_more report_in r.reports xs ys, flat_more place_in r.read xs ys, more_files r.files xs ys) refl

pub taken_more : (r s u : Progress) (xs ys : List Item) → HasTaken xs r s → HasTaken ys s u → HasTaken (xs ++ ys) r u
taken_more r s u xs ys first next = record {
  held = list_any-append is_missing xs ys ∙ ap (λ b. b || list_any is_missing ys) first.held ∙ next.held;
  reader = next.reader ∙ ap (λ p. with_items p ys) first.reader ∙ with_more r xs ys;
}

-- ---- up to the first file that is missing

-- the items that follow others; none if a file of those others is missing
abbrev pub following : Bool → List Item → List Item
following missing items = cond missing [] items

pub until_parts : (xs ys : List Item) → until_missing (xs ++ ys) ≡ until_missing xs ++ following (list_any is_missing xs) (until_missing ys)
until_parts [] ys = refl
until_parts (x ∷ xs) ys =
    by_test {P = until_missing ((x ∷ xs) ++ ys) ≡ until_missing (x ∷ xs) ++ following (list_any is_missing (x ∷ xs)) (until_missing ys)} (is_missing x)
    (λ e. rw e refl)
    (λ e. rw e (ap (λ l. x ∷ l) (until_parts xs ys)))

pub until_whole : (xs : List Item) → list_any is_missing xs ≡ false → until_missing xs ≡ xs
until_whole [] held = refl
until_whole (x ∷ xs) held =
    by_test {P = until_missing (x ∷ xs) ≡ x ∷ xs} (is_missing x)
    (λ e. absurd (let bad = rw e at held in cc bad))
    (λ e. rw e (ap (λ l. x ∷ l) (until_whole xs (rw e at held))))

-- items without a missing file, followed by others
pub until_after : (xs ys : List Item) → list_any is_missing xs ≡ false → until_missing (xs ++ ys) ≡ xs ++ until_missing ys
until_after xs ys held = until_parts xs ys ∙ rw (held, until_whole xs held) refl
