-- The folder and the last name of a path.
use Rattle.std.proofs.Common.{◌≡◌, ◌+◌, ◌<◌, inl, inr, ℕ, suc, true, cond, List, [], ◌∷◌, ◌++◌, append_assoc, drop, length, length-append, refl, ap, sym, ◌∙◌, Option, Some, None, unwrap_or, arith, not, ◌&&◌, ◌==◌}
use Rattle.std.proofs.Math.Seq.{drop-append-add}
use Rattle.std.proofs.lemmas.Bool.{and_parts}
use Rattle.std.proofs.lemmas.List.Folds.{list_all-append}
use Rattle.std.proofs.lemmas.List.Splits.{length-slice_split, slice_split-cons_no, slice_split-cons_yes}
use Rattle.std.specs.List.{list_all, onto_first, slice_split}
use Rattle.lib_types.proofs.SortedPairs.{by_test}
use Rattle.lib_types.specs.Name.{is_name, slash, have_no_slash}
use Rattle.image_tree.specs.Paths.{is_path, is_slash, join, root, stem}
use Rattle.path_walk.proofs.Linked.{IsFolder, name_alone}
use Rattle.path_walk.specs.Names.{before_last, last, more_before, parent, unless_empty}
use Rattle.lib_types.proofs.Bools.{not_true}
use Rattle.image_tree.proofs.Rising.{first_name, name_goes_on}

-- ---- the last part of a text

-- the parts of a text, given what is before its last slash
abbrev with_last : List ℕ → Option (List ℕ) → List (List ℕ)
with_last text None = text ∷ []
with_last text (Some front) = slice_split is_slash front ++ drop (length front + 1) text ∷ []

one_more : (b : ℕ) (front text : List ℕ) → drop (length (b ∷ front) + 1) (b ∷ text) ≡ drop (length front + 1) text
one_more b front text = let more : length (b ∷ front) + 1 ≡ suc (length front + 1) = omega arith in ap (λ n. drop n (b ∷ text)) more

onto_front : (b : ℕ) (parts : List (List ℕ)) (part : List ℕ) → 0 < length parts → onto_first b (parts ++ part ∷ []) ≡ onto_first b parts ++ part ∷ []
onto_front b [] part some = absurd (omega arith)
onto_front b (first ∷ parts) part some = refl

-- the same with one more byte in front
begun : (b : ℕ) (text : List ℕ) (front : Option (List ℕ)) → slice_split is_slash text ≡ with_last text front → slice_split is_slash (b ∷ text) ≡ with_last (b ∷ text) (more_before b front)
begun b text None e = by_test (is_slash b)
    (λ s. slice_split-cons_yes is_slash b text s ∙ ap (λ parts. [] ∷ parts) e ∙ sym (ap (λ c. with_last (b ∷ text) (cond c (Some []) None)) s))
    (λ s. slice_split-cons_no is_slash b text s ∙ ap (onto_first b) e ∙ sym (ap (λ c. with_last (b ∷ text) (cond c (Some []) None)) s))
begun b text (Some front) e =
    let name = drop (length front + 1) text in
    let first : slice_split is_slash (b ∷ text) ≡ slice_split is_slash (b ∷ front) ++ name ∷ [] = by_test (is_slash b)
    (λ s.
    slice_split-cons_yes is_slash b text s ∙ ap (λ parts. [] ∷ parts) e
    ∙ ap (λ parts. parts ++ name ∷ []) (sym (slice_split-cons_yes is_slash b front s)))
    (λ s.
    slice_split-cons_no is_slash b text s ∙ ap (onto_first b) e
    ∙ onto_front b (slice_split is_slash front) name (omega (arith, length-slice_split is_slash front))
    ∙ ap (λ parts. parts ++ name ∷ []) (sym (slice_split-cons_no is_slash b front s))) in
    first ∙ ap (λ part. slice_split is_slash (b ∷ front) ++ part ∷ []) (sym (one_more b front text))

ends : (text : List ℕ) → slice_split is_slash text ≡ with_last text (before_last text)
ends [] = refl
ends (b ∷ text) = begun b text (before_last text) (ends text)

-- nothing is before the slash of one part
none_before : (name : List ℕ) → slice_split is_slash name ≡ name ∷ [] → before_last name ≡ None
none_before name alone = by (before_last name) (sym (ends name) ∙ alone)
  where
    by : (front : Option (List ℕ)) → with_last name front ≡ name ∷ [] → front ≡ None
    by None e = refl
    by (Some front) e =
        let size : length (slice_split is_slash front) + 1 ≡ 1 = sym (length-append (slice_split is_slash front) (drop (length front + 1) name ∷ [])) ∙ ap length e in
        absurd (omega (arith, length-slice_split is_slash front))

none_first : (b : ℕ) → unwrap_or (more_before b None) [] ≡ []
none_first b = by_test (is_slash b) (λ s. rw s refl) (λ s. rw s refl)

-- the last name of a path is a name
pub named_last : (path : List ℕ) → is_path path ≡ true → is_name (last path) ≡ true
named_last [] h = absurd (cc)
named_last (b ∷ rest) h = by (before_last rest) (sym (ap (list_all is_name) (ends rest)) ∙ (and_parts _ _ h).1)
  where
    by : (front : Option (List ℕ)) → list_all is_name (with_last rest front) ≡ true → is_name (drop (length (unwrap_or (more_before b front) []) + 1) (b ∷ rest)) ≡ true
    by None all = ap (λ (front : List ℕ). is_name (drop (length front + 1) (b ∷ rest))) (none_first b) ∙ (and_parts _ _ all).0
    by (Some front) all =
        let name = drop (length front + 1) rest in
        let both = and_parts _ _ (sym (list_all-append is_name (slice_split is_slash front) (name ∷ [])) ∙ all) in
        ap is_name (one_more b front rest) ∙ (and_parts _ _ both.1).0

-- ---- the path of a name in a folder

before_joined : (xs name : List ℕ) → before_last name ≡ None → before_last (xs ++ slash ∷ name) ≡ Some xs
before_joined [] name none = ap (more_before slash) none
before_joined (x ∷ xs) name none = ap (more_before x) (before_joined xs name none)

some_path : (p : List ℕ) → is_path p ≡ true → unless_empty p ≡ p
some_path [] h = absurd (cc)
some_path (b ∷ rest) h = refl

-- a folder's path is its stem, or the root
from_stem : (p : List ℕ) → IsFolder p → unless_empty (stem p) ≡ p
from_stem p (inl e) = ap (λ q. unless_empty (stem q)) e ∙ sym e
from_stem p (inr e) = ap (λ b. unless_empty (cond b [] p)) e.0 ∙ some_path p e.1

-- a text without a slash
module _ (folder name : List ℕ) (alone : slice_split is_slash name ≡ name ∷ []) where
  cut : before_last (join folder name) ≡ Some (stem folder)
  cut = ap before_last (append_assoc (stem folder) root name) ∙ before_joined (stem folder) name (none_before name alone)

  pub last_alone : last (join folder name) ≡ name
  last_alone =
      ap (λ front. drop (length (unwrap_or front []) + 1) (join folder name)) cut
      ∙ ap (drop (length (stem folder) + 1)) (append_assoc (stem folder) root name)
      ∙ drop-append-add (stem folder) (slash ∷ name) 1

module _ (folder name : List ℕ) (named : is_name name ≡ true) where
  pub last_joined : last (join folder name) ≡ name
  last_joined = last_alone folder name (name_alone name named)

  pub parent_joined : IsFolder folder → parent (join folder name) ≡ folder
  parent_joined is = ap (λ front. unless_empty (unwrap_or front [])) (cut folder name (name_alone name named)) ∙ from_stem folder is

pub first_alone : (name : List ℕ) → have_no_slash name ≡ true → first_name name ≡ name
first_alone [] h = refl
first_alone (b ∷ name) h =
    let parts = and_parts (not (b == slash) && not (b == 0)) (have_no_slash name) h in
    name_goes_on b name (not_true (b == slash) (and_parts _ _ parts.0).0) ∙ ap (λ z. b ∷ z) (first_alone name parts.1)
