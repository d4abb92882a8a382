-- The part of a path before one of its slashes is a path.
use Rattle.std.proofs.Common.{◌≡◌, ◌+◌, ◌<◌, ℕ, true, false, cond, nat_le, List, [], ◌∷◌, ◌++◌, append_assoc, length, length-append, drop, refl, ap, sym, ◌∙◌, arith}
use Rattle.std.proofs.lemmas.Bool.{and_from, and_parts}
use Rattle.std.proofs.lemmas.Bool.Decides.{nat_tests}
use Rattle.std.proofs.lemmas.List.Folds.{list_all-append}
use Rattle.std.proofs.lemmas.List.Splits.{slice_split-cons_yes, slice_split-cons_no, length-slice_split}
use Rattle.std.specs.List.{list_all, slice_split, onto_first}
use Rattle.std.specs.Str.{bytes_eq}
use Rattle.lib_types.specs.Name.{is_name, slash}
use Rattle.lib_types.proofs.SortedPairs.{by_test}
use Rattle.image_tree.proofs.Rising.{below_rest}
use Rattle.image_tree.specs.Paths.{folder, is_below, is_path, is_slash, root, stem}
use Rattle.image_tree.specs.declared.path.TheConstants.{PATH_MAX}

onto_front : (x : ℕ) (a b : List (List ℕ)) → 0 < length a → onto_first x (a ++ b) ≡ onto_first x a ++ b
onto_front x [] b h = absurd (omega arith)
onto_front x (part ∷ a) b h = refl

-- the parts of two texts joined by a slash are the parts of both
pub parts_joined : (xs ys : List ℕ) → slice_split is_slash (xs ++ slash ∷ ys) ≡ slice_split is_slash xs ++ slice_split is_slash ys
parts_joined [] ys = slice_split-cons_yes is_slash slash ys refl
parts_joined (x ∷ xs) ys = by_test (is_slash x)
    (λ e.
    slice_split-cons_yes is_slash x (xs ++ slash ∷ ys) e ∙ ap (λ parts. [] ∷ parts) (parts_joined xs ys)
    ∙ ap (λ parts. parts ++ slice_split is_slash ys) (sym (slice_split-cons_yes is_slash x xs e)))
    (λ e.
    slice_split-cons_no is_slash x (xs ++ slash ∷ ys) e ∙ ap (onto_first x) (parts_joined xs ys)
    ∙ onto_front x (slice_split is_slash xs) (slice_split is_slash ys) (omega (arith, length-slice_split is_slash xs))
    ∙ ap (λ parts. parts ++ slice_split is_slash ys) (sym (slice_split-cons_no is_slash x xs e)))

-- a path without its last names is a path
pub path_above : (p rest : List ℕ) → (p ≡ [] → ⊥) → is_path (p ++ slash ∷ rest) ≡ true → is_path p ≡ true
path_above [] rest some h = absurd (some refl)
path_above (x ∷ p) rest some h =
    let parts = and_parts _ _ h in
    let first = and_parts (nat_le (length ((x ∷ p) ++ slash ∷ rest)) PATH_MAX) _ parts.0 in
    let size = length-append (x ∷ p) (slash ∷ rest) in
    let short : nat_le (length (x ∷ p)) PATH_MAX ≡ true = shorter (length (x ∷ p)) (length (slash ∷ rest)) (sym (ap (λ n. nat_le n PATH_MAX) size) ∙ first.0) in
    let split = sym (list_all-append is_name (slice_split is_slash p) (slice_split is_slash rest)) ∙ sym (ap (list_all is_name) (parts_joined p rest)) ∙ parts.1 in
    and_from _ _ (and_from _ _ short first.1) (and_parts _ _ split).0
  where
    shorter : (a b : ℕ) → nat_le (a + b) PATH_MAX ≡ true → nat_le a PATH_MAX ≡ true
    shorter a b h = grind (arith, nat_tests)

-- a text below which a path lies is the root, a path or empty
pub above_is_path : (p q : List ℕ) → (p ≡ [] → ⊥) → bytes_eq p root ≡ false → is_path q ≡ true → is_below p q ≡ true → is_path p ≡ true
above_is_path p q some other proper below =
    let rest = drop (length (folder p)) q in
    let whole : q ≡ p ++ slash ∷ rest = below_rest p q below ∙ append_assoc (stem p) root rest ∙ ap (λ b. cond b [] p ++ slash ∷ rest) other in
    path_above p rest some (sym (ap is_path whole) ∙ proper)
