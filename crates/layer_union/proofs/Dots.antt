-- A path without a dot has no special component.
use Rattle.std.proofs.Common.{◌≡◌, ℕ, Bool, false, ◌&&◌, nat_eq, codes, List, [], ◌∷◌, refl, ap, ◌∙◌, arith}
use Rattle.std.proofs.lemmas.Bool.{or_from, or_parts}
use Rattle.std.proofs.lemmas.Bool.Decides.{nat_tests}
use Rattle.std.proofs.lemmas.List.Splits.{slice_split-cons_no, slice_split-cons_yes}
use Rattle.std.specs.List.{list_any, onto_first, slice_split, starts_with}
use Rattle.lib_types.proofs.SortedPairs.{by_test}
use Rattle.lib_types.specs.Bytes.{is_byte}
use Rattle.image_tree.specs.Paths.{is_slash}
use Rattle.layer_union.specs.Whiteouts.{is_special, prefix}

abbrev is_marked : List ℕ → Bool
is_marked name = starts_with nat_eq name prefix

module _ (x : ℕ) (other : is_byte 46 x ≡ false) where
  begins_else : (name : List ℕ) → is_marked (x ∷ name) ≡ false
  begins_else name =
      let flipped : nat_eq 46 x ≡ false = grind (arith, nat_tests) in
      ap (λ b. b && starts_with nat_eq name (codes "wh.")) flipped

  longer_first : (names : List (List ℕ)) → list_any is_marked names ≡ false → list_any is_marked (onto_first x names) ≡ false
  longer_first [] none = or_from _ _ (begins_else []) refl
  longer_first (name ∷ names) none = or_from _ _ (begins_else name) (or_parts (is_marked name) (list_any is_marked names) none).1

pub plain_without_dot : (path : List ℕ) → list_any (is_byte 46) path ≡ false → is_special path ≡ false
plain_without_dot [] none = refl
plain_without_dot (x ∷ path) none =
    let parts = or_parts (is_byte 46 x) (list_any (is_byte 46) path) none in
    let rest = plain_without_dot path parts.1 in
    by_test (is_slash x)
    (λ e. ap (list_any is_marked) (slice_split-cons_yes is_slash x path e) ∙ rest)
    (λ e. ap (list_any is_marked) (slice_split-cons_no is_slash x path e) ∙ longer_first x parts.0 (slice_split is_slash path) rest)
