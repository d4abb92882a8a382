-- Names and the paths made of them.
use Rattle.std.proofs.Common.{◌≡◌, ◌≤◌, ℕ, true, false, leb, eqb, not, ◌&&◌, List, [], ◌∷◌, ◌++◌, length, drop, codes, refl, ap, subst, ◌∙◌, length-append, length-drop, arith}
use Rattle.std.specs.List.{list_all, join_with_byte, slice_split, starts_with, flat_map}
use Rattle.std.specs.Str.{IsUtf8, is_utf8, bytes_eq}
use Rattle.std.proofs.lemmas.Bool.{and_parts, and_from, or_parts, le-leb, leb-true, not-true}
use Rattle.std.proofs.lemmas.List.{append-nil}
use Rattle.std.proofs.lemmas.List.Folds.{list_all-append}
use Rattle.std.proofs.lemmas.List.Splits.{join_with_byte-slice_split, length-slice_split}
use Rattle.std.proofs.lemmas.Str.{IsUtf8-append, IsUtf8-from_ascii, IsUtf8-from_is_utf8, is_utf8-from_IsUtf8}
use Rattle.std.proofs.lemmas.Str.Ascii.{IsAscii-cons}
use Rattle.lib_types.specs.Name.{is_name, are_dots, have_no_slash}
use Rattle.image_tree.specs.Node.{is_key, is_target, has_no_nul}
use Rattle.image_tree.specs.Paths.{is_path, are_names, root}
use Rattle.image_tree.specs.declared.path.TheConstants.{PATH_MAX}
use Rattle.image_tree.specs.declared.node.TheConstants.{NODE_TEXT_MAX}

-- the properties of a name
pub record IsName (name : List ℕ) : Type 0 where
  pub some : 1 ≤ length name
  pub clear : have_no_slash name ≡ true
  pub utf8 : is_utf8 name ≡ true
  pub no_dot : bytes_eq name (codes ".") ≡ false

pub name_facts : (name : List ℕ) → is_name name ≡ true → IsName name
name_facts name e =
    let utf8 = and_parts _ (is_utf8 name) e in
    let clear = and_parts _ (have_no_slash name) utf8.0 in
    let no_dots = and_parts _ (not (are_dots name)) clear.0 in
    let no_dot = or_parts (bytes_eq name (codes ".")) (bytes_eq name (codes "..")) (not-true _ no_dots.1) in
    let bounds = and_parts (leb 1 (length name)) (leb (length name) 255) no_dots.0 in
    record { some = leb-true 1 (length name) bounds.0; clear = clear.1; utf8 = utf8.1; no_dot = no_dot.0 }

pub no_nul : (bytes : List ℕ) → have_no_slash bytes ≡ true → has_no_nul bytes ≡ true
no_nul [] e = refl
no_nul (b ∷ bytes) e =
    let parts = and_parts (not (eqb b 47) && not (eqb b 0)) (have_no_slash bytes) e in
    and_from (not (eqb b 0)) (has_no_nul bytes) (and_parts (not (eqb b 47)) (not (eqb b 0)) parts.0).1 (no_nul bytes parts.1)

-- names with a slash before each are a slash and the names joined by slashes
pub slashed : (name : List ℕ) (names : List (List ℕ)) → flat_map (λ n. 47 ∷ n) (name ∷ names) ≡ 47 ∷ join_with_byte 47 (name ∷ names)
slashed name [] = ap (λ n. 47 ∷ n) (append-nil name)
slashed name (next ∷ names) = ap (λ rest. 47 ∷ name ++ rest) (slashed next names)

-- bytes that may be a part of a key
record IsText (bytes : List ℕ) : Type 0 where
  some : 1 ≤ length bytes
  no_nul : has_no_nul bytes ≡ true
  utf8 : IsUtf8 bytes

name_text : (name : List ℕ) → is_name name ≡ true → IsText name
name_text name e =
    let facts = name_facts name e in
    record { some = facts.some; no_nul = no_nul name facts.clear; utf8 = IsUtf8-from_is_utf8 name facts.utf8 }

-- names joined by slashes
joined_text : (name : List ℕ) (names : List (List ℕ)) → list_all is_name (name ∷ names) ≡ true → IsText (join_with_byte 47 (name ∷ names))
joined_text name [] good = name_text name (and_parts (is_name name) true good).0
joined_text name (next ∷ names) good =
    let parts = and_parts (is_name name) (list_all is_name (next ∷ names)) good in
    let first = name_text name parts.0 in
    let rest = joined_text next names parts.1 in
    let following = 47 ∷ join_with_byte 47 (next ∷ names) in
    let slash : IsUtf8 (47 ∷ []) = IsUtf8-from_ascii (47 ∷ []) (IsAscii-cons 47 [] (omega arith) (λ i. omega arith)) in
    record {
      some = omega (arith, length-append name following, first.some);
      no_nul = list_all-append (λ b. not (eqb b 0)) name following ∙ and_from (has_no_nul name) (has_no_nul following) first.no_nul rest.no_nul;
      utf8 = IsUtf8-append name following first.utf8 (IsUtf8-append (47 ∷ []) (join_with_byte 47 (next ∷ names)) slash rest.utf8);
    }

all_text : (names : List (List ℕ)) → 1 ≤ length names → list_all is_name names ≡ true → IsText (join_with_byte 47 names)
all_text [] some good = absurd (omega arith)
all_text (name ∷ names) some good = joined_text name names good

-- a path without its first slash is a key
pub path_key : (path : List ℕ) → is_path path ≡ true → is_key (drop 1 path) ≡ true
path_key path proper =
    let parts = and_parts (leb (length path) PATH_MAX && starts_with eqb path root) (are_names (drop 1 path)) proper in
    let short = leb-true (length path) PATH_MAX (and_parts (leb (length path) PATH_MAX) (starts_with eqb path root) parts.0).0 in
    let split = slice_split (λ b. eqb b 47) (drop 1 path) in
    let text : IsText (drop 1 path) =
    subst IsText (join_with_byte-slice_split 47 (drop 1 path)) (all_text split (omega (arith, length-slice_split (λ b. eqb b 47) (drop 1 path))) parts.1) in
    let key = drop 1 path in
    let less = length-drop 1 path in
    and_from (is_target key) (is_utf8 key)
    (and_from (leb 1 (length key) && leb (length key) NODE_TEXT_MAX) (has_no_nul key)
    (and_from (leb 1 (length key)) (leb (length key) NODE_TEXT_MAX) (le-leb 1 (length key) text.some) (le-leb (length key) NODE_TEXT_MAX (omega arith)))
    text.no_nul)
    (is_utf8-from_IsUtf8 key text.utf8)
