-- First words that are a dot and a path.
use Rattle.std.proofs.Common.{◌≡◌, ◌≤◌, ℕ, Bool, true, false, leb, eqb, not, ◌&&◌, ◌||◌, List, [], ◌∷◌, length, drop, codes, Some, None, refl, ap, sym, subst, ◌∙◌, option_and_then, arith}
use Rattle.std.specs.Option.{option_map}
use Rattle.std.specs.List.{list_all, list_any, filter, slice_split, starts_with, flat_map, join_with_byte, AllByRecursion}
use Rattle.std.specs.Str.{bytes_eq}
use Rattle.std.proofs.lemmas.Bool.{and_parts, and_from, or_right, eqb-true, ne_eqb, cond-true}
use Rattle.std.proofs.lemmas.List.Splits.{join_with_byte-slice_split, length-slice_split}
use Rattle.lib_types.specs.Name.{is_name}
use Rattle.image_tree.specs.Paths.{is_slash, is_kept, is_path, are_names}
use Rattle.manifest_words.specs.Escape.{backslash}
use Rattle.manifest_words.specs.Keys.{fault_unless}
use Rattle.manifest_words.specs.Naming.{LeadsTo}
use Rattle.manifest_words.specs.Paths.{base_by, decoded_each, names_of, below, is_place, place_fault_of, path_of}
use Rattle.manifest_words.specs.declared.fault.LineKind.TheVariants.{BadLine}
use Rattle.manifest_words.proofs.Decoded.{none_is, other_decoded}
use Rattle.manifest_words.proofs.Escaping.{all_of_parts}
use Rattle.manifest_words.proofs.Names.{slashed, name_facts}
use Rattle.image_tree.specs.declared.path.TheConstants.{PATH_MAX}

-- a path begins with a slash
pub path_first : (path : List ℕ) → is_path path ≡ true → (rest : List ℕ) × (path ≡ 47 ∷ rest)
path_first [] proper = absurd (cc)
path_first (b ∷ rest) proper =
    let parts = and_parts (leb (length (b ∷ rest)) PATH_MAX && (eqb 47 b && true)) (are_names rest) proper in
    let first = and_parts (leb (length (b ∷ rest)) PATH_MAX) (eqb 47 b && true) parts.0 in
    (rest, ap (λ c. c ∷ rest) (sym (eqb-true 47 b (and_parts (eqb 47 b) true first.1).0)))

pub path_names : (rest : List ℕ) → is_path (47 ∷ rest) ≡ true → list_all is_name (slice_split is_slash rest) ≡ true
path_names rest proper = (and_parts _ (are_names rest) proper).1

slashed_all : (names : List (List ℕ)) → 1 ≤ length names → flat_map (λ n. 47 ∷ n) names ≡ 47 ∷ join_with_byte 47 names
slashed_all [] some = absurd (omega arith)
slashed_all (n ∷ ns) some = slashed n ns

-- a dot, a slash and a word that gives these names
module _ (rest word : List ℕ) (proper : is_path (47 ∷ rest) ≡ true) (found : names_of (46 ∷ 47 ∷ word) ≡ Some (slice_split is_slash rest)) where
  names : List (List ℕ)
  names = slice_split is_slash rest

  some_names : 1 ≤ length names
  unfolding names
  some_names = omega (arith, length-slice_split is_slash rest)

  names_path : below [] names ≡ 47 ∷ rest
  unfolding names
  names_path = slashed_all names some_names ∙ ap (λ r. 47 ∷ r) (join_with_byte-slice_split 47 rest)

  place_good : (d : Bool) → is_place d [] names ≡ true
  unfolding names
  place_good d =
      and_from (list_all is_name names && (d || not (eqb (length names) 0))) (eqb (length (below [] names)) 0 || is_path (below [] names))
      (and_from (list_all is_name names) (d || not (eqb (length names) 0)) (path_names rest proper) (or_right d (not (eqb (length names) 0)) (ap not (ne_eqb _ _ (λ e. absurd (omega (arith, some_names)))))))
      (or_right (eqb (length (below [] names)) 0) (is_path (below [] names)) (ap is_path names_path ∙ proper))

  pub leads_there : (current : List ℕ) → path_of (names_of (46 ∷ 47 ∷ word)) (base_by (46 ∷ 47 ∷ word) current) ≡ 47 ∷ rest
  unfolding names
  leads_there current = ap (λ ns. path_of ns []) found ∙ names_path

  pub leads_well : (d : Bool) (current : List ℕ) → place_fault_of d (base_by (46 ∷ 47 ∷ word) current) (46 ∷ 47 ∷ word) (names_of (46 ∷ 47 ∷ word)) ≡ None
  unfolding names
  leads_well d current =
      ap (place_fault_of d [] (46 ∷ 47 ∷ word)) found
      ∙ ap (λ t. fault_unless t BadLine) (place_good d)

-- ---- a path without escapes

name_kept : (name : List ℕ) → is_name name ≡ true → is_kept name ≡ true
name_kept name e =
    let facts = name_facts name e in
    and_from (not (eqb (length name) 0)) (not (bytes_eq name (codes ".")))
    (ap not (ne_eqb _ _ (λ same. absurd (omega (arith, facts.some))))) (ap not facts.no_dot)

all_kept : (names : List (List ℕ)) → list_all is_name names ≡ true → filter is_kept names ≡ names
all_kept [] good = refl
all_kept (name ∷ names) good =
    let parts = and_parts (is_name name) (list_all is_name names) good in
    cond-true (is_kept name) _ _ (name_kept name parts.0) ∙ ap (λ ns. name ∷ ns) (all_kept names parts.1)

each_decoded : (names : List (List ℕ)) → AllByRecursion (AllByRecursion (λ b. eqb b backslash ≡ false)) names → decoded_each names ≡ Some names
each_decoded [] all = refl
each_decoded (name ∷ names) all =
    ap (option_and_then (λ n. option_map (λ ns. n ∷ ns) (decoded_each names))) (other_decoded name all.0)
    ∙ ap (option_map (λ ns. name ∷ ns)) (each_decoded names all.1)

module _ (rest : List ℕ) (proper : is_path (47 ∷ rest) ≡ true) (plain : list_any (λ b. eqb b backslash) rest ≡ false) where
  names_direct : names_of (46 ∷ 47 ∷ rest) ≡ Some (slice_split is_slash rest)
  names_direct =
      ap decoded_each (all_kept (slice_split is_slash rest) (path_names rest proper))
      ∙ each_decoded (slice_split is_slash rest) (all_of_parts (λ b. eqb b backslash ≡ false) rest (none_is rest plain))

  direct : LeadsTo (46 ∷ 47 ∷ rest) (47 ∷ rest)
  direct = record { fault = leads_well rest rest proper names_direct; place = leads_there rest rest proper names_direct }

dotted : (path : List ℕ) → is_path path ≡ true → list_any (λ b. eqb b backslash) path ≡ false → LeadsTo (46 ∷ path) path
dotted path proper plain =
    let first = path_first path proper in
    subst (λ p. LeadsTo (46 ∷ p) p) (sym first.1)
    (direct first.0 (ap is_path (sym first.1) ∙ proper) (ap (list_any (λ b. eqb b backslash)) (sym first.1) ∙ plain))

pub dotted_path : (word : List ℕ) → starts_with eqb word (codes ".") ≡ true → is_path (drop 1 word) ≡ true → list_any (λ b. eqb b backslash) (drop 1 word) ≡ false → LeadsTo word (drop 1 word)
dotted_path [] dot proper plain = absurd (cc)
dotted_path (b ∷ path) dot proper plain =
    let first : 46 ≡ b = eqb-true 46 b (and_parts (eqb 46 b) true dot).0 in
    subst (λ c. LeadsTo (c ∷ path) path) first (dotted path proper plain)
