-- Paths whose directory is a known path or above it.
use Rattle.std.proofs.Common.{◌≡◌, inl, inr, ◌<◌, ◌≤◌, ◌-◌, ◌+◌, ℕ, true, false, leb, ltb, eqb, not, ◌&&◌, ◌||◌, List, [], ◌∷◌, ◌++◌, length, take, drop, get_or, refl, ap, sym, subst, ◌∙◌, length-append, take-append-drop, arith}
use Rattle.std.specs.List.{list_all, list_any, slice_split, onto_first, starts_with, All}
use Rattle.std.specs.Str.{is_utf8}
use Rattle.std.specs.Cmp.Lexicographic.{pointwise, same_text}
use Rattle.std.proofs.lemmas.Bool.{and_parts, and_from, or_parts, eqb-true, le-leb}
use Rattle.std.proofs.lemmas.List.{append-nil, drop_more}
use Rattle.std.proofs.lemmas.List.Elements.{All-cons, All-nil}
use Rattle.std.proofs.lemmas.List.Folds.{list_all-append, list_any-append}
use Rattle.std.proofs.lemmas.List.Splits.{slice_split-cons_yes, slice_split-cons_no, slice_split_none, length-slice_split}
use Rattle.lib_types.specs.Name.{is_name, is_plain_ascii, have_no_slash}
use Rattle.lib_types.proofs.Bools.{not_true}
use Rattle.lib_types.proofs.Plain.{plain_bytes}
use Rattle.lib_types.proofs.SortedPairs.{by_test}
use Rattle.image_tree.proofs.Prefixes.{parts_joined}
use Rattle.image_tree.specs.Paths.{is_slash, is_path, are_names, root}
use Rattle.manifest_words.specs.Escape.{backslash}
use Rattle.manifest_words.specs.Plain.{is_own, is_short, is_plain_path, IsKnown, IsAbove}
use Rattle.manifest_words.proofs.FullWords.{path_first, path_names}
use Rattle.image_tree.specs.declared.path.TheConstants.{PATH_MAX}

-- empty, or a slash and then names joined by slashes; without a backslash
record IsNamed (p : List ℕ) : Type 0 where
  names : List (List ℕ)
  split : slice_split is_slash p ≡ [] ∷ names
  good : list_all is_name names ≡ true
  plain : list_any (λ b. eqb b backslash) p ≡ false

named_path : (p : List ℕ) → is_plain_path p ≡ true → IsNamed p
named_path p h =
    let parts = and_parts (is_path p) (not (list_any (λ b. eqb b backslash) p)) h in
    let first = path_first p parts.0 in
    record {
      names = slice_split is_slash first.0;
      split = ap (slice_split is_slash) first.1 ∙ slice_split-cons_yes is_slash 47 first.0 refl;
      good = path_names first.0 (ap is_path (sym first.1) ∙ parts.0);
      plain = not_true _ parts.1;
    }

named_known : (p : List ℕ) → IsKnown p → IsNamed p
named_known p (inl none) = subst IsNamed (sym none) (record { names = []; split = refl; good = refl; plain = refl })
named_known p (inr path) = named_path p path

front_named : (folder : List ℕ) (a b names : List (List ℕ)) → slice_split is_slash folder ≡ a → 0 < length a → a ++ b ≡ [] ∷ names → list_all is_name names ≡ true → list_any (λ c. eqb c backslash) folder ≡ false → IsNamed folder
front_named folder [] b names e some h good plain = absurd (omega arith)
front_named folder (x ∷ a) b names e some h good plain =
    let head : x ≡ [] = cc in
    let tail : a ++ b ≡ names = cc in
    record {
      names = a;
      split = e ∙ ap (λ y. y ∷ a) head;
      good = (and_parts (list_all is_name a) (list_all is_name b) (sym (list_all-append is_name a b) ∙ ap (list_all is_name) tail ∙ good)).0;
      plain = plain;
    }

named_front : (folder rest : List ℕ) → IsNamed (folder ++ 47 ∷ rest) → IsNamed folder
named_front folder rest h =
    front_named folder (slice_split is_slash folder) (slice_split is_slash rest) h.names refl (omega (arith, length-slice_split is_slash folder))
    (sym (parts_joined folder rest) ∙ h.split) h.good
    (or_parts (list_any (λ b. eqb b backslash) folder) (list_any (λ b. eqb b backslash) (47 ∷ rest)) (sym (list_any-append (λ b. eqb b backslash) folder (47 ∷ rest)) ∙ h.plain)).0

named_above : (folder known : List ℕ) → IsAbove folder known → IsNamed known → IsNamed folder
named_above folder known (inl same) h = subst IsNamed same h
named_above folder known (inr more) h = named_front folder more.0 (subst IsNamed more.1 h)

-- ---- one more name

record IsOwn (name : List ℕ) : Type 0 where
  plain : is_plain_ascii name ≡ true
  split : All (λ b. is_slash b ≡ false) name
  direct : list_any (λ b. eqb b backslash) name ≡ false

own_bytes : (name : List ℕ) → list_all is_own name ≡ true → IsOwn name
own_bytes [] h = record { plain = refl; split = All-nil (λ b. is_slash b ≡ false); direct = refl }
own_bytes (b ∷ name) h =
    let parts = and_parts (is_own b) (list_all is_own name) h in
    let more = own_bytes name parts.1 in
    let ascii = and_parts (not (eqb b 47) && not (eqb b 0) && not (eqb b backslash)) (ltb b 128) parts.0 in
    let direct = and_parts (not (eqb b 47) && not (eqb b 0)) (not (eqb b backslash)) ascii.0 in
    let no_slash = and_parts (not (eqb b 47)) (not (eqb b 0)) direct.0 in
    record {
      plain = and_from (not (eqb b 47) && not (eqb b 0) && ltb b 128) (is_plain_ascii name) (and_from (not (eqb b 47) && not (eqb b 0)) (ltb b 128) direct.0 ascii.1) more.plain;
      split = All-cons (λ b. is_slash b ≡ false) b name (not_true (eqb b 47) no_slash.0) more.split;
      direct = ap (λ t. t || list_any (λ c. eqb c backslash) name) (not_true (eqb b backslash) direct.1) ∙ more.direct;
    }

own_name : (name : List ℕ) → list_all is_own name ≡ true → is_short name ≡ true → is_name name ≡ true
own_name name own short =
    let utf8 = and_parts (have_no_slash name) (is_utf8 name) (plain_bytes name (own_bytes name own).plain) in
    and_from (is_short name && have_no_slash name) (is_utf8 name) (and_from (is_short name) (have_no_slash name) short utf8.0) utf8.1

named_more : (folder name : List ℕ) → IsNamed folder → list_all is_own name ≡ true → is_short name ≡ true → IsNamed (folder ++ 47 ∷ name)
named_more folder name h own short =
    let facts = own_bytes name own in
    record {
      names = h.names ++ name ∷ [];
      split = parts_joined folder name ∙ ap (λ a. a ++ slice_split is_slash name) h.split ∙ ap (λ b. [] ∷ h.names ++ b) (slice_split_none is_slash name facts.split);
      good = list_all-append is_name h.names (name ∷ []) ∙ and_from (list_all is_name h.names) (list_all is_name (name ∷ [])) h.good (and_from (is_name name) true (own_name name own short) refl);
      plain = list_any-append (λ b. eqb b backslash) folder (47 ∷ name) ∙ ap (λ t. t || list_any (λ b. eqb b backslash) name) h.plain ∙ facts.direct;
    }

no_front : (b : ℕ) (parts names : List (List ℕ)) → 0 < length parts → onto_first b parts ≡ [] ∷ names → ⊥
no_front b [] names some h = absurd (omega arith)
no_front b (part ∷ parts) names some h = absurd (cc)

path_named : (b : ℕ) (rest : List ℕ) → IsNamed (b ∷ rest) → length (b ∷ rest) ≤ PATH_MAX → is_plain_path (b ∷ rest) ≡ true
path_named b rest h short = by_test (is_slash b)
    (λ e.
    let names : slice_split is_slash rest ≡ h.names = let z = sym (slice_split-cons_yes is_slash b rest e) ∙ h.split in cc in
    let first : eqb 47 b ≡ true = ap (λ c. eqb 47 c) (eqb-true b 47 e) in
    and_from (is_path (b ∷ rest)) (not (list_any (λ c. eqb c backslash) (b ∷ rest)))
    (and_from (leb (length (b ∷ rest)) PATH_MAX && starts_with eqb (b ∷ rest) root) (are_names rest)
    (and_from (leb (length (b ∷ rest)) PATH_MAX) (starts_with eqb (b ∷ rest) root) (le-leb _ _ short) (and_from (eqb 47 b) true first refl))
    (ap (list_all is_name) names ∙ h.good))
    (ap not h.plain))
    (λ e. absurd (no_front b (slice_split is_slash rest) h.names (omega (arith, length-slice_split is_slash rest)) (sym (slice_split-cons_no is_slash b rest e) ∙ h.split)))

path_of_named : (p : List ℕ) → IsNamed p → 0 < length p → length p ≤ PATH_MAX → is_plain_path p ≡ true
path_of_named [] h some short = absurd (omega arith)
path_of_named (b ∷ rest) h some short = path_named b rest h short

pub plain_next_to : (known path folder name : List ℕ) → IsKnown known → path ≡ folder ++ 47 ∷ name → list_all is_own name ≡ true → is_short name ≡ true → IsAbove folder known → length path ≤ PATH_MAX → is_plain_path path ≡ true
plain_next_to known path folder name is parts own short above fits =
    subst (λ p. is_plain_path p ≡ true) (sym parts)
    (path_of_named (folder ++ 47 ∷ name) (named_more folder name (named_above folder known above (named_known known is)) own short)
    (omega (arith, length-append folder (47 ∷ name))) (subst (λ p. length p ≤ PATH_MAX) parts fits))

-- ---- where the name begins

pub own_before : (path : List ℕ) (at : ℕ) → 0 < at → at ≤ length path → is_own (get_or path (at - 1) 0) ≡ true → list_all is_own (drop at path) ≡ true → list_all is_own (drop (at - 1) path) ≡ true
own_before path at some within own rest =
    let back : at - 1 + 1 ≡ at = omega arith in
    ap (list_all is_own) (drop_more path (at - 1) 0 (omega arith))
    ∙ and_from (is_own (get_or path (at - 1) 0)) (list_all is_own (drop (at - 1 + 1) path)) own (ap (λ n. list_all is_own (drop n path)) back ∙ rest)

pub divided_at : (path : List ℕ) (at : ℕ) → 0 < at → at ≤ length path → get_or path (at - 1) 0 ≡ 47 → path ≡ take (at - 1) path ++ 47 ∷ drop at path
divided_at path at some within slash =
    let back : at - 1 + 1 ≡ at = omega arith in
    sym (take-append-drop (at - 1) path)
    ∙ ap (λ r. take (at - 1) path ++ r) (drop_more path (at - 1) 0 (omega arith) ∙ ap (λ b. b ∷ drop (at - 1 + 1) path) slash ∙ ap (λ n. 47 ∷ drop n path) back)

-- ---- the rest of a path after its front

empty : (xs : List ℕ) → length xs ≡ 0 → xs ≡ []
empty [] e = refl
empty (x ∷ xs) e = absurd (omega arith)

module _ (folder path rest : List ℕ) (front : pointwise eqb (take (length folder) path) folder ≡ true) (following : rest ≡ drop (length folder) path) where
  parts : path ≡ folder ++ rest
  parts = sym (take-append-drop (length folder) path) ∙ ap (λ a. a ++ drop (length folder) path) (same_text (take (length folder) path) folder (sym front)) ∙ ap (λ a. folder ++ a) (sym following)

  pub above_end : length rest ≡ 0 → IsAbove folder path
  above_end none = inl (parts ∙ ap (λ a. folder ++ a) (empty rest none) ∙ append-nil folder)

  pub above_slash : 0 < length rest → eqb (get_or rest 0 0) 47 ≡ true → IsAbove folder path
  above_slash some slash = inr (drop 1 rest, parts ∙ ap (λ a. folder ++ a) (drop_more rest 0 0 some ∙ ap (λ b. b ∷ drop 1 rest) (eqb-true (get_or rest 0 0) 47 slash)))
