-- Texts without a slash: each is one name.
use Rattle.std.proofs.Common.{◌≡◌, ℕ, List, [], ◌∷◌, false, ap, ◌∙◌, refl, filter, ◌++◌, cond, sym}
use Rattle.std.specs.List.{slice_split, AllByRecursion, onto_first}
use Rattle.image_tree.specs.Paths.{is_slash, is_kept, components, root, stem}
use Rattle.std.proofs.lemmas.List.Splits.{slice_split-cons_no, slice_split-cons_yes}
use Rattle.lib_types.proofs.SortedPairs.{by_test}
use Rattle.std.proofs.lemmas.Slice.Eq.{bytes_eq-Decides}
use Rattle.std.specs.Str.{bytes_eq}

-- the text has no slash
abbrev pub IsAlone : List ℕ → Type 0
IsAlone name = slice_split is_slash name ≡ name ∷ []

abbrev pub AreAlone : List (List ℕ) → Type 0
AreAlone = AllByRecursion IsAlone

pub one_more : (x : ℕ) (parts : List (List ℕ)) → is_slash x ≡ false → AreAlone parts → AreAlone (onto_first x parts)
one_more x [] e all = (slice_split-cons_no is_slash x [] e, tt)
one_more x (part ∷ parts) e all = (slice_split-cons_no is_slash x part e ∙ ap (onto_first x) all.0, all.1)

-- a part between two slashes has no slash
pub parts_alone : (text : List ℕ) → AreAlone (slice_split is_slash text)
parts_alone [] = (refl, tt)
parts_alone (x ∷ text) = by_test (is_slash x)
    (λ e. rw (slice_split-cons_yes is_slash x text e) (refl, parts_alone text))
    (λ e. rw (slice_split-cons_no is_slash x text e) (one_more x (slice_split is_slash text) e (parts_alone text)))

pub kept_alone : (parts : List (List ℕ)) → AreAlone parts → AreAlone (filter is_kept parts)
kept_alone [] all = tt
kept_alone (part ∷ parts) all = by_test (is_kept part)
    (λ e. rw e (all.0, kept_alone parts all.1))
    (λ e. rw e (kept_alone parts all.1))

pub components_alone : (text : List ℕ) → AreAlone (components text)
components_alone text = kept_alone (slice_split is_slash text) (parts_alone text)

pub both_alone : (names more : List (List ℕ)) → AreAlone names → AreAlone more → AreAlone (names ++ more)
both_alone [] more all rest = rest
both_alone (name ∷ names) more all rest = (all.0, both_alone names more all.1 rest)

pub of_folder : (text : List ℕ) → components (stem text) ≡ components text
of_folder text = by_test (bytes_eq text root)
    (λ e.
    let same : text ≡ root = (bytes_eq-Decides text root).0 e in
    ap (λ b. components (cond b [] text)) e ∙ ap components (sym same))
    (λ e. ap (λ b. components (cond b [] text)) e)
