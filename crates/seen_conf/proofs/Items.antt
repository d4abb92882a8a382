-- Lists of items that are the same up to the first file that is missing.
use Rattle.std.proofs.Common.{◌≡◌, ℕ, Bool, false, cond, List, [], ◌∷◌, ◌++◌, refl, sym, subst, ap, ◌∙◌}
use Rattle.std.proofs.lemmas.Bool.{or_parts}
use Rattle.std.proofs.lemmas.List.Concat.{flat_map-append}
use Rattle.std.specs.List.{list_any}
use Rattle.lib_types.proofs.SortedPairs.{by_test}
use Rattle.conf_views.specs.declared.view.FoundFile.{FoundFile}
use Rattle.image_tree.specs.Tree.{Nodes}
use Rattle.ldso_conf.specs.Reading.{Item, asked_by, is_missing, until_missing}
use Rattle.ldso_conf.proofs.Asked.{step_items}
use Rattle.ldso_conf.specs.Looked.{item_paths, patterns_looked}
use Rattle.conf_views.specs.Patterns.{results_looked}
use Rattle.seen_tree.proofs.Same.{seen_parts}
use Rattle.seen_tree.specs.Part.{AreSeen}
use Rattle.ldso_conf.proofs.Items.{following}

abbrev pub lacks : List Item → Bool
lacks items = list_any is_missing items

-- a missing file is one of those items
lacks_until : (xs : List Item) → lacks (until_missing xs) ≡ lacks xs
lacks_until [] = refl
lacks_until (x ∷ xs) = by_test (is_missing x)
    (λ e. rw e refl)
    (λ e. rw e (lacks_until xs))

until_whole : (xs : List Item) → lacks xs ≡ false → until_missing xs ≡ xs
until_whole [] held = refl
until_whole (x ∷ xs) held =
    let parts = or_parts (is_missing x) (lacks xs) held in
    ap (λ b. x ∷ cond b [] (until_missing xs)) parts.0 ∙ ap (λ l. x ∷ l) (until_whole xs parts.1)

pub until_parts : (xs ys : List Item) → until_missing (xs ++ ys) ≡ until_missing xs ++ following (lacks xs) (until_missing ys)
until_parts [] ys = refl
until_parts (x ∷ xs) ys =
    by_test {P = until_missing ((x ∷ xs) ++ ys) ≡ until_missing (x ∷ xs) ++ following (lacks (x ∷ xs)) (until_missing ys)} (is_missing x)
    (λ e. rw e refl)
    (λ e. rw e (ap (λ l. x ∷ l) (until_parts xs ys)))

-- the items that follow need only be the same if no file of the first ones is missing
pub until_both : (xs new ys more : List Item) → until_missing new ≡ until_missing xs
    → (new ≡ xs → lacks xs ≡ false → until_missing more ≡ until_missing ys) → until_missing (new ++ more) ≡ until_missing (xs ++ ys)
until_both xs new ys more same rest =
    let lacking : lacks new ≡ lacks xs = sym (lacks_until new) ∙ ap lacks same ∙ lacks_until xs in
    let rest_same : following (lacks xs) (until_missing more) ≡ following (lacks xs) (until_missing ys) = by_test (lacks xs)
    (λ e. rw e refl)
    (λ e. rw e (rest (sym (until_whole new (lacking ∙ e)) ∙ same ∙ until_whole xs e) e)) in
    until_parts new more
    ∙ ap (λ l. l ++ following (lacks new) (until_missing more)) same
    ∙ ap (λ b. until_missing xs ++ following b (until_missing more)) lacking
    ∙ ap (λ l. until_missing xs ++ l) rest_same
    ∙ sym (until_parts xs ys)

-- ---- what gives the same items in a part of a tree

-- a way to read a file, given the files that were read before it
abbrev pub Files : Type 0
Files = List (List ℕ) → FoundFile → List Item

abbrev pub AreSame : List Item → List Item → Type 0
AreSame items new = until_missing new ≡ until_missing items

module _ (t part : Nodes) where
  -- all paths that these items look up were seen
  abbrev pub AreRead : List Item → Type 0
  AreRead items = AreSeen t part (patterns_looked t (until_missing items))

  pub read_parts : (xs ys : List Item) → AreRead (xs ++ ys)
      → AreRead xs × AreSeen t part (patterns_looked t (following (lacks xs) (until_missing ys)))
  read_parts xs ys all =
      let first = until_missing xs in
      let rest = following (lacks xs) (until_missing ys) in
      let parted : patterns_looked t (until_missing (xs ++ ys)) ≡ patterns_looked t first ++ patterns_looked t rest =
      ap (patterns_looked t) (until_parts xs ys) ∙ flat_map-append (item_paths (results_looked t)) first rest in
      seen_parts t part (patterns_looked t first) (patterns_looked t rest) (subst (AreSeen t part) parted all)

  -- two ways to read a file give the same items
  abbrev pub GiveSame : Files → Files → Type 0
  GiveSame file new = (before : List (List ℕ)) (f : FoundFile) → AreRead (file before f) → AreSame (file before f) (new before f)

  -- each step has the same items, if the files that it includes have
  pub step_same : (file new : Files) → GiveSame file new → (before : List (List ℕ)) (step : _) → AreRead (asked_by file before step)
      → AreSame (asked_by file before step) (asked_by new before step)
  step_same file new same before step = step_items (λ xs ys. AreRead xs → AreSame xs ys) file new before (λ item all. refl) (λ f. same before f) step
