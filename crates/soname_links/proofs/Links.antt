-- What holds of each link that is planned.
use Rattle.std.proofs.Common.{◌≡◌, ◌+◌, ◌++◌, ℕ, Bool, true, false, cond, not, ◌&&◌, ◌||◌, List, [], ◌∷◌, refl, ap, sym, ◌∙◌, Some, None}
use Rattle.std.proofs.lemmas.Bool.{and_from, and_parts, or_parts}
use Rattle.std.specs.List.{AllByRecursion, cons_option, filter_map, list_all}
use Rattle.hwcap_dirs.specs.Places.{are_dirs, is_dir}
use Rattle.hwcap_dirs.specs.declared.kinds.Place.{Place}
use Rattle.lib_types.proofs.Bools.{not_true}
use Rattle.lib_types.proofs.SortedPairs.{by_test}
use Rattle.image_tree.specs.Paths.{join}
use Rattle.image_tree.specs.Tree.{Nodes, kind_at}
use Rattle.place_libraries.specs.Best.{best, sonames}
use Rattle.place_libraries.specs.Libraries.{libraries_in}
use Rattle.library_files.specs.Places.{by_place, has_no_cap, links_to}
use Rattle.soname_links.specs.Plan.{is_blocked, is_regarded, link_for, links, links_in}
use Rattle.file_table.specs.Analyses.{Analyses}
use Rattle.place_libraries.specs.Library.{Library}
use Rattle.link_plan.specs.declared.kinds.Planned.{Planned}

-- the link is planned for this library
pub record IsLinkFor (t : Nodes) (place : Place) (library : Library) (planned : Planned) : Type 0 where
  pub wanted : is_regarded library ≡ true
  pub free : is_blocked t (join place.real library.soname) ≡ false
  pub path : join place.real library.soname ≡ planned.path
  pub file : library.name ≡ planned.file

pub link_is : (t : Nodes) (number : ℕ) (place : Place) (library : Library) (planned : Planned) → link_for t number place library ≡ Some planned → IsLinkFor t place library planned
link_is t number place library planned e =
    let path = join place.real library.soname in
    let made : Planned = record { place = number; soname = library.soname; file = library.name; path = path } in
    let wants = is_regarded library && not (is_blocked t path || links_to t path library.name) in
    by_test wants
    (λ w.
    let found : Some made ≡ Some planned = sym (ap (λ b. cond b (Some made) None) w) ∙ e in
    let same : made ≡ planned = cc in
    let parts = and_parts (is_regarded library) _ w in
    let free = (or_parts (is_blocked t path) (links_to t path library.name) (not_true _ parts.1)).0 in
    record { wanted = parts.0; free = free; path = ap (λ (p : Planned). p.path) same; file = ap (λ (p : Planned). p.file) same })
    (λ w. let none : None ≡ Some planned = sym (ap (λ b. cond b (Some made) None) w) ∙ e in absurd (cc))

module _ (what : Analyses) (t : Nodes) (P : Planned → Type 0)
    (holds : (number : ℕ) (place : Place) (soname : List ℕ) (library : Library) (planned : Planned) → is_dir (kind_at t place.real) ≡ true
    → best (libraries_in what t place) soname ≡ Some library → IsLinkFor t place library planned → P planned) where
  module _ (number : ℕ) (place : Place) (here : is_dir (kind_at t place.real) ≡ true) where
    abbrev some_links : List (List ℕ) → List Planned
    some_links names = filter_map (link_for t number place) (filter_map (best (libraries_in what t place)) names)

    of_sonames : (names : List (List ℕ)) → AllByRecursion P (some_links names)
    of_sonames [] = tt
    of_sonames (soname ∷ names) = elim (best (libraries_in what t place) soname) as (λ o. best (libraries_in what t place) soname ≡ o
        → AllByRecursion P (filter_map (link_for t number place) (cons_option o (filter_map (best (libraries_in what t place)) names)))) [
          | None ↦ λ e. of_sonames names
          | Some library ↦ λ e. elim (link_for t number place library) as (λ o. link_for t number place library ≡ o → AllByRecursion P (cons_option o (some_links names))) [
            | None ↦ λ f. of_sonames names
            | Some planned ↦ λ f. (holds number place soname library planned here e (link_is t number place library planned f), of_sonames names)
          ] refl
        ] refl

    of_place : AllByRecursion P (links_in what t number place)
    of_place = by_test (has_no_cap place)
        (λ e. rw e (of_sonames (sonames (libraries_in what t place))))
        (λ e. rw e tt)

  all_both : (first more : List Planned) → AllByRecursion P first → AllByRecursion P more → AllByRecursion P (first ++ more)
  all_both [] more all rest = rest
  all_both (planned ∷ first) more all rest = (all.0, all_both first more all.1 rest)

  of_places : (number : ℕ) (places : List Place) → are_dirs t places ≡ true → AllByRecursion P (by_place (links_in what t) number places)
  of_places number [] dirs = tt
  of_places number (place ∷ places) dirs =
      let parts = and_parts (is_dir (kind_at t place.real)) (are_dirs t places) dirs in
      all_both (links_in what t number place) (by_place (links_in what t) (number + 1) places) (of_place number place parts.0) (of_places (number + 1) places parts.1)

  -- what holds of the link for each best library in a directory holds of all links
  pub each_link : (places : List Place) → are_dirs t places ≡ true → AllByRecursion P (links what t places)
  unfolding links
  each_link places dirs = of_places 0 places dirs

all_pass : (test : Planned → Bool) (plan : List Planned) → AllByRecursion (λ planned. test planned ≡ true) plan → list_all test plan ≡ true
all_pass test [] all = refl
all_pass test (planned ∷ plan) all = and_from _ _ all.0 (all_pass test plan all.1)

-- the same of a test
pub all_links : (what : Analyses) (t : Nodes) (test : Planned → Bool)
    → ((number : ℕ) (place : Place) (soname : List ℕ) (library : Library) (planned : Planned) → is_dir (kind_at t place.real) ≡ true
    → best (libraries_in what t place) soname ≡ Some library → IsLinkFor t place library planned → test planned ≡ true)
    → (places : List Place) → are_dirs t places ≡ true → list_all test (links what t places) ≡ true
all_links what t test passes places dirs = all_pass test (links what t places) (each_link what t (λ planned. test planned ≡ true) passes places dirs)
