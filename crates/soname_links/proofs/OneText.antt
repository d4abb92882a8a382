-- Planned links of one path have one text.
use Rattle.std.proofs.Common.{◌≡◌, ℕ, true, not, ◌||◌, List, ap, sym, subst, ◌∙◌, Some}
use Rattle.std.proofs.lemmas.Bool.{and_parts}
use Rattle.std.proofs.lemmas.Slice.Eq.{bytes_eq-Decides}
use Rattle.std.specs.List.{filter_map, list_all}
use Rattle.std.specs.Str.{bytes_eq}
use Rattle.hwcap_dirs.specs.Places.{are_dirs, is_dir}
use Rattle.hwcap_dirs.specs.declared.kinds.Place.{Place}
use Rattle.lib_types.proofs.SortedPairs.{by_test}
use Rattle.lib_types.specs.Name.{is_name}
use Rattle.image_tree.specs.Paths.{join}
use Rattle.image_tree.specs.Tree.{Nodes, IsTree, children_of, kind_at}
use Rattle.path_walk.proofs.Linked.{folder_of_dir}
use Rattle.soname_links.proofs.Joined.{join_same}
use Rattle.soname_links.proofs.Links.{IsLinkFor, all_links}
use Rattle.place_libraries.proofs.Named.{best_has, best_named}
use Rattle.soname_links.proofs.Named.{is_dir_kind}
use Rattle.soname_links.proofs.Stays.{are_same, is_same_link}
use Rattle.place_libraries.specs.Best.{best}
use Rattle.place_libraries.specs.Libraries.{libraries_in, library_in}
use Rattle.soname_links.specs.Plan.{links}
use Rattle.file_table.specs.Analyses.{Analyses, HaveNames}
use Rattle.place_libraries.specs.Library.{Library}
use Rattle.link_plan.specs.declared.kinds.Planned.{Planned}

module _ (what : Analyses) (named : HaveNames what) (t : Nodes) (tree : IsTree t) where
  same_best : (place other : Place) (library more : Library) → place.real ≡ other.real → library.soname ≡ more.soname
      → best (libraries_in what t place) library.soname ≡ Some library → best (libraries_in what t other) more.soname ≡ Some more → library.name ≡ more.name
  same_best place other library more real soname e f =
      let libraries = λ (d : List ℕ). filter_map (library_in what t d) (children_of t d) in
      let moved : best (libraries other.real) library.soname ≡ Some library = subst (λ (d : List ℕ). best (libraries d) library.soname ≡ Some library) real e in
      let found : best (libraries other.real) more.soname ≡ Some library = subst (λ (s : List ℕ). best (libraries other.real) s ≡ Some library) soname moved in
      let both : Some library ≡ Some more = sym found ∙ f in
      let same : library ≡ more = cc in ap (λ (l : Library). l.name) same

  own_best : (place : Place) (soname : List ℕ) (library : Library) → best (libraries_in what t place) soname ≡ Some library → best (libraries_in what t place) library.soname ≡ Some library
  own_best place soname library e =
      subst (λ (s : List ℕ). best (libraries_in what t place) s ≡ Some library) (sym (best_has (libraries_in what t place) soname library e)) e

  module _ (place : Place) (soname : List ℕ) (library : Library) (here : is_dir (kind_at t place.real) ≡ true) (e : best (libraries_in what t place) soname ≡ Some library) where
    is_name_of : is_name library.soname ≡ true
    is_name_of = (and_parts (is_name library.name) (is_name library.soname) (best_named what t tree.entries named place soname library e)).1

    one_link : (number : ℕ) (other : Place) (other_soname : List ℕ) (more : Library) (planned : Planned) → is_dir (kind_at t other.real) ≡ true
        → best (libraries_in what t other) other_soname ≡ Some more → IsLinkFor t other more planned → is_same_link (join place.real library.soname) library.name planned ≡ true
    one_link number other other_soname more planned there f link =
        let path = join place.real library.soname in
        by_test (bytes_eq path planned.path)
        (λ same.
        let whole : path ≡ join other.real more.soname = (bytes_eq-Decides path planned.path).0 same ∙ sym link.path in
        let name = (and_parts (is_name more.name) (is_name more.soname) (best_named what t tree.entries named other other_soname more f)).1 in
        let parts = join_same place.real other.real library.soname more.soname
        (folder_of_dir t place.real (is_dir_kind _ here)) (folder_of_dir t other.real (is_dir_kind _ there)) is_name_of name whole in
        let text = same_best place other library more parts.0 parts.1 (own_best place soname library e) (own_best other other_soname more f) in
        ap (λ b. not b || bytes_eq planned.file library.name) same ∙ (bytes_eq-Decides planned.file library.name).1 (sym link.file ∙ sym text))
        (λ differ. ap (λ b. not b || bytes_eq planned.file library.name) differ)

    -- a link at the path of a best library's soname has that library's name
    pub one_text : (places : List Place) → are_dirs t places ≡ true → list_all (is_same_link (join place.real library.soname) library.name) (links what t places) ≡ true
    one_text places dirs = all_links what t (is_same_link (join place.real library.soname) library.name) one_link places dirs

  pub all_same : (places : List Place) → are_dirs t places ≡ true → list_all (are_same (links what t places)) (links what t places) ≡ true
  all_same places dirs = all_links what t (are_same plan) (λ number place soname library planned here e link.
      let whole = one_text place soname library here e places dirs in
      subst (λ (file : List ℕ). list_all (is_same_link planned.path file) plan ≡ true) link.file
      (subst (λ (path : List ℕ). list_all (is_same_link path library.name) plan ≡ true) link.path whole)) places dirs
    where
      plan : List Planned
      plan = links what t places
