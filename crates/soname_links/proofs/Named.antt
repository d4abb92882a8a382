-- The links of a plan have paths, and names as their texts.
use Rattle.std.proofs.Common.{◌≡◌, ℕ, true, false, nat_le, nat_lt, List, length, refl, subst, Some, arith}
use Rattle.std.proofs.lemmas.Bool.{and_from, and_parts, or_parts}
use Rattle.std.proofs.lemmas.Bool.Decides.{nat_tests}
use Rattle.std.specs.List.{list_all}
use Rattle.hwcap_dirs.specs.Places.{are_dirs, is_dir}
use Rattle.hwcap_dirs.specs.declared.kinds.Place.{Place}
use Rattle.lib_types.specs.Name.{is_name}
use Rattle.image_tree.specs.Paths.{is_path, join}
use Rattle.image_tree.specs.Tree.{Nodes, is_entry, kind_at}
use Rattle.image_tree.specs.declared.path.TheConstants.{PATH_MAX}
use Rattle.image_tree.specs.declared.tree.Kind.{Kind}
use Rattle.image_tree.specs.declared.tree.Kind.TheVariants as kinds
use Rattle.path_walk.proofs.Linked.{folder_of_dir}
use Rattle.place_libraries.proofs.Named.{best_named}
use Rattle.soname_links.proofs.Joined.{path_of_name}
use Rattle.soname_links.proofs.Links.{IsLinkFor, all_links}
use Rattle.soname_links.specs.Apply.{is_link, is_plan}
use Rattle.place_libraries.specs.Best.{best}
use Rattle.place_libraries.specs.Libraries.{libraries_in}
use Rattle.soname_links.specs.Plan.{is_taken, links}
use Rattle.file_table.specs.Analyses.{Analyses, HaveNames}
use Rattle.place_libraries.specs.Library.{Library}
use Rattle.link_plan.specs.declared.kinds.Planned.{Planned}

short : (n : ℕ) → nat_lt PATH_MAX n ≡ false → nat_le n PATH_MAX ≡ true
short n h = grind (arith, nat_tests)

pub is_dir_kind : (kind : Kind) → is_dir kind ≡ true → kind ≡ kinds.Dir
is_dir_kind kinds.Dir h = refl
is_dir_kind kinds.Absent h = absurd (cc)
is_dir_kind kinds.File h = absurd (cc)
is_dir_kind kinds.Link h = absurd (cc)

module _ (what : Analyses) (t : Nodes) (entries : list_all is_entry t ≡ true) (named : HaveNames what) where
  pub link_named : (number : ℕ) (place : Place) (soname : List ℕ) (library : Library) (planned : Planned) → is_dir (kind_at t place.real) ≡ true
      → best (libraries_in what t place) soname ≡ Some library → IsLinkFor t place library planned → is_link planned ≡ true
  link_named number place soname library planned here e link =
      let parts = and_parts (is_name library.name) (is_name library.soname) (best_named what t entries named place soname library e) in
      let path = join place.real library.soname in
      let few = short (length path) (or_parts (nat_lt PATH_MAX (length path)) (is_taken (kind_at t path)) link.free).0 in
      let proper = path_of_name place.real library.soname (folder_of_dir t place.real (is_dir_kind _ here)) parts.1 few in
      and_from _ _ (subst (λ (p : List ℕ). is_path p ≡ true) link.path proper) (subst (λ (f : List ℕ). is_name f ≡ true) link.file parts.0)

  pub links_named : (places : List Place) → are_dirs t places ≡ true → is_plan (links what t places) ≡ true
  links_named = all_links what t is_link link_named
