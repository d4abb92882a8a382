-- The path of each planned link has room: nothing or a link is there, and above it are directories.
use Rattle.std.proofs.Common.{◌≡◌, ◌⊎◌, inl, inr, ℕ, true, false, cond, not, ◌&&◌, ◌==◌, nat_lt, List, [], ◌∷◌, ◌++◌, append_assoc, length, refl, ap, sym, subst, ◌∙◌, Some}
use Rattle.std.proofs.lemmas.Bool.{and_parts, or_parts}
use Rattle.std.specs.List.{AllByRecursion}
use Rattle.std.specs.Str.{bytes_eq}
use Rattle.hwcap_dirs.specs.Places.{are_dirs, is_dir}
use Rattle.hwcap_dirs.specs.declared.kinds.Place.{Place}
use Rattle.lib_types.specs.Name.{have_no_slash, is_name, slash}
use Rattle.name_order.specs.LibraryName.{is_library_name}
use Rattle.path_walk.proofs.KindsAt.{dir_above}
use Rattle.path_walk.proofs.Linked.{folder_of_dir}
use Rattle.path_walk.specs.Names.{last}
use Rattle.path_walk.proofs.Last.{last_joined}
use Rattle.place_libraries.proofs.Named.{best_named}
use Rattle.place_libraries.specs.Best.{best, is_own}
use Rattle.place_libraries.specs.Libraries.{libraries_in}
use Rattle.file_table.specs.Analyses.{Analyses, HaveNames}
use Rattle.place_libraries.specs.Library.{Library}
use Rattle.image_tree.proofs.Below.{below_from, below_is}
use Rattle.image_tree.specs.Paths.{is_below, is_path, join, root, stem}
use Rattle.image_tree.specs.Tree.{Nodes, IsTree, kind_at}
use Rattle.image_tree.specs.declared.path.TheConstants.{PATH_MAX}
use Rattle.image_tree.specs.declared.tree.Kind.TheVariants as kinds
use Rattle.soname_links.proofs.Links.{IsLinkFor, each_link}
use Rattle.soname_links.proofs.Named.{is_dir_kind, link_named}
use Rattle.soname_links.specs.Plan.{is_taken, links}
use Rattle.link_plan.specs.declared.kinds.Planned.{Planned}

-- a path with a library name where nothing or a link is, and above it directories
pub record IsRoom (t : Nodes) (path : List ℕ) : Type 0 where
  pub proper : is_path path ≡ true
  pub name : is_library_name (last path) ≡ true
  pub free : is_taken (kind_at t path) ≡ false
  pub above : (q : List ℕ) → is_path q ≡ true → is_below q path ≡ true → kind_at t q ≡ kinds.Dir

abbrev pub HaveRoom : Nodes → List Planned → Type 0
HaveRoom t plan = AllByRecursion (λ planned. IsRoom t planned.path) plan

-- ---- the paths in a directory

no_slash_more : (q more : List ℕ) → have_no_slash (q ++ slash ∷ more) ≡ true → ⊥
no_slash_more [] more h = cc
no_slash_more (x ∷ q) more h = no_slash_more q more (and_parts (not (x == slash) && not (x == 0)) (have_no_slash (q ++ slash ∷ more)) h).1

-- what is above a name in a directory is the directory, or above it
above_name : (q more p name : List ℕ) → have_no_slash name ≡ true → q ++ slash ∷ more ≡ p ++ slash ∷ name → (q ≡ p) ⊎ ((rest : List ℕ) × (p ≡ q ++ slash ∷ rest))
above_name [] more [] name h e = inl refl
above_name [] more (y ∷ p) name h e = let same : y ≡ slash = cc in inr (p, ap (λ b. b ∷ p) same)
above_name (x ∷ q) more [] name h e =
    let same : name ≡ q ++ slash ∷ more = cc in
    absurd (no_slash_more q more (sym (ap have_no_slash same) ∙ h))
above_name (x ∷ q) more (y ∷ p) name h e =
    let first : x ≡ y = cc in
    let rest : q ++ slash ∷ more ≡ p ++ slash ∷ name = cc in
    by (above_name q more p name h rest) first
  where
    by : (q ≡ p) ⊎ ((rest : List ℕ) × (p ≡ q ++ slash ∷ rest)) → x ≡ y → (x ∷ q ≡ y ∷ p) ⊎ ((rest : List ℕ) × (y ∷ p ≡ (x ∷ q) ++ slash ∷ rest))
    by (inl same) first = inl (cc)
    by (inr (rest, whole)) first = inr (rest, ap (λ b. b ∷ p) (sym first) ∙ ap (λ z. x ∷ z) whole)

module _ (t : Nodes) (tree : IsTree t) (d name : List ℕ) (dir : kind_at t d ≡ kinds.Dir) (flat : have_no_slash name ≡ true) where
  above_path : (q : List ℕ) → is_path q ≡ true → is_path d ≡ true → (q ≡ d) ⊎ ((rest : List ℕ) × (d ≡ q ++ slash ∷ rest)) → kind_at t q ≡ kinds.Dir
  above_path q proper whole (inl same) = ap (kind_at t) same ∙ dir
  above_path q proper whole (inr (rest, cut)) = dir_above t tree q d proper whole (below_from q d rest proper cut) dir

  -- directories are above a name in a directory
  dirs_above : (q : List ℕ) → is_path q ≡ true → is_below q (join d name) ≡ true → kind_at t q ≡ kinds.Dir
  dirs_above q proper below =
      let cut = below_is q (join d name) proper below in
      let whole : q ++ slash ∷ cut.0 ≡ stem d ++ slash ∷ name = sym cut.1 ∙ append_assoc (stem d) root name in
      by (folder_of_dir t d dir) (above_name q cut.0 (stem d) name flat whole)
    where
      by : (d ≡ root) ⊎ ((bytes_eq d root ≡ false) × (is_path d ≡ true)) → (q ≡ stem d) ⊎ ((rest : List ℕ) × (stem d ≡ q ++ slash ∷ rest)) → kind_at t q ≡ kinds.Dir
      by (inl e) (inl same) =
          let empty : q ≡ [] = same ∙ ap stem e in
          let none : is_path q ≡ false = ap is_path empty in absurd (cc)
      by (inl e) (inr (rest, cut)) =
          let empty : [] ≡ q ++ slash ∷ rest = sym (ap stem e) ∙ cut in
          absurd (some_more q rest empty)
        where
          some_more : (q rest : List ℕ) → [] ≡ q ++ slash ∷ rest → ⊥
          some_more [] rest e = cc
          some_more (x ∷ q) rest e = cc
      by (inr path) (inl same) = above_path q proper path.1 (inl (same ∙ ap (λ b. cond b [] d) path.0))
      by (inr path) (inr (rest, cut)) = above_path q proper path.1 (inr (rest, sym (ap (λ b. cond b [] d) path.0) ∙ cut))

-- the path of a library name in a directory has room
room_of : (t : Nodes) (d name : List ℕ) → IsTree t → kind_at t d ≡ kinds.Dir → is_name name ≡ true → is_library_name name ≡ true → is_path (join d name) ≡ true
    → is_taken (kind_at t (join d name)) ≡ false → IsRoom t (join d name)
room_of t d name tree dir named library proper free = record {
  proper = proper;
  name = ap is_library_name (last_joined d name named) ∙ library;
  free = free;
  above = dirs_above t tree d name dir (and_parts _ _ (and_parts _ _ named).0).1;
}

-- ---- the planned links

module _ (what : Analyses) (named : HaveNames what) (t : Nodes) (tree : IsTree t) where
  link_has_room : (number : ℕ) (place : Place) (soname : List ℕ) (library : Library) (planned : Planned) → is_dir (kind_at t place.real) ≡ true
      → best (libraries_in what t place) soname ≡ Some library → IsLinkFor t place library planned → IsRoom t planned.path
  link_has_room number place soname library planned here e link =
      let path = join place.real library.soname in
      let names = and_parts (is_name library.name) (is_name library.soname) (best_named what t tree.entries named place soname library e) in
      let whole = and_parts (is_path planned.path) (is_name planned.file) (link_named what t tree.entries named number place soname library planned here e link) in
      let regarded = and_parts (is_library_name library.soname) (not (is_own library)) link.wanted in
      let free = (or_parts (nat_lt PATH_MAX (length path)) (is_taken (kind_at t path)) link.free).1 in
      subst (λ (p : List ℕ). IsRoom t p) link.path
      (room_of t place.real library.soname tree (is_dir_kind _ here) names.1 regarded.0 (ap is_path link.path ∙ whole.0) free)

  pub have_room : (places : List Place) → are_dirs t places ≡ true → HaveRoom t (links what t places)
  have_room = each_link what t (λ planned. IsRoom t planned.path) link_has_room
