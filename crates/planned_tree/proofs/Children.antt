-- Trees that are alike have the same children in each directory, except links with library names.
use Rattle.std.proofs.Common.{◌≡◌, ◌⊎◌, inl, inr, ℕ, Bool, true, false, not, ◌&&◌, ◌||◌, List, [], ◌∷◌, filter, refl, ap, sym, subst, ◌∙◌}
use Rattle.std.proofs.lemmas.Bool.{and_from, and_parts}
use Rattle.std.proofs.lemmas.List.Kept.{IsStrictlySortedBy-filter}
use Rattle.std.proofs.lemmas.Slice.Eq.{bytes_eq-Decides}
use Rattle.std.specs.Cmp.Lexicographic.{slice_cmp}
use Rattle.std.specs.List.{dedup, list_all}
use Rattle.std.specs.Ordering.{nat_cmp}
use Rattle.std.specs.Str.{bytes_eq}
use Rattle.conf_patterns.specs.Patterns.{is_library_link, is_link}
use Rattle.hwcap_dirs.specs.Places.{is_dir}
use Rattle.hwcap_dirs.proofs.Children.{children_named}
use Rattle.lib_types.proofs.SortedPairs.{by_test}
use Rattle.lib_types.specs.Name.{is_name}
use Rattle.name_order.specs.LibraryName.{is_library_name}
use Rattle.image_tree.proofs.Rising.{children_sorted}
use Rattle.image_tree.specs.Paths.{join}
use Rattle.image_tree.specs.Tree.{Nodes, IsTree, children_of, kind_at, names_below, of_dir}
use Rattle.image_tree.specs.declared.tree.Kind.{Kind}
use Rattle.image_tree.specs.declared.tree.Kind.TheVariants as kinds
use Rattle.planned_tree.proofs.Alike.{IsAlike, IsSame, IsSpot, same_dir, turned}
use Rattle.soname_links.specs.Plan.{is_taken}
use Rattle.soname_links.proofs.Named.{is_dir_kind}
use Rattle.path_walk.proofs.Last.{last_joined}
use Rattle.string_pool.proofs.Members.{is_in, kept_in, same_members}
use Rattle.planned_tree.proofs.There.{child_there, there_child}
use Rattle.lib_types.proofs.Bools.{both_ways}

-- not a link with a library name
abbrev pub is_kept : Nodes → List ℕ → List ℕ → Bool
is_kept t d name = not (is_library_link t d name)

abbrev pub children_kept : Nodes → List ℕ → List (List ℕ)
children_kept t d = filter (is_kept t d) (children_of t d)

all_in : (p : List ℕ → Bool) (z : List ℕ) (names : List (List ℕ)) → list_all p names ≡ true → is_in names z ≡ true → p z ≡ true
all_in p z [] all h = absurd (cc)
all_in p z (name ∷ names) all h =
    let parts = and_parts (p name) (list_all p names) all in
    by_test (bytes_eq z name)
    (λ e. subst (λ (x : List ℕ). p x ≡ true) (sym ((bytes_eq-Decides z name).0 e)) parts.0)
    (λ e. all_in p z names parts.1 (sym (ap (λ b. b || is_in names z) e) ∙ h))

free_there : (k : Kind) → is_taken k ≡ false → (k ≡ kinds.Absent → ⊥) → is_link k ≡ true
free_there kinds.Link h there = refl
free_there kinds.Absent h there = absurd (there refl)
free_there kinds.File h there = absurd (cc)
free_there kinds.Dir h there = absurd (cc)

module _ (t new : Nodes) (tree : IsTree t) (after : IsTree new) (d : List ℕ) (dir : kind_at t d ≡ kinds.Dir) (still : kind_at new d ≡ kinds.Dir) (z : List ℕ) where
  kept_there : (kept : is_kept t d z ≡ true) → is_in (children_of t d) z ≡ true → IsSame t new (join d z) ⊎ (IsSpot t (join d z) × IsSpot new (join d z))
      → is_in (children_kept new d) z ≡ true
  kept_there kept h (inl same) =
      let named = all_in is_name z (children_of t d) (children_named t d tree.entries) h in
      let there = child_there t tree.entries d dir z h in
      kept_in (is_kept new d) z (children_of new d)
      ∙ and_from _ _ (ap (λ k. not (is_library_name z && is_link k)) same.kind ∙ kept) (there_child new after.entries d still z named (λ a. there (sym same.kind ∙ a)))
  kept_there kept h (inr spots) =
      let named = all_in is_name z (children_of t d) (children_named t d tree.entries) h in
      let library : is_library_name z ≡ true = sym (ap is_library_name (last_joined d z named)) ∙ spots.0.name in
      let link = free_there (kind_at t (join d z)) spots.0.kind (child_there t tree.entries d dir z h) in
      let left : is_library_link t d z ≡ true = and_from _ _ library link in
      let gone : is_kept t d z ≡ false = ap not left in
      absurd (cc)

  kept_stays : IsAlike t new → is_in (children_kept t d) z ≡ true → is_in (children_kept new d) z ≡ true
  kept_stays alike h =
      let parts = and_parts (is_kept t d z) (is_in (children_of t d) z) (sym (kept_in (is_kept t d) z (children_of t d)) ∙ h) in
      kept_there parts.0 parts.1 (alike (join d z))

no_children : (t : Nodes) (d : List ℕ) → is_dir (kind_at t d) ≡ false → children_of t d ≡ []
no_children t d h = by (kind_at t d) h
  where
    by : (k : Kind) → is_dir k ≡ false → of_dir k (dedup bytes_eq (names_below t d)) ≡ []
    by kinds.Dir h = absurd (cc)
    by kinds.Absent h = refl
    by kinds.File h = refl
    by kinds.Link h = refl

module _ (t new : Nodes) (tree : IsTree t) (after : IsTree new) (alike : IsAlike t new) (d : List ℕ) where
  pub same_kept : children_kept new d ≡ children_kept t d
  same_kept = by_test (is_dir (kind_at t d))
      (λ e.
      let dir = is_dir_kind (kind_at t d) e in
      let still = is_dir_kind (kind_at new d) (same_dir t new alike d ∙ e) in
      same_members (children_kept new d) (children_kept t d)
      (IsStrictlySortedBy-filter (slice_cmp nat_cmp) (is_kept new d) (children_of new d) (children_sorted new d after.sorted))
      (IsStrictlySortedBy-filter (slice_cmp nat_cmp) (is_kept t d) (children_of t d) (children_sorted t d tree.sorted))
      (λ z. both_ways (is_in (children_kept new d) z) (is_in (children_kept t d) z)
      (kept_stays new t after tree d still dir z (turned t new alike)) (kept_stays t new tree after d dir still z alike)))
      (λ e. ap (filter (is_kept new d)) (no_children new d (same_dir t new alike d ∙ e)) ∙ sym (ap (filter (is_kept t d)) (no_children t d e)))
