-- Walks in mode Plain lead to the same places in trees that are alike.
use Rattle.std.proofs.Common.{◌≡◌, ◌⊎◌, inl, inr, ℕ, zero, suc, true, false, cond, ◌&&◌, List, [], ◌∷◌, ◌++◌, codes, refl, ap, sym, ◌∙◌, Err}
use Rattle.std.specs.Str.{bytes_eq}
use Rattle.lib_types.proofs.SortedPairs.{by_test}
use Rattle.name_order.specs.LibraryName.{is_library_name}
use Rattle.image_tree.specs.Paths.{components, join, root}
use Rattle.image_tree.specs.Tree.{Nodes, kind_at}
use Rattle.image_tree.specs.declared.tree.Kind.{Kind}
use Rattle.image_tree.specs.declared.tree.Kind.TheVariants as kinds
use Rattle.path_walk.specs.Names.{parent}
use Rattle.path_walk.specs.Walk.{Stop, Ends, Follows, at_child, at_file, at_link, is_plain_mode, resolution, start_of, steps, target_at, target_in, walk}
use Rattle.path_walk.specs.declared.walk.Mode.{Mode}
use Rattle.path_walk.specs.declared.walk.Mode.TheVariants.{Plain}
use Rattle.path_walk.specs.declared.walk.TheConstants.{LINKS_MAX}
use Rattle.path_walk.specs.declared.walk.WalkFault.TheVariants.{Absent}
use Rattle.path_walk.proofs.Last.{last_alone}
use Rattle.planned_tree.proofs.Alike.{IsAlike, IsSame, IsSpot}
use Rattle.soname_links.specs.Plan.{is_taken}
use Rattle.path_walk.proofs.Alone.{IsAlone, AreAlone, components_alone, both_alone}

-- a link with a library name counts as absent
pub hidden : (name target : List ℕ) (rest : List (List ℕ)) (place : List ℕ) → is_library_name name ≡ true → at_link Plain name target rest place ≡ Ends (Err Absent)
hidden name target rest place h = ap (λ b. cond b (Ends (Err Absent)) (Follows (components target ++ rest) (start_of target place))) h

pub free_absent : (kind : Kind) (link file dir : Stop) → is_taken kind ≡ false → link ≡ Ends (Err Absent) → at_child kind link file dir ≡ Ends (Err Absent)
free_absent kinds.Link link file dir h e = e
free_absent kinds.Absent link file dir h e = refl
free_absent kinds.File link file dir h e = absurd (cc)
free_absent kinds.Dir link file dir h e = absurd (cc)

-- ---- what is left

abbrev IsLeft : Stop → Type 0
IsLeft (Ends result) = Unit {0}
IsLeft (Follows names place) = AreAlone names

module _ (t : Nodes) (mode : Mode) where
  left_link : (name target : List ℕ) (rest : List (List ℕ)) (place : List ℕ) → AreAlone rest → IsLeft (at_link mode name target rest place)
  left_link name target rest place all = by_test (is_plain_mode mode && is_library_name name)
      (λ e. rw e tt)
      (λ e. rw e (both_alone (components target) rest (components_alone target) all))

  left_file : (rest : List (List ℕ)) (place : List ℕ) → IsLeft (at_file rest place)
  left_file [] place = tt
  left_file (name ∷ rest) place = tt

  left_child : (kind : Kind) (link file dir : Stop) → IsLeft link → IsLeft file → IsLeft dir → IsLeft (at_child kind link file dir)
  left_child kinds.Absent link file dir l f d = tt
  left_child kinds.Link link file dir l f d = l
  left_child kinds.File link file dir l f d = f
  left_child kinds.Dir link file dir l f d = d

  left : (names : List (List ℕ)) (place : List ℕ) → AreAlone names → IsLeft (steps t mode names place)
  left [] place all = tt
  left (name ∷ rest) place all =
      let path = join place name in
      by_test (bytes_eq name (codes ".."))
      (λ e. rw e (left rest (parent place) all.1))
      (λ e.
      rw e (left_child (kind_at t path) (at_link mode name (target_at t path) rest place) (at_file rest path) (steps t mode rest path)
      (left_link name (target_at t path) rest place all.1) (left_file rest path) (left rest path all.1)))

-- ---- the walks

module _ (t new : Nodes) (alike : IsAlike t new) where
  child_same : (name : List ℕ) (rest : List (List ℕ)) (place : List ℕ) (first second : Stop) → IsAlone name → first ≡ second
      → IsSame t new (join place name) ⊎ (IsSpot t (join place name) × IsSpot new (join place name))
      → at_child (kind_at new (join place name)) (at_link Plain name (target_at new (join place name)) rest place) (at_file rest (join place name)) first
      ≡ at_child (kind_at t (join place name)) (at_link Plain name (target_at t (join place name)) rest place) (at_file rest (join place name)) second
  child_same name rest place first second alone e (inl same) =
      let path = join place name in
      ap (λ k. at_child k (at_link Plain name (target_at new path) rest place) (at_file rest path) first) same.kind
      ∙ ap (λ o. at_child (kind_at t path) (at_link Plain name (target_in o) rest place) (at_file rest path) first) same.node
      ∙ ap (at_child (kind_at t path) (at_link Plain name (target_at t path) rest place) (at_file rest path)) e
  child_same name rest place first second alone e (inr spots) =
      let path = join place name in
      let library : is_library_name name ≡ true = sym (ap is_library_name (last_alone place name alone)) ∙ spots.0.name in
      free_absent (kind_at new path) (at_link Plain name (target_at new path) rest place) (at_file rest path) first spots.1.kind (hidden name (target_at new path) rest place library)
      ∙ sym (free_absent (kind_at t path) (at_link Plain name (target_at t path) rest place) (at_file rest path) second spots.0.kind (hidden name (target_at t path) rest place library))

  steps_same : (names : List (List ℕ)) (place : List ℕ) → AreAlone names → steps new Plain names place ≡ steps t Plain names place
  steps_same [] place all = refl
  steps_same (name ∷ rest) place all =
      let path = join place name in
      let child = child_same name rest place (steps new Plain rest path) (steps t Plain rest path) all.0 (steps_same rest path all.1) (alike path) in
      by_test (bytes_eq name (codes ".."))
      (λ e. rw e (steps_same rest (parent place) all.1))
      (λ e. rw e child)

  walk_same : (links : ℕ) (stop : Stop) → IsLeft stop → walk new Plain links stop ≡ walk t Plain links stop
  walk_same zero (Ends result) h = refl
  walk_same (suc links) (Ends result) h = refl
  walk_same zero (Follows names place) h = refl
  walk_same (suc links) (Follows names place) h =
      ap (walk new Plain links) (steps_same names place h) ∙ walk_same links (steps t Plain names place) (left t Plain names place h)

  -- a text leads to the same place
  pub same_place : (text : List ℕ) → resolution new text Plain ≡ resolution t text Plain
  unfolding resolution
  same_place text =
      let all = components_alone text in
      ap (walk new Plain LINKS_MAX) (steps_same (components text) root all)
      ∙ walk_same LINKS_MAX (steps t Plain (components text) root) (left t Plain (components text) root all)
