-- A tree with a part of its planned links: the original tree with these links is this tree, and this tree with the missing links
-- is the planned tree.
use Rattle.std.proofs.Common.{◌≡◌, ◌⊎◌, inl, inr, ℕ, Bool, true, false, not, ◌||◌, List, [], ◌∷◌, filter, refl, ap, sym, subst, ◌∙◌, Option, Some, None}
use Rattle.std.proofs.lemmas.Bool.{and_parts, or_left, or_parts, or_right}
use Rattle.std.proofs.lemmas.List.Elements.{filter_passes}
use Rattle.std.proofs.lemmas.List.Sums.{list_all-from_AllPass}
use Rattle.std.proofs.lemmas.Slice.Eq.{bytes_eq-Decides}
use Rattle.std.specs.List.{list_all}
use Rattle.std.specs.Str.{bytes_eq}
use Rattle.hwcap_dirs.proofs.Reals.{all_left}
use Rattle.lib_types.proofs.SortedPairs.{by_test, sorted_put}
use Rattle.image_tree.proofs.OneMore.{put_here, put_other}
use Rattle.image_tree.proofs.Order.{path_total}
use Rattle.image_tree.specs.Tree.{Nodes, IsPathSorted, node_at}
use Rattle.image_tree.specs.declared.node.Node.{Node}
use Rattle.image_tree.specs.declared.node.Node.TheVariants as node
use Rattle.library_files.specs.Places.{is_link_to}
use Rattle.link_plan.specs.declared.kinds.Planned.{Planned}
use Rattle.planned_tree.proofs.Alike.{IsAlike}
use Rattle.planned_tree.proofs.Planned.{planned_alike, is_put}
use Rattle.soname_links.proofs.Rooms.{HaveRoom}
use Rattle.soname_links.specs.Plan.{with_link, with_links}
use Rattle.partial_links.proofs.SameNodes.{same_nodes}
use Rattle.partial_links.specs.Partial.{HasPart, IsOfPlan, is_made, missing}

-- ---- links

linked : (o : Option Node) (file : List ℕ) → is_link_to file o ≡ true → o ≡ Some (node.Link file)
linked None file h = absurd (cc)
linked (Some node.Dir) file h = absurd (cc)
linked (Some (node.File key id)) file h = absurd (cc)
linked (Some (node.Link target)) file h = ap (λ z. Some (node.Link z)) ((bytes_eq-Decides target file).0 h)

sorted_with : (plan : List Planned) (t : Nodes) → IsPathSorted t → IsPathSorted (with_links t plan)
sorted_with [] t sorted = sorted
sorted_with (planned ∷ plan) t sorted = sorted_with plan (with_link t planned) (sorted_put path_total planned.path t (node.Link planned.file) sorted)

-- ---- links that are all there in a tree

module _ (s : Nodes) (q : List ℕ) where
  put_at : (plan : List Planned) (t : Nodes) → list_all (is_made s) plan ≡ true → (node_at t q ≡ node_at s q) ⊎ (is_put plan q ≡ true)
      → node_at (with_links t plan) q ≡ node_at s q
  put_at [] t all (inl same) = same
  put_at [] t all (inr put) = absurd (cc)
  put_at (planned ∷ plan) t all h =
      let parts = and_parts (is_made s planned) (list_all (is_made s) plan) all in
      put_at plan (with_link t planned) parts.1 (by_test (bytes_eq q planned.path)
      (λ e.
      let here : q ≡ planned.path = (bytes_eq-Decides q planned.path).0 e in
      inl (ap (node_at (with_link t planned)) here ∙ put_here planned.path (node.Link planned.file) t
      ∙ sym (linked (node_at s planned.path) planned.file parts.0) ∙ ap (node_at s) (sym here)))
      (λ e. later e h))
    where
      later : bytes_eq q planned.path ≡ false → (node_at t q ≡ node_at s q) ⊎ (is_put (planned ∷ plan) q ≡ true)
          → (node_at (with_link t planned) q ≡ node_at s q) ⊎ (is_put plan q ≡ true)
      later e (inl same) = inl (put_other planned.path (node.Link planned.file) q e t ∙ same)
      later e (inr put) = inr (sym (ap (λ b. b || is_put plan q) e) ∙ put)

-- put into a tree that has the same at all other paths, they give that tree
all_put : (s t : Nodes) (plan : List Planned) → IsPathSorted s → IsPathSorted t → list_all (is_made s) plan ≡ true
    → ((q : List ℕ) → (node_at t q ≡ node_at s q) ⊎ (is_put plan q ≡ true)) → with_links t plan ≡ s
all_put s t plan sorted first all each = same_nodes (with_links t plan) s (sorted_with plan t first) sorted (λ q. put_at s q plan t all (each q))

-- ---- the links that are there

unput : (q : List ℕ) (plan : List Planned) (t : Nodes) → is_put plan q ≡ false → node_at (with_links t plan) q ≡ node_at t q
unput q [] t none = refl
unput q (planned ∷ plan) t none =
    let parts = or_parts (bytes_eq q planned.path) (is_put plan q) none in
    unput q plan (with_link t planned) parts.1 ∙ put_other planned.path (node.Link planned.file) q parts.0 t

pub room_left : (t : Nodes) (keep : Planned → Bool) (plan : List Planned) → HaveRoom t plan → HaveRoom t (filter keep plan)
room_left t keep [] room = tt
room_left t keep (planned ∷ plan) room = by_test (keep planned)
    (λ e. rw e (room.0, room_left t keep plan room.1))
    (λ e. rw e (room_left t keep plan room.1))

in_plan : (plan : List Planned) (q : List ℕ) (found : Option Node) → IsOfPlan plan q found → is_put plan q ≡ true
in_plan [] q found is = absurd is
in_plan (planned ∷ plan) q found (inl (here, same)) = or_left (bytes_eq q planned.path) (is_put plan q) ((bytes_eq-Decides q planned.path).1 here)
in_plan (planned ∷ plan) q found (inr is) = or_right (bytes_eq q planned.path) (is_put plan q) (in_plan plan q found is)

module _ (new : Nodes) where
  abbrev pub there : List Planned → List Planned
  there plan = filter (is_made new) plan

  put_there : (plan : List Planned) (q : List ℕ) → IsOfPlan plan q (node_at new q) → is_put (there plan) q ≡ true
  put_there [] q is = absurd is
  put_there (planned ∷ plan) q (inl (here, found)) =
      let made : is_made new planned ≡ true =
      ap (is_link_to planned.file) (ap (node_at new) (sym here) ∙ found) ∙ (bytes_eq-Decides planned.file planned.file).1 refl in
      rw made (or_left (bytes_eq q planned.path) (is_put (there plan) q) ((bytes_eq-Decides q planned.path).1 here))
  put_there (planned ∷ plan) q (inr is) = by_test (is_made new planned)
      (λ e. rw e (or_right (bytes_eq q planned.path) (is_put (there plan) q) (put_there plan q is)))
      (λ e. rw e (put_there plan q is))

  module _ (t : Nodes) (plan : List Planned) (first : IsPathSorted t) (sorted : IsPathSorted new) (part : HasPart t plan new) where
    made_or_same : (q : List ℕ) → (node_at t q ≡ node_at new q) ⊎ (is_put (there plan) q ≡ true)
    made_or_same q = by (part q)
      where
        by : (node_at new q ≡ node_at t q) ⊎ IsOfPlan plan q (node_at new q) → (node_at t q ≡ node_at new q) ⊎ (is_put (there plan) q ≡ true)
        by (inl same) = inl (sym same)
        by (inr is) = inr (put_there plan q is)

    -- the tree with those of the links that are there
    pub whole : with_links t (there plan) ≡ new
    whole = all_put new t (there plan) sorted first (list_all-from_AllPass (is_made new) (there plan) (filter_passes (is_made new) plan)) made_or_same

    pub part_alike : HaveRoom t plan → IsAlike t new
    part_alike room = subst (λ (n : Nodes). IsAlike t n) whole (planned_alike t (there plan) (room_left t (is_made new) plan room))

    -- ---- the links that aren't there

    module _ (all : list_all (is_made (with_links t plan)) plan ≡ true) where
      abbrev after : Nodes
      after = with_links t plan

      at_planned : (some : List Planned) (q : List ℕ) → list_all (is_made after) some ≡ true → is_put some q ≡ true
          → (node_at new q ≡ node_at after q) ⊎ (is_put (missing new some) q ≡ true)
      at_planned [] q are put = absurd (cc)
      at_planned (planned ∷ some) q are put =
          let parts = and_parts (is_made after planned) (list_all (is_made after) some) are in
          by_test (bytes_eq q planned.path)
          (λ e.
          let here : q ≡ planned.path = (bytes_eq-Decides q planned.path).0 e in
          by_test (is_made new planned)
          (λ m.
          inl (ap (node_at new) here ∙ linked (node_at new planned.path) planned.file m ∙ sym (linked (node_at after planned.path) planned.file parts.0) ∙ ap (node_at after) (sym here)))
          (λ m. inr (rw m (or_left (bytes_eq q planned.path) (is_put (missing new some) q) e))))
          (λ e. more (at_planned some q parts.1 (sym (ap (λ b. b || is_put some q) e) ∙ put)))
        where
          more : (node_at new q ≡ node_at after q) ⊎ (is_put (missing new some) q ≡ true) → (node_at new q ≡ node_at after q) ⊎ (is_put (missing new (planned ∷ some)) q ≡ true)
          more (inl same) = inl same
          more (inr put) = inr (by_test (is_made new planned)
              (λ m. rw m put)
              (λ m. rw m (or_right (bytes_eq q planned.path) (is_put (missing new some) q) put)))

      missing_or_same : (q : List ℕ) → (node_at new q ≡ node_at after q) ⊎ (is_put (missing new plan) q ≡ true)
      missing_or_same q = by_test (is_put plan q)
          (λ e. at_planned plan q all e)
          (λ e. inl (by e (part q)))
        where
          by : is_put plan q ≡ false → (node_at new q ≡ node_at t q) ⊎ IsOfPlan plan q (node_at new q) → node_at new q ≡ node_at after q
          by e (inl same) = same ∙ sym (unput q plan t e)
          by e (inr is) = let put = in_plan plan q (node_at new q) is in absurd (cc)

      pub rest_put : with_links new (missing new plan) ≡ with_links t plan
      rest_put = all_put after new (missing new plan) (sorted_with plan t first) sorted (all_left (is_made after) (λ planned. not (is_made new planned)) plan all) missing_or_same
