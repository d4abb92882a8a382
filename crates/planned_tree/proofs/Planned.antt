-- A tree with links in its directories, with library names, where nothing or a link was, is like the tree.
use Rattle.std.proofs.Common.{◌≡◌, ◌⊎◌, inl, inr, ℕ, Bool, true, false, ◌||◌, List, [], ◌∷◌, refl, ap, sym, subst, ◌∙◌, Option, Some, None}
use Rattle.std.proofs.Math.Bool.{or-true}
use Rattle.std.proofs.lemmas.Bool.{or_parts}
use Rattle.std.proofs.lemmas.Slice.Eq.{bytes_eq-Decides}
use Rattle.std.specs.List.{list_any}
use Rattle.std.specs.Str.{bytes_eq}
use Rattle.lib_types.proofs.SortedPairs.{by_test}
use Rattle.path_walk.proofs.KindsAt.{at_none, at_path, at_root, kind_of_node}
use Rattle.image_tree.specs.Paths.{is_below, is_path, root}
use Rattle.image_tree.specs.Tree.{Nodes, has_below, kind_at, kind_there, node_at}
use Rattle.image_tree.specs.declared.node.Node.{Node}
use Rattle.image_tree.specs.declared.node.Node.TheVariants as node
use Rattle.image_tree.specs.declared.tree.Kind.TheVariants as kinds
use Rattle.planned_tree.proofs.Alike.{IsAlike, IsSame, IsSpot}
use Rattle.soname_links.proofs.KindsAt.{is_open, open_free}
use Rattle.soname_links.proofs.Rooms.{HaveRoom, IsRoom}
use Rattle.image_tree.proofs.OneMore.{put_here, put_other}
use Rattle.soname_links.proofs.Put.{any_put}
use Rattle.soname_links.specs.Plan.{is_taken, with_link, with_links}
use Rattle.link_plan.specs.declared.kinds.Planned.{Planned}

-- ---- the nodes

abbrev pub is_put : List Planned → List ℕ → Bool
is_put plan q = list_any (λ planned. bytes_eq q planned.path) plan

not_put : (q : List ℕ) (plan : List Planned) (t : Nodes) → is_put plan q ≡ false → node_at (with_links t plan) q ≡ node_at t q
not_put q [] t h = refl
not_put q (planned ∷ plan) t h =
    let parts = or_parts (bytes_eq q planned.path) (is_put plan q) h in
    not_put q plan (with_link t planned) parts.1 ∙ put_other planned.path (node.Link planned.file) q parts.0 t

link_put : (q : List ℕ) (plan : List Planned) (t : Nodes) → is_put plan q ≡ true → (file : List ℕ) × (node_at (with_links t plan) q ≡ Some (node.Link file))
link_put q [] t h = absurd (cc)
link_put q (planned ∷ plan) t h = by_test (is_put plan q)
    (λ e. link_put q plan (with_link t planned) e)
    (λ e. by_test (bytes_eq q planned.path)
    (λ f.
    let same : q ≡ planned.path = (bytes_eq-Decides q planned.path).0 f in
    (planned.file, not_put q plan (with_link t planned) e ∙ ap (node_at (with_link t planned)) same ∙ put_here planned.path (node.Link planned.file) t))
    (λ f. let none : is_put (planned ∷ plan) q ≡ false = ap (λ b. b || is_put plan q) f ∙ e in absurd (cc)))

-- ---- what lies below

abbrev is_above : List Planned → List ℕ → Bool
is_above plan q = list_any (λ planned. is_below q planned.path) plan

below_same : (q : List ℕ) (plan : List Planned) (t : Nodes) → is_above plan q ≡ false → has_below (with_links t plan) q ≡ has_below t q
below_same q [] t h = refl
below_same q (planned ∷ plan) t h =
    let parts = or_parts (is_below q planned.path) (is_above plan q) h in
    below_same q plan (with_link t planned) parts.1 ∙ any_put planned.path (node.Link planned.file) (λ z. is_below q z) t ∙ ap (λ b. b || has_below t q) parts.0

below_stays : (q : List ℕ) (plan : List Planned) (t : Nodes) → has_below t q ≡ true → has_below (with_links t plan) q ≡ true
below_stays q [] t h = h
below_stays q (planned ∷ plan) t h =
    below_stays q plan (with_link t planned) (any_put planned.path (node.Link planned.file) (λ z. is_below q z) t ∙ ap (λ b. is_below q planned.path || b) h ∙ or-true (is_below q planned.path))

-- ---- the trees

room_at : (t : Nodes) (q : List ℕ) (plan : List Planned) → HaveRoom t plan → is_put plan q ≡ true → IsRoom t q
room_at t q [] all h = absurd (cc)
room_at t q (planned ∷ plan) all h = by_test (bytes_eq q planned.path)
    (λ e. subst (λ (p : List ℕ). IsRoom t p) (sym ((bytes_eq-Decides q planned.path).0 e)) all.0)
    (λ e. room_at t q plan all.1 (sym (ap (λ b. b || is_put plan q) e) ∙ h))

dir_there : (t : Nodes) (q : List ℕ) (plan : List Planned) → HaveRoom t plan → is_path q ≡ true → is_above plan q ≡ true → kind_at t q ≡ kinds.Dir
dir_there t q [] all proper h = absurd (cc)
dir_there t q (planned ∷ plan) all proper h = by_test (is_below q planned.path)
    (λ e. all.0.above q proper e)
    (λ e. dir_there t q plan all.1 proper (sym (ap (λ b. b || is_above plan q) e) ∙ h))

there_stays : (o : Option Node) (b c : Bool) → kind_there o b ≡ kinds.Dir → (b ≡ true → c ≡ true) → kind_there o c ≡ kinds.Dir
there_stays (Some n) b c h more = h
there_stays None true c h more = ap (kind_there None) (more refl)
there_stays None false c h more = absurd (cc)

module _ (t : Nodes) (plan : List Planned) (room : HaveRoom t plan) (q : List ℕ) where
  abbrev new : Nodes
  new = with_links t plan

  kind_same : is_put plan q ≡ false → kind_at (with_links t plan) q ≡ kind_at t q
  kind_same unput = by_test (bytes_eq q root)
      (λ e. at_root new q e ∙ sym (at_root t q e))
      (λ e. by_test (is_path q)
      (λ proper.
      at_path new q e proper ∙ ap (λ o. kind_there o (has_below new q)) (not_put q plan t unput)
      ∙ by_test (is_above plan q)
      (λ a.
      let dir : kind_there (node_at t q) (has_below t q) ≡ kinds.Dir = sym (at_path t q e proper) ∙ dir_there t q plan room proper a in
      there_stays (node_at t q) (has_below t q) (has_below new q) dir (below_stays q plan t) ∙ sym dir)
      (λ a. ap (kind_there (node_at t q)) (below_same q plan t a))
      ∙ sym (at_path t q e proper))
      (λ f. at_none new q e f ∙ sym (at_none t q e f)))

  spots : is_put plan q ≡ true → IsSpot t q × IsSpot (with_links t plan) q
  spots put =
      let here = room_at t q plan room put in
      let link = link_put q plan t put in (
        record { name = here.name; kind = here.free; node = open_free t q here.proper here.free },
        record { name = here.name; kind = ap is_taken (kind_of_node new q (node.Link link.0) here.proper link.1); node = ap is_open link.1 },
      )

  alike_at : IsSame t (with_links t plan) q ⊎ (IsSpot t q × IsSpot (with_links t plan) q)
  alike_at = by_test (is_put plan q)
      (λ e. inr (spots e))
      (λ e. inl (record { kind = kind_same e; node = not_put q plan t e }))

pub planned_alike : (t : Nodes) (plan : List Planned) → HaveRoom t plan → IsAlike t (with_links t plan)
planned_alike t plan room q = alike_at t plan room q
