-- What is left of the making of a plan's links has a part of them.
use Rattle.std.proofs.Common.{◌≡◌, ◌⊎◌, inl, inr, ℕ, zero, suc, true, List, [], ◌∷◌, take, Option, Some, refl, ap, sym, subst, ◌∙◌, arith}
use Rattle.std.proofs.lemmas.Slice.Eq.{bytes_eq-Decides}
use Rattle.std.specs.List.{AllByRecursion}
use Rattle.std.specs.Str.{bytes_eq}
use Rattle.image_tree.proofs.OneMore.{put_here, put_other}
use Rattle.image_tree.specs.Tree.{Nodes, node_at}
use Rattle.image_tree.specs.declared.node.Node.{Node}
use Rattle.image_tree.specs.declared.node.Node.TheVariants as node
use Rattle.lib_types.proofs.SortedPairs.{by_test}
use Rattle.link_plan.specs.declared.kinds.Planned.{Planned}
use Rattle.root_folder.proofs.Moments.{found_is}
use Rattle.root_folder.specs.Crash.{IsSettled, Leaves}
use Rattle.root_folder.specs.Folder.{FolderContent, FolderState}
use Rattle.root_folder.specs.Found.{Found, found_eq}
use Rattle.root_links.specs.Links as made
use Rattle.root_links.specs.Links.{IsOfLinks, Linking}
use Rattle.tree_face.specs.Known.{IfKnown}
use Rattle.partial_links.specs.Left.{MightBeLeft, linkings}
use Rattle.partial_links.specs.Partial.{HasPart, IsOfPlan}

-- ---- the first links

-- each of these is planned
abbrev ArePlanned : List Planned → List Linking → Type 0
ArePlanned plan links = AllByRecursion (λ l. IsOfPlan plan l.0 (Some (node.Link l.1))) links

planned_put : (plan : List Planned) (links : List Linking) (t : Nodes) → ArePlanned plan links → HasPart t plan (made.with_links t links)
planned_put plan [] t all path = inl refl
planned_put plan (l ∷ links) t all path = by (planned_put plan links (made.with_link t l) all.1 path)
  where
    after : Nodes
    after = made.with_links (made.with_link t l) links

    by : (node_at after path ≡ node_at (made.with_link t l) path) ⊎ IsOfPlan plan path (node_at after path) → (node_at after path ≡ node_at t path) ⊎ IsOfPlan plan path (node_at after path)
    by (inr is) = inr is
    by (inl same) = by_test (bytes_eq path l.0)
        (λ e.
        let here : path ≡ l.0 = (bytes_eq-Decides path l.0).0 e in
        let found : node_at after path ≡ Some (node.Link l.1) = same ∙ ap (node_at (made.with_link t l)) here ∙ put_here l.0 (node.Link l.1) t in
        inr (subst (λ (o : Option Node). IsOfPlan plan path o) (sym found) (subst (λ (p : List ℕ). IsOfPlan plan p (Some (node.Link l.1))) (sym here) all.0)))
        (λ e. inl (same ∙ put_other l.0 (node.Link l.1) path e t))

all_planned : (whole plan : List Planned) → ((path : List ℕ) (found : Option Node) → IsOfPlan plan path found → IsOfPlan whole path found) → ArePlanned whole (linkings plan)
all_planned whole [] into = tt
all_planned whole (planned ∷ plan) into =
    (into planned.path (Some (node.Link planned.file)) (inl (refl, refl)), all_planned whole plan (λ path found is. into path found (inr is)))

first_planned : (plan : List Planned) (n : ℕ) (links : List Linking) → ArePlanned plan links → ArePlanned plan (take n links)
first_planned plan zero links all = tt
first_planned plan (suc n) [] all = tt
first_planned plan (suc n) (l ∷ links) all = (all.0, first_planned plan n links all.1)

-- the first links of a plan, as a call that fails leaves them
pub first_made : (t : Nodes) (plan : List Planned) (n : ℕ) → HasPart t plan (made.with_links t (take n (linkings plan)))
first_made t plan n = planned_put plan (take n (linkings plan)) t (first_planned plan n (linkings plan) (all_planned plan plan (λ path found is. is)))

pub all_made : (t : Nodes) (plan : List Planned) → HasPart t plan (made.with_links t (linkings plan))
all_made t plan = planned_put plan (linkings plan) t (all_planned plan plan (λ path found is. is))

-- ---- crashes

of_plan : (plan : List Planned) (path : List ℕ) (found : Found) → IsOfLinks (linkings plan) path found → IsOfPlan plan path found
of_plan [] path found is = absurd is
of_plan (planned ∷ plan) path found (inl is) = inl is
of_plan (planned ∷ plan) path found (inr is) = inr (of_plan plan path found is)

-- of a directory that was settled
pub crash_leaves : (old new : FolderState) (c : FolderContent) (plan : List Planned) → old.contents ≡ Some c → ((p : List ℕ) (x : Found) → old.since old.time p x ≡ old.may p x) → IsSettled old → Leaves (IsOfLinks (linkings plan)) old new
    → (left : Nodes) → MightBeLeft old.time new left → HasPart c.now plan left
crash_leaves old new c plan known now settled leaves left might path =
    by (leaves.during old.time path (node_at left path) (omega arith) (might.at path))
  where
    first : (p : List ℕ) (x : Found) → old.may p x ≡ found_eq (node_at c.now p) x
    first = subst (λ o. IfKnown o (λ (c : FolderContent). (p : List ℕ) (x : Found) → old.may p x ≡ found_eq (node_at c.now p) x)) known settled.left

    by : (old.since old.time path (node_at left path) ≡ true) ⊎ IsOfLinks (linkings plan) path (node_at left path)
        → (node_at left path ≡ node_at c.now path) ⊎ IsOfPlan plan path (node_at left path)
    by (inl was) = inl (sym (found_is (node_at c.now path) (node_at left path) (sym (first path (node_at left path)) ∙ sym (now path (node_at left path)) ∙ was)))
    by (inr is) = inr (of_plan plan path (node_at left path) is)
