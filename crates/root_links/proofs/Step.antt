-- Links are made in order.
use Rattle.std.proofs.Common.{◌≡◌, inl, inr, ◌+◌, ℕ, zero, suc, true, false, List, [], ◌∷◌, ◌++◌, drop, map, take, refl, ap, sym, subst, ◌∙◌, Option, Some, None, Result, Ok, Err, slice_get, add-one}
use Rattle.std.specs.Result.{is_err}
use Rattle.lib_types.specs.declared.fault.Failed.{Failed}
use Rattle.image_tree.specs.Tree.{Nodes}
use Rattle.root_folder.proofs.Crash.{leaves_on, link_leaves}
use Rattle.root_folder.specs.Crash.{AddsLink, Leaves}
use Rattle.root_folder.specs.Folder.{Does, FolderContent, FolderState, Links, MayLink}
use Rattle.root_folder.specs.declared.folder.FolderCall.{FolderCall}
use Rattle.root_folder.specs.declared.folder.FolderCounts.{FolderCounts}
use Rattle.root_links.proofs.Lists.{link_at, one_link_more, take_next, within}
use Rattle.root_links.specs.Links.{IsOfLinks, KeepsReadings, Linking, link_call, with_link, with_links}
use Rattle.root_links.specs.Steps.{FailsToLink, HasLinked, LinksFirst, MayHaveLinked}
use Rattle.root_links.specs.declared.fault.LinkFault.TheVariants as faults
use Rattle.tree_face.proofs.Follows.{follow, follow_part, part_of}
use Rattle.tree_face.proofs.Known.{relates_on}
use Rattle.tree_face.specs.declared.disk.Tag.{Tag}
use Rattle.tree_face.specs.Follows.{IsFollowedBy, IsFollowedByPart}
use Rattle.tree_face.specs.Known.{Relates}

pub readings_on : (a b c : FolderState) → KeepsReadings a b → KeepsReadings b c → KeepsReadings a c
readings_on a b c first next = record { lists = next.lists ∙ first.lists; looks = next.looks ∙ first.looks; read_faults = next.read_faults ∙ first.read_faults }

map_next : (tag : Tag) (xs : List Linking) (l : Linking) → map (link_call tag) (xs ++ l ∷ []) ≡ map (link_call tag) xs ++ link_call tag l ∷ []
map_next tag [] l = refl
map_next tag (x ∷ xs) l = ap (λ z. link_call tag x ∷ z) (map_next tag xs l)

-- the calls before a link's call, that call, and the calls after it
parts_of : (tag : Tag) (xs : List Linking) (n : ℕ) (k : Linking) → slice_get xs n ≡ Some k
    → (map (link_call tag) (take n xs) ++ link_call tag k ∷ []) ++ map (link_call tag) (drop (n + 1) xs) ≡ map (link_call tag) xs
parts_of tag xs n k e = rw add-one (by xs n e)
  where
    by : (xs : List Linking) (n : ℕ) → slice_get xs n ≡ Some k → (map (link_call tag) (take n xs) ++ link_call tag k ∷ []) ++ map (link_call tag) (drop (suc n) xs) ≡ map (link_call tag) xs
    by [] n e = absurd (cc)
    by (x ∷ xs) zero e = let same : k ≡ x = cc in ap (λ (z : Linking). link_call tag z ∷ map (link_call tag) xs) same
    by (x ∷ xs) (suc n) e = ap (λ z. link_call tag x ∷ z) (by xs n e)

same : (c : Option FolderContent) → Relates (HasLinked []) c c
same None = tt
same (Some c) = record { now = refl; settled = λ p. refl }

module _ (tag : Tag) (links : List Linking) (i : ℕ) (l : Linking) (at : slice_get links i ≡ Some l) (a b c : FolderState) (first : LinksFirst tag links i a b) where
  abbrev IsDone : Result (Unit {0}) Failed → Type 0
  IsDone r = Does (link_call tag l) (Links l.0 l.1) (MayLink l.0 l.1) b c r

  one_more : (x y z : FolderContent) → HasLinked (take i links) x y → Links l.0 l.1 y z → HasLinked (take (i + 1) links) x z
  one_more x y z linked link = record {
    now = link.now ∙ ap (λ (t : Nodes). with_link t l) linked.now ∙ sym (one_link_more x.now (take i links) l) ∙ ap (with_links x.now) (sym (take_next links i l at));
    settled = λ p. link.settled p ∙ linked.settled p;
  }

  counts : {r : Result (Unit {0}) Failed} → IsDone r → KeepsReadings b c
  counts does = record { lists = ap (λ (k : FolderCounts). k.lists) does.counts; looks = ap (λ (k : FolderCounts). k.looks) does.counts; read_faults = does.read_faults }

  leaves : (r : Result (Unit {0}) Failed) → AddsLink l.0 l.1 b c r → Leaves (IsOfLinks links) a c
  leaves r crash = leaves_on (IsOfLinks links) a b c first.leaves (link_leaves (IsOfLinks links) b c l.0 l.1 (link_at links i l at) r crash)

  pub linked_on : IsDone (Ok tt) → AddsLink l.0 l.1 b c (Ok tt) → LinksFirst tag links (i + 1) a c
  linked_on does crash = record {
    contents = relates_on (HasLinked (take i links)) (Links l.0 l.1) (HasLinked (take (i + 1) links)) one_more a.contents b.contents c.contents first.contents does.done;
    calls = subst (λ (k : List FolderCall). Relates (IsFollowedBy k) a.calls c.calls) (sym (ap (map (link_call tag)) (take_next links i l at) ∙ map_next tag (take i links) l))
        (relates_on _ _ _ (follow (map (link_call tag) (take i links)) (link_call tag l ∷ [])) a.calls b.calls c.calls first.calls does.added);
    leaves = leaves (Ok tt) crash;
    readings = readings_on a b c first.readings (counts does);
    faults = does.no_fault ∙ first.faults;
  }

  may_more : (x y z : FolderContent) → HasLinked (take i links) x y → MayLink l.0 l.1 y z → MayHaveLinked links (faults.Link i) x z
  may_more x y z linked (inl keeps) = record {
    made = i;
    stops = (within links i l at, inl refl);
    now = keeps.now ∙ linked.now;
    settled = λ p. keeps.settled p ∙ linked.settled p;
  }
  may_more x y z linked (inr link) =
      let more = one_more x y z linked link in
      record { made = i + 1; stops = (within links i l at, inr refl); now = more.now; settled = more.settled }

  pub link_fails : (e : Failed) → IsDone (Err e) → AddsLink l.0 l.1 b c (Err e) → FailsToLink tag links (faults.Link i) a c
  link_fails e does crash = record {
    contents = relates_on (HasLinked (take i links)) (MayLink l.0 l.1) (MayHaveLinked links (faults.Link i)) may_more a.contents b.contents c.contents first.contents does.failed;
    calls = relates_on _ _ _ calls_before a.calls b.calls c.calls first.calls does.may_add;
    leaves = leaves (Err e) crash;
    readings = readings_on a b c first.readings (counts does);
    faults = rw (← first.faults) does.cause;
  }
    where
      calls_before : (x y z : List FolderCall) → IsFollowedBy (map (link_call tag) (take i links)) x y → IsFollowedByPart (link_call tag l ∷ []) y z
          → IsFollowedByPart (map (link_call tag) links) x z
      calls_before x y z before last =
          let front = map (link_call tag) (take i links) in
          let so_far = follow_part front (link_call tag l ∷ []) x y z before last in
          subst (λ (k : List FolderCall). IsFollowedByPart k x z) (parts_of tag links i l at) (part_of (front ++ link_call tag l ∷ []) (map (link_call tag) (drop (i + 1) links)) x z so_far)

  pub link_made : (r : Result (Unit {0}) Failed) → is_err r ≡ false → IsDone r → AddsLink l.0 l.1 b c r → LinksFirst tag links (i + 1) a c
  link_made (Ok x) e does crash = linked_on does crash
  link_made (Err x) e does crash = absurd (cc)

  pub link_failed : (r : Result (Unit {0}) Failed) → is_err r ≡ true → IsDone r → AddsLink l.0 l.1 b c r → FailsToLink tag links (faults.Link i) a c
  link_failed (Ok x) e does crash = absurd (cc)
  link_failed (Err x) e does crash = link_fails x does crash
