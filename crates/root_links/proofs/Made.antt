-- Links are made, and then made durable.
use Rattle.std.proofs.Common.{◌≡◌, inl, inr, ⊎_elim, ℕ, true, List, [], ◌++◌, map, take, length, refl, ap, subst, ◌∙◌, Option, Some, None}
use Rattle.image_tree.specs.Tree.{node_at}
use Rattle.path_walk.specs.Names.{parent}
use Rattle.root_folder.proofs.Crash.{leaves_on}
use Rattle.root_folder.specs.Crash.{Leaves}
use Rattle.root_folder.specs.Folder.{FolderContent, FolderState}
use Rattle.root_folder.specs.Found.{Found, found_eq}
use Rattle.root_links.proofs.Lists.{none_once, once, take_whole}
use Rattle.root_links.proofs.Step.{readings_on}
use Rattle.root_links.specs.Links.{HasMade, IsOfLinks, Linking, MakesAll, MakesPart, MayHaveMade, dirs_in, dirs_of, is_next_to, link_call, settling, with_links}
use Rattle.root_links.specs.Steps.{FailsToLink, FailsToSettle, HasLinked, HasSettled, IsOfSettling, LinksFirst, MayHaveLinked, MayHaveSettled, SettlesAll, is_in_one}
use Rattle.root_links.specs.declared.fault.LinkFault.{LinkFault}
use Rattle.root_links.specs.declared.fault.LinkFault.TheVariants as faults
use Rattle.tree_face.proofs.Follows.{follow, follow_part, part_of}
use Rattle.tree_face.proofs.Known.{relates_by, relates_on}
use Rattle.tree_face.specs.declared.disk.Tag.{Tag}
use Rattle.tree_face.specs.Follows.{IsFollowedBy, IsFollowedByPart}
use Rattle.tree_face.specs.Known.{IfKnown, Relates}

module _ (tag : Tag) (links : List Linking) where
  more_left : (a b : FolderState) → Leaves (IsOfLinks []) a b → Leaves (IsOfLinks links) a b
  more_left a b l = record {
    later = l.later;
    during = λ t p x le h. ⊎_elim (λ was. inl was) (λ none. absurd none) (l.during t p x le h);
    now = λ p x h. ⊎_elim (λ was. inl was) (λ none. absurd none) (l.now p x h);
  }

  module _ (n : ℕ) (all : n ≡ length links) where
    abbrev first : List Linking
    first = take n links

    whole : first ≡ links
    whole = ap (λ m. take m links) all ∙ take_whole links

    module _ (a b c : FolderState) (linked : LinksFirst tag links n a b) where
      both : (x y z : FolderContent) → HasLinked first x y → HasSettled (dirs_of links) y z → HasMade links x z
      both x y z one two = record {
        now = two.now ∙ one.now ∙ ap (with_links x.now) whole;
        inside = λ p h. two.inside p (once (parent p) (dirs_in links) h);
        others = λ p h. two.others p (none_once (parent p) (dirs_in links) h) ∙ one.settled p;
      }

      durable : (z : Option FolderContent) → IfKnown z (λ k. (p : List ℕ) (x : Found) → is_in_one (dirs_of links) p ≡ true → c.may p x ≡ found_eq (node_at k.now p) x)
          → IfKnown z (λ k. (p : List ℕ) (x : Found) → is_next_to links p ≡ true → c.may p x ≡ found_eq (node_at k.now p) x)
      durable None is = tt
      durable (Some z) is = λ p x h. is p x (once (parent p) (dirs_in links) h)

      pub all_made : SettlesAll (dirs_of links) b c → MakesAll tag links a c
      all_made settled = record {
        contents = relates_on (HasLinked first) (HasSettled (dirs_of links)) (HasMade links) both a.contents b.contents c.contents linked.contents settled.contents;
        calls = subst (λ (l : List Linking). Relates (IsFollowedBy (map (link_call tag) l ++ map settling (dirs_of links))) a.calls c.calls) whole
            (relates_on _ _ _ (follow (map (link_call tag) first) (map settling (dirs_of links))) a.calls b.calls c.calls linked.calls settled.calls);
        leaves = leaves_on (IsOfLinks links) a b c linked.leaves (more_left b c settled.leaves);
        durable = durable c.contents settled.durable;
        readings = readings_on a b c linked.readings settled.readings;
        faults = settled.faults ∙ linked.faults;
      }

      some_settled : (fault : LinkFault) → IsOfSettling fault (length links) → (x y z : FolderContent) → HasLinked first x y → MayHaveSettled y z → MayHaveMade links fault x z
      some_settled (faults.Link number) is x y z one two = absurd is
      some_settled (faults.Settle number) is x y z one two = record {
        made = length links;
        stops = (is, refl);
        now = two.now ∙ one.now ∙ ap (λ m. with_links x.now (take m links)) all;
        settled = λ p. ⊎_elim (λ e. inl (e ∙ one.settled p)) (λ e. inr e) (two.settled p);
      }

      pub some_made : (fault : LinkFault) → FailsToSettle links fault b c → MakesPart tag links fault a c
      some_made fault fails = record {
        contents = relates_on (HasLinked first) MayHaveSettled (MayHaveMade links fault) (some_settled fault fails.fault_is) a.contents b.contents c.contents linked.contents fails.contents;
        calls = subst (λ (l : List Linking). Relates (IsFollowedByPart (map (link_call tag) l ++ map settling (dirs_of links))) a.calls c.calls) whole
            (relates_on _ _ _ (follow_part (map (link_call tag) first) (map settling (dirs_of links))) a.calls b.calls c.calls linked.calls fails.calls);
        leaves = leaves_on (IsOfLinks links) a b c linked.leaves (more_left b c fails.leaves);
        readings = readings_on a b c linked.readings fails.readings;
        faults = rw (← linked.faults) fails.faults;
      }

  pub links_fail : (a b : FolderState) (fault : LinkFault) → FailsToLink tag links fault a b → MakesPart tag links fault a b
  links_fail a b fault fails = record {
    contents = relates_by (MayHaveLinked links fault) (MayHaveMade links fault) (λ x y m. record { made = m.made; stops = m.stops; now = m.now; settled = λ p. inl (m.settled p) }) a.contents b.contents fails.contents;
    calls = relates_by (IsFollowedByPart (map (link_call tag) links)) (IsFollowedByPart (map (link_call tag) links ++ map settling (dirs_of links)))
        (λ x y part. part_of (map (link_call tag) links) (map settling (dirs_of links)) x y part) a.calls b.calls fails.calls;
    leaves = fails.leaves;
    readings = fails.readings;
    faults = fails.faults;
  }
