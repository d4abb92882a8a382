use Rattle.std.proofs.Common.{◌≡◌, ◌∙◌, ◌∷◌, ℕ, List, true, ap, filter, not, subst, sym}
use Rattle.std.proofs.lemmas.Bool.{and_parts}
use Rattle.std.specs.List.{list_all, list_any}
use Rattle.image_tree.specs.Tree.{Nodes, is_entry}
use Rattle.image_tree.specs.declared.node.Node.{Node}
use Rattle.layer_union.proofs.Layering.{cleared_first, cleared_none}
use Rattle.layer_union.proofs.layers.clear_all.Goals as goal
use Rattle.layer_union.specs.Steps.{clears}

pub clear_by-requires : goal.clear_by-requires
clear_by-requires c =
    let r : List ℕ × Node = (c.in-Some.path.now, c.in-Some.node.now) in
    let all : list_all is_entry (r ∷ c.next.new.self) ≡ true = subst (λ (z : Nodes). list_all is_entry z ≡ true) c.in-Some.ensures.steps c.loop-path.invariant.entries in
    (and_parts (is_entry r) (list_all is_entry c.next.new.self) all).0

pub loop-path-preserved : goal.loop-path-preserved
loop-path-preserved c =
    let r : List ℕ × Node = (c.in-Some.path.now, c.in-Some.node.now) in
    let rest = c.next.new.self in
    let t = c.loop-path.tree in
    let all : list_all is_entry (r ∷ rest) ≡ true = subst (λ (z : Nodes). list_all is_entry z ≡ true) c.in-Some.ensures.steps c.loop-path.invariant.entries in
    record {
      rest = ap (λ (z : Nodes). filter (λ e. not (list_any (λ r. clears r e) rest)) z) c.in_ok-clear_by.ensures
          ∙ cleared_first t rest r
          ∙ sym (ap (λ (z : Nodes). filter (λ e. not (list_any (λ r. clears r e) z)) t) c.in-Some.ensures.steps)
          ∙ c.loop-path.invariant.rest;
      entries = (and_parts (is_entry r) (list_all is_entry rest) all).1;
    }

pub returns : goal.returns
returns c =
    let t = c.loop-path.tree in
    sym (cleared_none t)
    ∙ sym (ap (λ (z : Nodes). filter (λ e. not (list_any (λ r. clears r e) z)) t) c.in-None.ensures.steps.0)
    ∙ c.loop-path.invariant.rest
