use Rattle.std.proofs.Common.{◌≡◌, ◌∙◌, ◌∷◌, ◌<◌, ℕ, List, Err, true, false, cond, ap, length, rules, subst, sym}
use Rattle.std.proofs.lemmas.Bool.{and_parts}
use Rattle.std.specs.List.{list_all}
use Rattle.image_tree.proofs.Clear.{AreClear}
use Rattle.image_tree.specs.Tree as tree
use Rattle.image_tree.specs.Tree.{Nodes, is_entry}
use Rattle.image_tree.specs.declared.node.Node.{Node}
use Rattle.image_tree.specs.declared.tree.TheConstants.{NODES_MAX}
use Rattle.layer_union.proofs.Adding.{too_many}
use Rattle.layer_union.proofs.Layering.{put_free, rest_clear, rest_free}
use Rattle.layer_union.proofs.layers.put_all.Goals as goal
use Rattle.layer_union.specs.Steps.{IsFree, all_put}
use Rattle.layer_union.specs.Whiteouts.{is_special}

pub loop-path-preserved-in_ok-put : goal.loop-path-preserved-in_ok-put
loop-path-preserved-in_ok-put c =
    let p : List ℕ = c.in-Some.path.now in
    let r : List ℕ × Node = (c.in-Some.path.now, c.in-Some.node.now) in
    let rest : Nodes = c.next.new.self in
    let t : Nodes = c.loop-path.tree in
    let steps : c.loop-path.path-iterator ≡ r ∷ rest = c.in-Some.ensures.steps in
    let plain : is_special p ≡ false = search rules in
    let is : c.put.new.self ≡ tree.put t p c.in-Some.node.now = c.in_ok-put.ensures.done ∙ ap (λ (n : Node). tree.put t p n) c.in_ok-copy_of.ensures in
    let free : IsFree t (r ∷ rest) = subst (λ (z : Nodes). IsFree t z) steps c.loop-path.invariant.free in
    let clear : AreClear (r ∷ rest) (r ∷ rest) = subst (λ (z : Nodes). AreClear z z) steps c.loop-path.invariant.clear in
    let all : list_all is_entry (r ∷ rest) ≡ true = subst (λ (z : Nodes). list_all is_entry z ≡ true) steps c.loop-path.invariant.entries in
    record {
      rest = ap (λ (z : Nodes). all_put z rest) is
          ∙ sym (ap (λ b. all_put (cond b t (tree.put t p c.in-Some.node.now)) rest) plain)
          ∙ ap (all_put t) (sym steps) ∙ c.loop-path.invariant.rest;
      free = subst (λ (z : Nodes). IsFree z rest) (sym is) (put_free t rest r free clear);
      clear = rest_clear rest r clear;
      entries = (and_parts (is_entry r) (list_all is_entry rest) all).1;
    }

pub returns-in_err-put-clause-full : goal.returns-in_err-put-clause-full
returns-in_err-put-clause-full c =
    let p : List ℕ = c.in-Some.path.now in
    let r : List ℕ × Node = (c.in-Some.path.now, c.in-Some.node.now) in
    let rest : Nodes = c.next.new.self in
    let t : Nodes = c.loop-path.tree in
    let steps : c.loop-path.path-iterator ≡ r ∷ rest = c.in-Some.ensures.steps in
    let plain : is_special p ≡ false = search rules in
    let failed : c.put.result ≡ Err c.in_err-put.field-0.0 = c.in_err-put.was in
    let same : c.from_residual-in_err-put.result ≡ Err c.in_err-put.field-0.0 = search rules in
    λ e.
    let full = c.put.ensures.full.0 (failed ∙ sym same ∙ e) in
    subst (λ (z : Nodes). NODES_MAX < length z) (ap (all_put t) (sym steps) ∙ c.loop-path.invariant.rest) (too_many t rest r plain full.1)

pub loop-path-preserved : goal.loop-path-preserved
loop-path-preserved c =
    let p : List ℕ = c.in-Some.path.now in
    let r : List ℕ × Node = (c.in-Some.path.now, c.in-Some.node.now) in
    let rest : Nodes = c.next.new.self in
    let t : Nodes = c.loop-path.tree in
    let steps : c.loop-path.path-iterator ≡ r ∷ rest = c.in-Some.ensures.steps in
    let special : is_special p ≡ true = search rules in
    let free : IsFree t (r ∷ rest) = subst (λ (z : Nodes). IsFree t z) steps c.loop-path.invariant.free in
    let clear : AreClear (r ∷ rest) (r ∷ rest) = subst (λ (z : Nodes). AreClear z z) steps c.loop-path.invariant.clear in
    let all : list_all is_entry (r ∷ rest) ≡ true = subst (λ (z : Nodes). list_all is_entry z ≡ true) steps c.loop-path.invariant.entries in
    record {
      rest = sym (ap (λ b. all_put (cond b t (tree.put t p c.in-Some.node.now)) rest) special) ∙ ap (all_put t) (sym steps) ∙ c.loop-path.invariant.rest;
      free = rest_free t rest r free;
      clear = rest_clear rest r clear;
      entries = (and_parts (is_entry r) (list_all is_entry rest) all).1;
    }
