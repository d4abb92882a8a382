use Rattle.std.proofs.Common.{◌≡◌, ◌∙◌, ◌+◌, ◌≤◌, ℕ, List, Err, ap, arith, drop, length, rules, subst, sym, take}
use Rattle.std.proofs.lemmas.List.{take_all}
use Rattle.std.specs.Result.{IfErr}
use Rattle.image_tree.specs.Tree.{Nodes}
use Rattle.layer_union.proofs.Adding.{IsNext, bad_by, first_sound, first_union, full_by, next_layer, none_left, same_fault}
use Rattle.layer_union.proofs.Layering.{sound_more, union_more}
use Rattle.layer_union.proofs.layers.union.Goals as goal
use Rattle.layer_union.specs.Steps.{IsBadFault, IsFullFault}
use Rattle.layer_union.specs.Union.{AreSound, IsUnion}
use Rattle.layer_union.specs.declared.layers.UnionFault.{UnionFault}
use Rattle.layer_union.specs.declared.layers.UnionFault.TheVariants.{BadWhiteout, Full}

pub loop-index-init : goal.loop-index-init
loop-index-init c =
    let layers : List Nodes = c.args.layers in
    let none : c.into_iter-index-iterator.result.count ≡ 0 = search rules in
    let items : c.into_iter-index-iterator.result.iter.rest.items ≡ layers = search rules in
    record {
      rest = items ∙ sym (ap (λ k. drop k layers) none);
      union = subst (λ k. IsUnion (take k layers) c.new-tree.result) (sym none) (first_union layers c.new-tree.result c.new-tree.ensures);
      sound = subst (AreSound layers) (sym none) (first_sound layers);
    }

pub loop-index-preserved : goal.loop-index-preserved
loop-index-preserved c =
    let layers : List Nodes = c.args.layers in
    let top : Nodes = c.in-Some.layer in
    let k : ℕ = c.loop-index.index-iterator.count in
    let t : Nodes = c.loop-index.tree in
    let new : Nodes = c.add_layer.new.tree in
    let left : List Nodes = c.next.new.self.iter.rest.items in
    let steps = c.in-Some.ensures.steps in
    let next : IsNext layers left top k = next_layer layers left top k (sym c.loop-index.invariant.rest ∙ steps.0.0) in
    let more : c.next.new.self.count ≡ k + 1 = steps.2 in
    let union : IsUnion (take (k + 1) layers) new = subst (IsUnion (take (k + 1) layers)) (sym c.in_ok-add_layer.ensures.applied)
    (union_more layers k top next.within next.is t c.loop-index.invariant.union c.add_layer.ensures.sorted) in
    let sound : AreSound layers (k + 1) = sound_more layers k top next.within next.is new c.loop-index.invariant.sound c.in_ok-add_layer.ensures.good union c.in_ok-add_layer.ensures.few in
    record {
      rest = next.left ∙ sym (ap (λ n. drop n layers) more);
      union = subst (λ n. IsUnion (take n layers) new) (sym more) union;
      sound = subst (AreSound layers) (sym more) sound;
    }

pub returns-in_err-add_layer-clause-bad : goal.returns-in_err-add_layer-clause-bad
returns-in_err-add_layer-clause-bad c =
    let layers : List Nodes = c.args.layers in
    let top : Nodes = c.in-Some.layer in
    let k : ℕ = c.loop-index.index-iterator.count in
    let left : List Nodes = c.next.new.self.iter.rest.items in
    let steps = c.in-Some.ensures.steps in
    let next : IsNext layers left top k = next_layer layers left top k (sym c.loop-index.invariant.rest ∙ steps.0.0) in
    let at : c.in-Some.index ≡ k = steps.1 in
    let failed : c.add_layer.result ≡ Err c.in_err-add_layer.field-0.0 = c.in_err-add_layer.was in
    let same : c.from_residual.result ≡ Err c.in_err-add_layer.field-0.0 = search rules in
    λ layer node e.
    let fault : c.in_err-add_layer.field-0.0 ≡ BadWhiteout layer node = same_fault c.from_residual.result c.in_err-add_layer.field-0.0 (BadWhiteout layer node) same e in
    bad_by layers k top c.loop-index.tree c.add_layer.new.tree next.within next.is c.loop-index.invariant.union c.loop-index.invariant.sound c.add_layer.ensures.sorted
    c.add_layer.result (subst (λ n. IfErr c.add_layer.result (λ fault. IsBadFault top n fault)) at c.add_layer.ensures.bad)
    layer node (subst (λ (z : UnionFault). c.add_layer.result ≡ Err z) fault failed)

pub returns-in_err-add_layer-clause-full : goal.returns-in_err-add_layer-clause-full
returns-in_err-add_layer-clause-full c =
    let layers : List Nodes = c.args.layers in
    let top : Nodes = c.in-Some.layer in
    let k : ℕ = c.loop-index.index-iterator.count in
    let left : List Nodes = c.next.new.self.iter.rest.items in
    let steps = c.in-Some.ensures.steps in
    let next : IsNext layers left top k = next_layer layers left top k (sym c.loop-index.invariant.rest ∙ steps.0.0) in
    let at : c.in-Some.index ≡ k = steps.1 in
    let failed : c.add_layer.result ≡ Err c.in_err-add_layer.field-0.0 = c.in_err-add_layer.was in
    let same : c.from_residual.result ≡ Err c.in_err-add_layer.field-0.0 = search rules in
    λ layer e.
    let fault : c.in_err-add_layer.field-0.0 ≡ Full layer = same_fault c.from_residual.result c.in_err-add_layer.field-0.0 (Full layer) same e in
    full_by layers k top c.loop-index.tree c.add_layer.new.tree next.within next.is c.loop-index.invariant.union c.loop-index.invariant.sound c.add_layer.ensures.sorted
    c.add_layer.result (subst (λ n. IfErr c.add_layer.result (λ fault. IsFullFault c.loop-index.tree top n fault)) at c.add_layer.ensures.full)
    layer (subst (λ (z : UnionFault). c.add_layer.result ≡ Err z) fault failed)

pub returns-clause-union : goal.returns-clause-union
returns-clause-union c =
    let layers : List Nodes = c.args.layers in
    let k : ℕ = c.loop-index.index-iterator.count in
    let all : length layers ≤ k = none_left layers k (sym (ap length c.loop-index.invariant.rest) ∙ (sym c.loop-index.index-iterator.iter.rest.ok.0 ∙ c.in-None.ensures.steps.0.0)) in
    subst (λ (z : List Nodes). IsUnion z c.loop-index.tree) (take_all k layers all) c.loop-index.invariant.union

pub returns-clause-sound : goal.returns-clause-sound
returns-clause-sound c =
    let layers : List Nodes = c.args.layers in
    let k : ℕ = c.loop-index.index-iterator.count in
    let all : length layers ≤ k = none_left layers k (sym (ap length c.loop-index.invariant.rest) ∙ (sym c.loop-index.index-iterator.iter.rest.ok.0 ∙ c.in-None.ensures.steps.0.0)) in
    λ j l. c.loop-index.invariant.sound j (omega arith)
