use Rattle.std.proofs.Common.{◌≡◌, ◌+◌, ◌≤◌, ◌∙◌, ◌∷◌, [], suc, length, Err, refl, arith, rules}
use Rattle.ldd_resolve.specs.declared.loading.Loading.{Loading}
use Rattle.ldd_resolve.proofs.Objects.{all_answered, none_taken, object_fails, object_then}
use Rattle.ldd_resolve.proofs.Sound.{even_then, turn_within}
use Rattle.ldd_resolve.proofs.requests.answer_all.Goals as goal
use Rattle.image_tree.specs.declared.tree.TheConstants.{NODES_MAX}

pub loop-needed-init : goal.loop-needed-init
loop-needed-init g c =
    let st = g.S.Store.state c.args.store.now in
    record {
      held = refl;
      sound = c.requires.sound;
      even = c.requires.even;
      answers = none_taken st.held c.args.given.now c.args.loading.now st;
    }

pub returns-in_err-answer_names-clause-answers : goal.returns-in_err-answer_names-clause-answers
returns-in_err-answer_names-clause-answers g c =
    let s1 = c.loop-needed.loading in
    let s2 : Loading = record s1 { pending = c.pop_front.new.self } in
    let queue : s1.pending.items ≡ c.in-Some.needed ∷ s2.pending.items = search rules in
    let fault = c.in_err-answer_names.field-0.0 in
    let failed : c.answer_names.result ≡ Err fault = c.in_err-answer_names.was in
    let same : c.from_residual.result ≡ Err fault = search rules in
    let st = g.S.Store.state c.args.store.now in
    rw same (object_fails st.held c.args.given.now c.loop-needed.number c.args.loading.now s1 s2 st (g.S.Store.state c.loop-needed.store) (g.S.Store.state c.answer_names.new.store)
    c.loop-needed.invariant.answers c.in-Some.needed queue refl refl refl refl refl refl refl refl c.answer_names.new.loading c.answer_names.new.loading fault
    (rw (failed, c.loop-needed.invariant.held) at c.answer_names.ensures.answers))

pub overflow_add-number : goal.overflow_add-number
overflow_add-number g c =
    let s1 = c.loop-needed.loading in
    let s2 : Loading = record s1 { pending = c.pop_front.new.self } in
    let queue : s1.pending.items ≡ c.in-Some.needed ∷ s2.pending.items = search rules in
    let within = turn_within s1 s2 c.loop-needed.number c.in-Some.needed c.loop-needed.invariant.even queue _ _ _ c.loop-needed.invariant.sound in
    let few : length c.args.given.now.tree.now ≤ NODES_MAX = c.know.ensures.few in
    omega (arith, within, few)

pub loop-needed-smaller : goal.loop-needed-smaller
loop-needed-smaller g c =
    let s1 = c.loop-needed.loading in
    let s2 : Loading = record s1 { pending = c.pop_front.new.self } in
    let queue : s1.pending.items ≡ c.in-Some.needed ∷ s2.pending.items = search rules in
    let within = turn_within s1 s2 c.loop-needed.number c.in-Some.needed c.loop-needed.invariant.even queue _ _ _ c.loop-needed.invariant.sound in
    omega (arith, within)

pub loop-needed-preserved : goal.loop-needed-preserved
loop-needed-preserved g c =
    let s1 = c.loop-needed.loading in
    let s2 : Loading = record s1 { pending = c.pop_front.new.self } in
    let queue : s1.pending.items ≡ c.in-Some.needed ∷ s2.pending.items = search rules in
    let st = g.S.Store.state c.args.store.now in
    let n = c.loop-needed.number in
    let next : n + 1 ≡ suc n = omega arith in
    record {
      held = c.answer_names.ensures.held ∙ c.loop-needed.invariant.held;
      sound = rw c.loop-needed.invariant.held at c.in_ok-answer_names.ensures.sound;
      even = even_then s1 s2 n c.in-Some.needed c.loop-needed.invariant.even queue c.answer_names.new.loading refl refl c.in_ok-answer_names.ensures.grows;
      answers = object_then st.held c.args.given.now n c.args.loading.now s1 s2 st (g.S.Store.state c.loop-needed.store) (g.S.Store.state c.answer_names.new.store)
          c.loop-needed.invariant.answers c.in-Some.needed queue refl refl refl refl refl refl refl refl (n + 1) c.answer_names.new.loading next
          (rw (c.in_ok-answer_names.was, c.loop-needed.invariant.held) at c.answer_names.ensures.answers);
    }

pub returns-clause-answers : goal.returns-clause-answers
returns-clause-answers g c =
    let st = g.S.Store.state c.args.store.now in
    let s1 = c.loop-needed.loading in
    let s2 : Loading = record s1 { pending = c.pop_front.new.self } in
    let none : s1.pending.items ≡ [] = search rules in
    all_answered st.held c.args.given.now c.loop-needed.number c.args.loading.now s1 s2 st (g.S.Store.state c.loop-needed.store) c.loop-needed.invariant.answers none refl refl refl refl
