use Rattle.std.proofs.Common.{◌≡◌, ◌∙◌, Err, refl, rules}
use Rattle.ldd_resolve.proofs.Objects.{nothing_answered, request_fails, request_then}
use Rattle.ldd_resolve.proofs.Sound.{grows_none, grows_then}
use Rattle.ldd_resolve.proofs.requests.answer_names.Goals as goal

pub loop-name-init : goal.loop-name-init
loop-name-init g c =
    let st = g.S.Store.state c.args.store.now in
    let same : c.args.needed ≡ c.into_iter-name-iterator.result.rest.items = search rules in
    record {
      held = refl;
      sound = c.requires.sound;
      grows = grows_none c.args.loading.now;
      answers = λ chain. nothing_answered st.held c.args.given.now c.args.number chain c.args.needed _ c.args.loading.now st same;
    }

pub returns-in_err-answer_request-clause-answers : goal.returns-in_err-answer_request-clause-answers
returns-in_err-answer_request-clause-answers g c =
    let fault = c.in_err-answer_request.field-0.0 in
    let failed : c.answer_request.result ≡ Err fault = c.in_err-answer_request.was in
    let same : c.from_residual.result ≡ Err fault = search rules in
    let st = g.S.Store.state c.args.store.now in
    let rest = c.next.new.self.rest.items in
    rw same (λ chain. request_fails st.held c.args.given.now c.args.number chain c.args.needed _ c.args.loading.now c.loop-name.loading st (g.S.Store.state c.loop-name.store)
    (g.S.Store.state c.answer_request.new.store) ((rw c.in-Some.ensures.steps.0 at c.loop-name.invariant.answers) chain) rest c.answer_request.new.loading c.answer_request.new.loading fault
    (rw (failed, c.loop-name.invariant.held) at c.answer_request.ensures.answers chain rest))

pub loop-name-preserved : goal.loop-name-preserved
loop-name-preserved g c =
    let st = g.S.Store.state c.args.store.now in
    let rest = c.next.new.self.rest.items in
    record {
      held = c.answer_request.ensures.held ∙ c.loop-name.invariant.held;
      sound = rw c.loop-name.invariant.held at c.in_ok-answer_request.ensures.sound;
      grows = grows_then c.args.loading.now c.loop-name.loading c.answer_request.new.loading c.loop-name.invariant.grows c.in_ok-answer_request.ensures.grows;
      answers = λ chain. request_then st.held c.args.given.now c.args.number chain c.args.needed _ c.args.loading.now c.loop-name.loading st (g.S.Store.state c.loop-name.store)
          (g.S.Store.state c.answer_request.new.store) ((rw c.in-Some.ensures.steps.0 at c.loop-name.invariant.answers) chain) rest c.answer_request.new.loading
          (rw (c.in_ok-answer_request.was, c.loop-name.invariant.held) at c.answer_request.ensures.answers chain rest);
    }
