use Rattle.std.proofs.Common.{◌≡◌, true, false, Err, rules}
use Rattle.rpath_search.specs.declared.fault.SearchFault.TheVariants.{NoMemory}
use Rattle.rpath_search.specs.Searching.{is_among}
use Rattle.ldd_resolve.specs.Requests.{IsAt, inputs_by}
use Rattle.ldd_resolve.proofs.Advances.{gives_up, gives_up_then}
use Rattle.ldd_resolve.proofs.OneRequest.{begun_name, known_name, name_fails, same_paths, searched_name, sound_answer}
use Rattle.ldd_resolve.proofs.requests.answer_request.Goals as goal

pub returns-then-contains-clause-answers : goal.returns-then-contains-clause-answers
returns-then-contains-clause-answers g c =
    let there : is_among c.args.loading.now.names c.args.name ≡ true = search rules in
    let st = g.S.Store.state c.args.store.now in
    λ chain rest r here. known_name c.args.given.now r c.args.loading.now c.args.number chain c.args.name rest here c.add_reply.new.self c.in_ok-add_reply.ensures st.held st there

-- out of memory before the search
pub returns-in_err-add_reply-clause-answers : goal.returns-in_err-add_reply-clause-answers
returns-in_err-add_reply-clause-answers g c =
    let same : c.from_residual.result ≡ Err NoMemory = search rules in
    let st = g.S.Store.state c.args.store.now in
    rw same (λ chain rest r here. gives_up (inputs_by c.args.given.now) r st st.held)

-- out of memory after the search
pub returns-in_err-part-clause-answers : goal.returns-in_err-part-clause-answers
returns-in_err-part-clause-answers g c =
    let new : is_among c.args.loading.now.names c.args.name ≡ false = search rules in
    let same : c.from_residual-in_err-part.result ≡ Err NoMemory = search rules in
    let st = g.S.Store.state c.args.store.now in
    let after = g.S.Store.state c.search_name.new.store in
    rw same (λ chain rest r here. gives_up_then (inputs_by c.args.given.now) r (λ _. Unit {0}) st after st.held
    (begun_name c.args.given.now r c.args.loading.now c.args.number chain c.args.name rest here st after new _ (same_paths c.args.given.now r c.args.loading.now c.args.number chain c.args.name rest here c.requires.loader) st.held _
    (rw (c.in_ok-answer.was, c.as_bytes-2.ensures) at c.search_name.ensures.begins)))

pub returns-in_err-answer-clause-answers : goal.returns-in_err-answer-clause-answers
returns-in_err-answer-clause-answers g c =
    let new : is_among c.args.loading.now.names c.args.name ≡ false = search rules in
    let fault = c.in_err-answer.field-0.0 in
    let failed : c.search_name.result ≡ Err fault = c.in_err-answer.was in
    let same : c.from_residual-in_err-answer.result ≡ Err fault = search rules in
    let st = g.S.Store.state c.args.store.now in
    rw same (λ chain rest r here. name_fails c.args.given.now r c.args.loading.now c.args.number chain c.args.name rest here
    st (g.S.Store.state c.search_name.new.store) new _ (same_paths c.args.given.now r c.args.loading.now c.args.number chain c.args.name rest here c.requires.loader) st.held fault (λ r2. IsAt c.args.given.now.env.now r2 c.args.loading.now c.args.number chain rest)
    (rw (failed, c.as_bytes-2.ensures) at c.search_name.ensures.begins))

pub returns-in_err-take_answer-clause-answers : goal.returns-in_err-take_answer-clause-answers
returns-in_err-take_answer-clause-answers g c =
    let new : is_among c.args.loading.now.names c.args.name ≡ false = search rules in
    let same : c.from_residual-in_err-take_answer.result ≡ Err NoMemory = search rules in
    let st = g.S.Store.state c.args.store.now in
    let after = g.S.Store.state c.search_name.new.store in
    rw same (λ chain rest r here. gives_up_then (inputs_by c.args.given.now) r (λ _. Unit {0}) st after st.held
    (begun_name c.args.given.now r c.args.loading.now c.args.number chain c.args.name rest here st after new _ (same_paths c.args.given.now r c.args.loading.now c.args.number chain c.args.name rest here c.requires.loader) st.held _
    (rw (c.in_ok-answer.was, c.as_bytes-2.ensures) at c.search_name.ensures.begins)))

pub returns-clause-sound : goal.returns-clause-sound
returns-clause-sound g c =
    let known = (g.S.Store.state c.args.store.now).held in
    c.in_ok-take_answer.ensures.sound known c.args.given.now.tree.now c.args.given.now.env.now.abi c.requires.sound
    (sound_answer known c.args.given.now c.args.loading.now.places.loaded _ c.in_ok-answer.answer c.in_ok-answer.ensures.finds c.in_ok-answer.ensures.new)

pub returns-clause-answers : goal.returns-clause-answers
returns-clause-answers g c =
    let new : is_among c.args.loading.now.names c.args.name ≡ false = search rules in
    let st = g.S.Store.state c.args.store.now in
    λ chain rest r here. searched_name c.args.given.now r c.args.loading.now c.args.number chain c.args.name rest here st (g.S.Store.state c.search_name.new.store) new _ (same_paths c.args.given.now r c.args.loading.now c.args.number chain c.args.name rest here c.requires.loader)
    c.take_answer.new.self c.in_ok-answer.answer c.in_ok-part.part c.requires.loader c.in_ok-take_answer.ensures.matching st.held
    (rw c.as_bytes-2.ensures at c.in_ok-answer.ensures.finds) c.in_ok-answer.ensures.new (rw c.as_bytes-3.ensures at c.in_ok-part.ensures) (rw (c.in_ok-answer.was, c.as_bytes-2.ensures) at c.search_name.ensures.begins)
