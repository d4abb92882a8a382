-- Each offset is read at the host of its text.
use Rattle.std.proofs.Common.{◌≡◌, ◌+◌, ◌++◌, ◌∷◌, ℕ, List, [], length, map, sym, ap, ◌∙◌, arith, rules, get_or, take}
use Rattle.std.proofs.lemmas.List.{length-append, map_more, take_all}
use Rattle.string_pool.specs.SharedEnds.{shared_offset}
use Rattle.string_pool.proofs.Placing.{end_fits, end_is, host_index, host_within, map_twice, no_text}
use Rattle.string_pool.proofs.layout.offsets.Goals as goal

pub bounds-hosts-len : goal.bounds-hosts-len
bounds-hosts-len c =
    host_index c.args.texts.now c.args.hosts.now c.args.ends.now c.requires.hosts c.requires.many c.requires.ends c.loop-text.text-index c.len.result (omega (arith, c.len.ensures, c.loop-text.invariant.0)) c.loop-text-test.true

pub bounds-ends-host : goal.bounds-ends-host
bounds-ends-host c =
    host_within c.args.texts.now c.args.hosts.now c.args.ends.now c.requires.hosts c.requires.many c.requires.ends c.loop-text.text-index c.len.result (omega (arith, c.len.ensures, c.loop-text.invariant.0)) c.loop-text-test.true

pub before_end-requires : goal.before_end-requires
before_end-requires c =
    let is = end_is c.args.texts.now c.args.hosts.now c.args.ends.now c.requires.hosts c.requires.many c.requires.ends c.loop-text.text-index c.len.result (omega (arith, c.len.ensures, c.loop-text.invariant.0)) c.loop-text-test.true in
    omega (arith, is)

pub overflow_add-base : goal.overflow_add-base
overflow_add-base c =
    let fits = end_fits c.args.texts.now c.args.hosts.now c.args.ends.now c.requires.hosts c.requires.many c.requires.ends c.loop-text.text-index c.len.result (omega (arith, c.len.ensures, c.loop-text.invariant.0)) c.loop-text-test.true in
    omega (arith, fits, c.before_end.ensures, c.requires.fits)

pub loop-text-preserved : goal.loop-text-preserved
loop-text-preserved c =
    let texts = c.args.texts.now in
    let ts = map (λ text. text.now) texts in
    let i = c.loop-text.text-index in
    let t = (get_or texts i no_text).now in
    let is = end_is texts c.args.hosts.now c.args.ends.now c.requires.hosts c.requires.many c.requires.ends i c.len.result (omega (arith, c.len.ensures, c.loop-text.invariant.0)) c.loop-text-test.true in
    let place : c.args.base + c.before_end.result ≡ c.args.base + shared_offset ts t = omega (arith, is, c.before_end.ensures) in
    let offsets = c.loop-text.offsets.items in (
      omega (arith, ap length c.in_ok-push.ensures.items, length-append offsets ((c.args.base + c.before_end.result) ∷ []), c.loop-text.invariant.0),
      c.in_ok-push.ensures.items ∙ ap (λ (xs : List ℕ). xs ++ (c.args.base + c.before_end.result) ∷ []) c.loop-text.invariant.1
          ∙ ap (λ (n : ℕ). map (λ text. c.args.base + shared_offset ts text.now) (take i texts) ++ n ∷ []) place
          ∙ sym (map_more (λ text. c.args.base + shared_offset ts text.now) texts i no_text c.loop-text-test.true),
    )

pub returns : goal.returns
returns c =
    let texts = c.args.texts.now in
    let ts = map (λ text. text.now) texts in
    c.loop-text.invariant.1
    ∙ ap (map (λ text. c.args.base + shared_offset ts text.now)) (take_all c.loop-text.text-index texts (search rules))
    ∙ map_twice (λ text. text.now) (λ text. c.args.base + shared_offset ts text) texts
