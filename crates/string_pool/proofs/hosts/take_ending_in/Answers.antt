-- Each step looks at the top of the stack.
use Rattle.std.proofs.Common.{◌≡◌, ◌-◌, ◌<◌, ◌≤◌, ℕ, true, None, Some, List, length, take, reverse, sym, ap, ◌∙◌, arith, rules}
use Rattle.std.proofs.lemmas.List.{get_or_default, take_all}
use Rattle.string_pool.specs.Hosts.{left_below, least_above}
use Rattle.string_pool.specs.SharedEnds.{ends_in}
use Rattle.string_pool.specs.declared.backward.Numbered.{Numbered}
use Rattle.string_pool.proofs.Popped.{taken_left, taken_least, stays_left, stays_least, empty_left, empty_least}
use Rattle.string_pool.proofs.hosts.take_ending_in.Goals as goal
use Rattle.string_pool.proofs.hosts.take_ending_in.Goals.{then-loop-count-test+else-is_end, else-loop-count-test}

pub loop-count-init : goal.loop-count-init
loop-count-init c =
    let stack = c.args.stack.now.items in
    let all : take c.len-count.result stack ≡ stack = take_all c.len-count.result stack (omega (arith, c.len-count.ensures)) in
    (omega (arith, c.len-count.ensures), ap (λ (xs : List Numbered). left_below c.args.text.now (reverse xs)) all, ap (λ (xs : List Numbered). least_above c.args.text.now None (reverse xs)) all)

pub loop-count-preserved : goal.loop-count-preserved
loop-count-preserved c =
    let stack = c.args.stack.now.items in
    let n = c.loop-count.count in
    let t = c.args.text.now in
    let top = c.index-in-loop-count.result.now in
    let low : 0 < n = search rules in
    let high : n ≤ length stack = c.loop-count.invariant.0 in
    let within : n - 1 < length stack = omega (arith, low, high) in
    let same : c.index.result.now ≡ top = c.index.ensures ∙ get_or_default stack (n - 1) c.index.result.now top within ∙ sym c.index-in-loop-count.ensures in
    let ends : ends_in t top.text.now ≡ true = sym (ap (λ (b : Numbered). ends_in t b.text.now) same) ∙ sym c.is_end.ensures ∙ c.if-is_end.true in (
      omega (arith, high),
      taken_left t stack n top low high c.index-in-loop-count.ensures ends ∙ c.loop-count.invariant.1,
      ap (λ (r : ℕ). least_above t (Some r) (reverse (take (n - 1) stack))) c.least.ensures
          ∙ taken_least t stack n top low high c.index-in-loop-count.ensures c.loop-count.first ends ∙ c.loop-count.invariant.2,
    )

pub returns-clause-left : goal.returns-clause-left
returns-clause-left c = elim c.loop-count-test.branch [
  | then-loop-count-test+else-is_end w ↦
      ap reverse c.truncate.ensures.items
      ∙ stays_left c.args.text.now c.args.stack.now.items c.loop-count.count w.index.result.now w.loop-count-test.true c.loop-count.invariant.0 w.index.ensures (sym w.is_end.ensures ∙ w.if-is_end.false)
      ∙ c.loop-count.invariant.1
  | else-loop-count-test w ↦
      ap reverse c.truncate.ensures.items
      ∙ empty_left c.args.text.now c.args.stack.now.items c.loop-count.count w.loop-count-test.false
      ∙ c.loop-count.invariant.1
]

pub returns-clause-number : goal.returns-clause-number
returns-clause-number c = elim c.loop-count-test.branch [
  | then-loop-count-test+else-is_end w ↦
      stays_least c.args.text.now c.args.stack.now.items c.loop-count.count w.index.result.now w.loop-count-test.true c.loop-count.invariant.0 w.index.ensures c.loop-count.first (sym w.is_end.ensures ∙ w.if-is_end.false)
      ∙ c.loop-count.invariant.2
  | else-loop-count-test w ↦
      empty_least c.args.text.now c.args.stack.now.items c.loop-count.count c.loop-count.first w.loop-count-test.false
      ∙ c.loop-count.invariant.2
]
