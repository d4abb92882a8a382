use Rattle.std.proofs.Common.{◌≡◌, ◌<◌, ◌≤◌, ◌-◌, drop, length, take, subst, arith}
use Rattle.std.proofs.lemmas.Bool.Decides.{nat_tests}
use Rattle.std.proofs.lemmas.List.{length-drop, take_all}
use Rattle.standard_streams.proofs.Runs.{run_goes_on}
use Rattle.standard_streams.specs.Shown.{plain_len}
use Rattle.standard_streams.proofs.escapes.plain_run.Goals as goal

pub loop-at-preserved : goal.loop-at-preserved
loop-at-preserved c =
    let text = c.args.text.now in
    let at = c.loop-at.at in
    let count = c.plain_len-count.result in
    let size = length-drop at text in
    let some : 0 < count = grind (arith, nat_tests, c.if-count-eq0.false) in
    let rest : take (length text - at) (drop at text) ≡ drop at text = take_all (length text - at) (drop at text) (omega (arith, size)) in
    let within : count ≤ length (drop at text) = subst (λ l. count ≤ length l) rest c.plain_len-count.ensures.within in
    let value : count ≡ plain_len c.args.in_lines (drop at text) =
    subst (λ l. count ≡ plain_len c.args.in_lines l) rest c.plain_len-count.ensures.value in
    record {
      within = omega (arith, size, within, c.loop-at.invariant.within);
      shown = run_goes_on c.args.in_lines text at count c.loop-at.invariant.shown some within value;
    }
