use Rattle.std.proofs.Common.{rules, ◌≡◌, ◌<◌, ◌==◌, ◌∷◌, ◌++◌, false, length, ap, sym, ◌∙◌, arith, length-append}
use Rattle.std.proofs.lemmas.Bool.Decides.{nat_tests}
use Rattle.image_tree.specs.Runs.{joined}
use Rattle.image_tree.proofs.tree.rest.Rest.next_run.Goals as goal

pub returns-clause-fewer : goal.returns-clause-fewer
returns-clause-fewer c =
    let first = c.self.inside.first in
    let run = c.in_ok-run.run'.now in
    let others = c.in_ok-run.others.now in
    let some : (length first == 0) ≡ false = sym c.is_empty.ensures ∙ c.if-is_empty.false in
    let one : 0 < length first = grind (arith, nat_tests, some) in
    let split : c.self.inside.others.now ≡ run ∷ others = search rules in
    let there : length (joined c.self.inside.others.now) ≡ length (run ++ joined others) = ap (λ rs. length (joined rs)) split in
    let size = ap length c.self.view_is in
    let whole = length-append first (joined c.self.inside.others.now) in
    let front = ap (λ r. length (r ++ joined others)) c.rows-first.ensures in
    omega arith
