use Rattle.std.proofs.Common.{◌+◌, drop}
use Rattle.file_trails.specs.Trail.{trail}
use Rattle.needed_files.specs.Needed.{found_in}
use Rattle.needed_files.proofs.InTurn.{next_item, one_more}
use Rattle.needed_files.proofs.files.add_programs.Goals as goal

pub loop-program-preserved : goal.loop-program-preserved
loop-program-preserved c =
    let all = c.args.programs.now in
    let program = c.program-item.result in
    let next = next_item all c.loop-program.program-index program program c.loop-program-test.true c.program-item.is in
    one_more (trail c.args.tree.now) (λ p. found_in p.scope) program (drop (c.loop-program.program-index + 1) all) c.loop-program.met c.add_program.new.met _ c.in_ok-add_program.ensures
    (rw next at c.loop-program.invariant)
