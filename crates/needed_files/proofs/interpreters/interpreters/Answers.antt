use Rattle.std.proofs.Common.{◌≡◌, ◌+◌, ◌∙◌, ap, arith, drop, Err, rules}
use Rattle.elf_interpreter.specs.Faults.{interpreter_ending}
use Rattle.elf_interpreter.specs.declared.fault.InterpreterFault.{InterpreterFault}
use Rattle.needed_files.specs.Interpreters.{key_of, program_keys}
use Rattle.needed_files.proofs.InTurn.{next_item, none_left, one_more_named}
use Rattle.needed_files.proofs.Reading.{no_key, partial, programs_early, programs_then}
use Rattle.needed_files.proofs.interpreters.interpreters.Goals as goal
use Rattle.tree_face.specs.StoreUse.{Complete}

pub returns-in_err-add_interpreter-clause-reads : goal.returns-in_err-add_interpreter-clause-reads
returns-in_err-add_interpreter-clause-reads g c =
    let all = c.args.programs.now in
    let t = c.args.tree.now in
    let program = c.program-item.result in
    let next = next_item all c.loop-program.program-index program program c.loop-program-test.true c.program-item.is in
    let fault = c.in_err-add_interpreter.field-0.0 in
    let failed : c.add_interpreter.result ≡ Err fault = c.in_err-add_interpreter.was in
    let same : c.from_residual.result ≡ Err fault = search rules in
    let known = (g.S.Store.state c.args.store.now).held in
    rw same ((rw next at c.loop-program.invariant.reads) (interpreter_ending {A = Unit {0}} (Err fault)) (g.S.Store.state c.add_interpreter.new.store)
    (programs_early known (key_of t program.path program.scope) (program_keys t (drop (c.loop-program.program-index + 1) all)) _ _ _ (partial fault)
    (rw (failed, c.loop-program.invariant.held) at c.add_interpreter.ensures.reads)))

pub loop-program-preserved : goal.loop-program-preserved
loop-program-preserved g c =
    let all = c.args.programs.now in
    let t = c.args.tree.now in
    let program = c.program-item.result in
    let rest = drop (c.loop-program.program-index + 1) all in
    let next = next_item all c.loop-program.program-index program program c.loop-program-test.true c.program-item.is in
    let known = (g.S.Store.state c.args.store.now).held in
    record {
      held = c.add_interpreter.ensures.reads.held ∙ c.loop-program.invariant.held;
      paths = one_more_named t all program rest c.loop-program.paths c.add_interpreter.new.paths known (rw c.loop-program.invariant.held at c.in_ok-add_interpreter.ensures.paths)
          (rw next at c.loop-program.invariant.paths);
      reads = λ e new more. (rw next at c.loop-program.invariant.reads) e new
          (programs_then known (key_of t program.path program.scope) (program_keys t rest) e (g.S.Store.state c.loop-program.store) (g.S.Store.state c.add_interpreter.new.store) new
          (rw c.loop-program.invariant.held at c.in_ok-add_interpreter.ensures.held)
          (rw (c.in_ok-add_interpreter.was, c.loop-program.invariant.held) at c.add_interpreter.ensures.reads) more);
    }

pub returns-clause-reads : goal.returns-clause-reads
returns-clause-reads g c =
    let all = c.args.programs.now in
    let t = c.args.tree.now in
    let known = (g.S.Store.state c.args.store.now).held in
    let here = g.S.Store.state c.loop-program.store in
    c.loop-program.invariant.reads Complete here
    (no_key known (program_keys t (drop c.loop-program.program-index all)) here (ap (program_keys t) (none_left all c.loop-program.program-index (omega (arith, c.loop-program-test.false)))))
