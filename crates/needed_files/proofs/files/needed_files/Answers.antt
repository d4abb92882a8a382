use Rattle.std.proofs.Common.{◌≡◌, Err, rules}
use Rattle.elf_interpreter.specs.declared.fault.InterpreterFault.TheVariants.{NoMemory}
use Rattle.needed_files.proofs.files.needed_files.Goals as goal
use Rattle.tree_face.proofs.StoreUse.{reads_all}

pub returns-in_err-files-clause-reads : goal.returns-in_err-files-clause-reads
returns-in_err-files-clause-reads g c =
    let same : c.from_residual-in_err-files.result ≡ Err NoMemory = search rules in
    rw same (reads_all _ _ _ _ _ (rw (c.in_ok-interpreters.was, c.as_slice.ensures) at c.interpreters.ensures.reads))

pub returns-in_err-is_missing-clause-reads : goal.returns-in_err-is_missing-clause-reads
returns-in_err-is_missing-clause-reads g c =
    let same : c.from_residual-in_err-is_missing.result ≡ Err NoMemory = search rules in
    rw same (reads_all _ _ _ _ _ (rw (c.in_ok-interpreters.was, c.as_slice.ensures) at c.interpreters.ensures.reads))
