use Rattle.std.proofs.Common.{◌≡◌, Some, None, Err, rules}
use Rattle.elf_dynamic.specs.Begun.{key_in}
use Rattle.elf_interpreter.specs.declared.fault.InterpreterFault.TheVariants.{NoMemory}
use Rattle.image_tree.specs.Tree.{node_at}
use Rattle.ldd_resolve.specs.Resolving.{program_at}
use Rattle.needed_files.specs.Interpreters.{key_at, key_there}
use Rattle.needed_files.proofs.Named.{key_is, no_file, no_key_there, no_keys, none_lacking, none_named, one_key, result_held, result_named}
use Rattle.needed_files.proofs.Reading.{no_key, none_opened, one_program}
use Rattle.needed_files.proofs.interpreters.interpreter_at.Goals as goal

pub returns-in_err-whole-clause-reads : goal.returns-in_err-whole-clause-reads
returns-in_err-whole-clause-reads g c =
    let same : c.from_residual.result ≡ Err NoMemory = search rules in
    let st = g.S.Store.state c.args.store.now in
    rw same (none_opened st.held (key_at c.args.tree.now c.args.path.now) st)

pub returns-in_err-real-clause-reads : goal.returns-in_err-real-clause-reads
returns-in_err-real-clause-reads g c =
    let same : c.from_residual-in_err-real.result ≡ Err NoMemory = search rules in
    let st = g.S.Store.state c.args.store.now in
    rw same (none_opened st.held (key_at c.args.tree.now c.args.path.now) st)

pub returns-clause-named : goal.returns-clause-named
returns-clause-named g c =
    let t = c.args.tree.now in
    let leads : program_at t c.args.path.now ≡ Some c.in-Some.real = search rules in
    let some : key_in (node_at t c.in-Some.real) ≡ Some c.in-Some-key_at.key.now = search rules in
    let there = key_is t c.args.path.now c.in-Some.real c.in-Some-key_at.key.now leads some in
    result_named t c.args.path.now c.in-Some-key_at.key.now there (g.S.Store.state c.args.store.now).held c.interpreter.result c.interpreter.ensures.text

pub returns-clause-held : goal.returns-clause-held
returns-clause-held g c =
    let t = c.args.tree.now in
    let leads : program_at t c.args.path.now ≡ Some c.in-Some.real = search rules in
    let some : key_in (node_at t c.in-Some.real) ≡ Some c.in-Some-key_at.key.now = search rules in
    let there = key_is t c.args.path.now c.in-Some.real c.in-Some-key_at.key.now leads some in
    result_held t c.args.path.now c.in-Some-key_at.key.now there (g.S.Store.state c.args.store.now).held c.interpreter.result c.interpreter.ensures.text

pub returns-clause-reads : goal.returns-clause-reads
returns-clause-reads g c =
    let t = c.args.tree.now in
    let leads : program_at t c.args.path.now ≡ Some c.in-Some.real = search rules in
    let some : key_in (node_at t c.in-Some.real) ≡ Some c.in-Some-key_at.key.now = search rules in
    let there = key_is t c.args.path.now c.in-Some.real c.in-Some-key_at.key.now leads some in
    rw (one_key t c.args.path.now c.in-Some-key_at.key.now there None) (one_program c.in-Some-key_at.key.now _ _ _ c.interpreter.ensures.reads)
