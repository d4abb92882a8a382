use Rattle.std.proofs.Common.{◌≡◌, ◌∙◌, Err, ap, rules}
use Rattle.elf_dynamic.proofs.BegunKeys.{keys_early, keys_then}
use Rattle.image_programs.specs.Programs.{keys_of_node, node_keys}
use Rattle.image_programs.proofs.Nodes.{none_left, one_more_path, partial}
use Rattle.image_programs.proofs.programs.image_programs.Goals as goal
use Rattle.rpath_search.specs.Faults.{search_ending}
use Rattle.tree_face.specs.StoreUse.{Complete}

pub returns-in_err-add_program-clause-reads : goal.returns-in_err-add_program-clause-reads
returns-in_err-add_program-clause-reads g c =
    let fault = c.in_err-add_program.field-0.0 in
    let same : c.from_residual.result ≡ Err fault = search rules in
    let known = (g.S.Store.state c.args.store.now).held in
    rw same ((rw c.in-Some.ensures.steps at c.loop-path.invariant.reads) (search_ending {A = Unit {0}} (Err fault)) (g.S.Store.state c.add_program.new.store)
    (keys_early known (keys_of_node c.in-Some.node.now) (node_keys c.next.new.self) _ _ _ (partial fault)
    (rw (c.in_err-add_program.was, c.loop-path.invariant.held) at c.add_program.ensures.reads)))

pub loop-path-preserved : goal.loop-path-preserved
loop-path-preserved g c =
    let known = (g.S.Store.state c.args.store.now).held in
    let path = c.in-Some.path.now in
    let node = c.in-Some.node.now in
    let rest = c.next.new.self in
    record {
      held = c.add_program.ensures.reads.held ∙ c.loop-path.invariant.held;
      paths = one_more_path path node rest c.args.tree.now c.loop-path.paths c.add_program.new.paths known (rw c.loop-path.invariant.held at c.in_ok-add_program.ensures.paths)
          (rw c.in-Some.ensures.steps at c.loop-path.invariant.paths);
      reads = λ e new more. (rw c.in-Some.ensures.steps at c.loop-path.invariant.reads) e new
          (keys_then known (keys_of_node node) (node_keys rest) e (g.S.Store.state c.loop-path.store) (g.S.Store.state c.add_program.new.store) new
          (rw c.loop-path.invariant.held at c.in_ok-add_program.ensures.held)
          (rw (c.in_ok-add_program.was, c.loop-path.invariant.held) at c.add_program.ensures.reads) more);
    }

pub returns-clause-reads : goal.returns-clause-reads
returns-clause-reads g c =
    let known = (g.S.Store.state c.args.store.now).held in
    let here = g.S.Store.state c.loop-path.store in
    c.loop-path.invariant.reads Complete here (none_left known (node_keys c.loop-path.path-iterator) here (ap node_keys c.in-None.ensures.steps.0))
