use Rattle.std.proofs.Common.{sym, ◌∙◌}
use Rattle.mtree_manifest.proofs.Singles.{refused}
use Rattle.mtree_manifest.proofs.single.find_path.Goals as goal

pub returns-in-Some-clause-fault : goal.returns-in-Some-clause-fault
returns-in-Some-clause-fault c = sym (refused c.args.is_dir c.args.first.now c.in-Some.kind (sym c.in_ok-kind.ensures.fault ∙ c.in-Some.is))
