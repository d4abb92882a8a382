use Rattle.std.proofs.Common.{refl}
use Rattle.asking_runs.proofs.Asking.{resolves}
use Rattle.asking_runs.proofs.resolve.run_resolve.Goals as goal

pub returns-clause-runs : goal.returns-clause-runs
returns-clause-runs g c source = resolves _ _ c.end.result c.args.asked c.read_image-read.result c.resolve.result c.read_image-read.ensures c.resolve.ensures c.end.ensures.ends refl
