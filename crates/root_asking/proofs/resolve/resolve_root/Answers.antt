use Rattle.std.proofs.Common.{refl}
use Rattle.root_asking.proofs.Listing.{resolves}
use Rattle.root_asking.proofs.resolve.resolve_root.Goals as goal

pub returns-clause-resolves : goal.returns-clause-resolves
returns-clause-resolves g c source =
    resolves c.args.asked _ _ _ _ c.end.result c.read_root-read.result c.resolve.result c.read_root-read.ensures c.resolve.ensures c.end.ensures.ends refl
