use Rattle.mtree_manifest.proofs.Opening.{kept}
use Rattle.mtree_manifest.proofs.dirs.Dirs.close.Goals as goal

pub invariant_of-self : goal.invariant_of-self
invariant_of-self c = kept _ _ _ _ c.self.invariant c.pop.ensures.rest
