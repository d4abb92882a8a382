use Rattle.device_rules.proofs.BelowRoot.{kept}
use Rattle.device_rules.proofs.places.below_root.Goals as goal

pub returns-in-None : goal.returns-in-None
unfolding lib.Utf8.encode
returns-in-None c = kept _ c.in-None.ensures.cases
