use Rattle.cache_lookup.proofs.Indexed.{name_is}
use Rattle.cache_lookup.proofs.check.name_at.Goals as goal

pub returns : goal.returns
returns c = name_is _ _ _ c.requires c.entry_within.ensures
