use Rattle.cache_lookup.proofs.Indexed.{entry_is}
use Rattle.cache_lookup.proofs.abis.entry_at.Goals as goal

pub returns : goal.returns
returns c = entry_is _ _ _ c.requires c.entry_within.ensures
