use Rattle.cache_reader.proofs.Listed.{within_read}
use Rattle.cache_reader.proofs.Sound.{sound}
use Rattle.cache_reader.proofs.view.CacheView.entry_within.Goals as goal

pub entry_view-requires-clause-sound : goal.entry_view-requires-clause-sound
entry_view-requires-clause-sound c = sound c.self.inside.bytes.now c.self.invariant.accepted

pub entry_view-requires-clause-index : goal.entry_view-requires-clause-index
entry_view-requires-clause-index c = within_read c.self.inside.bytes.now c.args.i (rw c.self.view_is c.requires)
