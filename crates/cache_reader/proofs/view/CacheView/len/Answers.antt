use Rattle.cache_reader.proofs.Listed.{length_read}
use Rattle.cache_reader.proofs.view.CacheView.len.Goals as goal

pub returns-clause-value : goal.returns-clause-value
returns-clause-value c = rw (← c.self.view_is) (length_read c.self.inside.bytes.now c.self.inside.count c.self.invariant.entries)
