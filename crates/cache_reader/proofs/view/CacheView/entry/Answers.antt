use Rattle.std.proofs.Common.{◌∙◌, ap, Some, arith}
use Rattle.cache_reader.proofs.Listed.{length_read, read_past, read_within}
use Rattle.cache_reader.proofs.view.CacheView.entry.Goals as goal

pub returns-then-i-self : goal.returns-then-i-self
returns-then-i-self c = rw (← c.self.view_is) (read_past c.self.inside.bytes.now c.self.inside.count c.args.i c.self.invariant.entries (omega arith))

pub returns : goal.returns
returns c = rw (← c.self.view_is) (rw c.self.view_is (ap Some c.entry_within.ensures) ∙ read_within c.self.inside.bytes.now c.self.inside.count c.args.i c.self.invariant.entries (omega arith))

pub entry_within-requires : goal.entry_within-requires
entry_within-requires c =
    let size = length_read c.self.inside.bytes.now c.self.inside.count c.self.invariant.entries in
    rw (← c.self.view_is) (omega (arith, size))
