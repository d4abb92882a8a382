use Rattle.std.proofs.Common.{take}
use Rattle.string_pool.specs.Kept.{AreLaidOut}
use Rattle.string_pool.proofs.table.Table.of.Given as goal

-- the texts so far are laid out
abbrev pub invariant-loop-text : goal.invariant-loop-text
invariant-loop-text l = AreLaidOut l.base (take l.text-index l.text-items) l.offsets.items l.bytes.items
