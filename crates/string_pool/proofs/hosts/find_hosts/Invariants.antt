use Rattle.std.proofs.Common.{◌≡◌, Some, length, map, reverse}
use Rattle.std.specs.List.{slice_get}
use Rattle.string_pool.specs.Hosts.{host_of}
use Rattle.string_pool.specs.declared.backward.Numbered.{Numbered}
use Rattle.string_pool.proofs.Stack.{Before, IsStack}
use Rattle.string_pool.proofs.hosts.find_hosts.Given as goal

-- the stack is that of the items so far, and these have their hosts
abbrev pub invariant-loop-item : goal.invariant-loop-item
invariant-loop-item l =
    (length l.hosts.items ≡ length l.texts)
    × IsStack (map (λ text. text.now) l.texts) l.sorted l.item-index (reverse l.stack.items)
    × ((y : Numbered) → Before l.sorted l.item-index y → slice_get l.hosts.items y.number ≡ Some (host_of (map (λ text. text.now) l.texts) y.text.now))
