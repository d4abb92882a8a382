use Rattle.std.proofs.Common.{◌≡◌, ◌+◌, length, map, take}
use Rattle.string_pool.specs.SharedEnds.{shared_offset}
use Rattle.string_pool.proofs.layout.offsets.Given as goal

-- the texts so far have their offsets
abbrev pub invariant-loop-text : goal.invariant-loop-text
invariant-loop-text l =
    (length l.offsets.items ≡ l.text-index)
    × (l.offsets.items ≡ map (λ text. l.base + shared_offset (map (λ text. text.now) l.texts) text.now) (take l.text-index l.texts))
