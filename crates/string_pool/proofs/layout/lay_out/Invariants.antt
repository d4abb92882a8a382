use Rattle.std.proofs.Common.{◌≡◌, length, map}
use Rattle.string_pool.specs.Laid.{AreEnds, table_to}
use Rattle.string_pool.proofs.layout.lay_out.Given as goal

-- the texts so far are laid out
abbrev pub invariant-loop-text : goal.invariant-loop-text
invariant-loop-text l =
    (length l.ends.items ≡ l.text-index)
    × (l.bytes.items ≡ table_to (map (λ text. text.now) l.texts) l.text-index)
    × AreEnds (map (λ text. text.now) l.texts) l.text-index l.ends.items
