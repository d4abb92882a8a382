use Rattle.std.proofs.Common.{◌≡◌, false}
use Rattle.conf_patterns.specs.Pieces.{has_close}
use Rattle.conf_patterns.proofs.Skips.{unclosed_after}
use Rattle.conf_patterns.proofs.pieces.Pieces.split_first.Goals as goal

pub piece_at-piece-requires : goal.piece_at-piece-requires
piece_at-piece-requires c = rw (c.after-more.ensures) (unclosed_after 1 c.self.inside.unclosed c.self.inside.rest.now c.self.invariant)

pub invariant_of-result : goal.invariant_of-result
invariant_of-result c =
    let more : has_close c.self.inside.unclosed c.after-more.result.now ≡ false = rw (c.after-more.ensures) (unclosed_after 1 c.self.inside.unclosed c.self.inside.rest.now c.self.invariant) in
    rw (c.after-rest.ensures) (unclosed_after c.more_of.result c.self.inside.unclosed c.after-more.result.now more)
