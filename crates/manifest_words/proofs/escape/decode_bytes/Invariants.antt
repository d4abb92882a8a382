use Rattle.std.proofs.Common.{◌≡◌, length}
use Rattle.manifest_words.specs.Escape.{decoded}
use Rattle.manifest_words.proofs.Decoded.{following}
use Rattle.manifest_words.proofs.escape.decode_bytes.Given as goal

-- the bytes decoded so far, and then the decoded rest, are the decoded word
abbrev pub invariant-loop-rest : goal.invariant-loop-rest
invariant-loop-rest l = following l.out.items (decoded l.rest) ≡ following l.fn.out.items (decoded l.fn.word)

abbrev pub decreases-loop-rest : goal.decreases-loop-rest
decreases-loop-rest l = length l.rest
