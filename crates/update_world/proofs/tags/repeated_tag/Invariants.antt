use Rattle.std.proofs.Common.{◌≡◌, drop}
use Rattle.update_world.specs.Turns.{repeated, repeated_among}
use Rattle.update_world.proofs.tags.repeated_tag.Given as goal

-- the first repeated tag is that of one of the remaining updaters
abbrev pub invariant-loop-post : goal.invariant-loop-post
invariant-loop-post l = repeated_among l.tags.keys (drop l.post-index l.posts) ≡ repeated l.posts
