use Rattle.std.proofs.Common.{rules, ◌≡◌, ◌∷◌, [], ◌++◌, ◌+◌, ◌∙◌, ap, drop, false, true}
use Rattle.update_world.proofs.Differ.{repeated_here, repeated_later}
use Rattle.update_world.specs.Turns.{repeated_among}
use Rattle.update_world.proofs.tags.repeated_tag.Goals as goal

pub returns-then-not-branch : goal.returns-then-not-branch
returns-then-not-branch c =
    let old : c.in_ok-insert.field-0 ≡ false = search rules in
    repeated_here c.loop-post.tags.keys c.args.posts.now c.loop-post.post-index c.post-item.result (search rules) (search rules) c.in_ok-insert.field-0 c.in_ok-insert.ensures.added old ∙ c.loop-post.invariant

pub loop-post-preserved : goal.loop-post-preserved
loop-post-preserved c =
    let new : c.in_ok-insert.field-0 ≡ true = search rules in
    let added : c.insert.new.self.keys ≡ c.loop-post.tags.keys ++ c.post-item.result.tag.0 ∷ [] = search rules in
    ap (λ keys. repeated_among keys (drop (c.loop-post.post-index + 1) c.args.posts.now)) added
    ∙ repeated_later c.loop-post.tags.keys c.args.posts.now c.loop-post.post-index c.post-item.result (search rules) (search rules) c.in_ok-insert.field-0 c.in_ok-insert.ensures.added new ∙ c.loop-post.invariant
