use Rattle.cache_entries.proofs.LinksOf.{rest_left}
use Rattle.cache_entries.proofs.links_of.target_of.Goals as goal

pub loop-link-preserved : goal.loop-link-preserved
loop-link-preserved c = rest_left c.args.left.now c.loop-link.left c.next.new.self c.next.result c.loop-link.invariant c.next.ensures.steps
