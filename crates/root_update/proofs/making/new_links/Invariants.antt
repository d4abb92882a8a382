use Rattle.std.proofs.Common.{◌≡◌, ◌++◌, drop, map}
use Rattle.root_links.specs.Links.{links_in}
use Rattle.root_update.specs.Update.{linking}
use Rattle.root_update.proofs.making.new_links.Given as goal

-- the links made so far, followed by those of the rest of the plan, are all links
abbrev pub invariant-loop-planned : goal.invariant-loop-planned
invariant-loop-planned l = links_in l.links.items ++ map linking (drop l.planned-index l.plan) ≡ map linking l.plan
