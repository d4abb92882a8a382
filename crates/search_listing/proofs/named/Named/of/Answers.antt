use Rattle.search_listing.proofs.FirstNamed.{no_line_left}
use Rattle.search_listing.specs.FirstNamed.{found}
use Rattle.search_listing.specs.Listing.{origin_of}
use Rattle.search_listing.proofs.named.Named.of.Goals as goal

pub invariant_of-result : goal.invariant_of-result
invariant_of-result c =
    λ name. no_line_left (found c.loop-dir.first.entries name) (origin_of c.args.conf.now name) name c.loop-dir.dir-iterator.a.rest.now c.loop-dir.dir-iterator.b.rest.now c.in-None.ensures.steps (c.loop-dir.invariant name)
