use Rattle.std.proofs.Common.{◌∙◌}
use Rattle.std.specs.Option.{option_copied}
use Rattle.search_listing.proofs.Ended.{nothing_left}
use Rattle.search_listing.specs.Listing.{listing_text}
use Rattle.search_listing.proofs.printing.listing.Goals as goal

pub returns : goal.returns
unfolding listing_text
returns c =
    c.from_vec.ensures
    ∙ nothing_left c.args.front.now c.args.conf.now c.args.links.now (option_copied c.loop-place.origin) c.loop-place.out.items _ c.loop-place.place-iterator.a.rest.now c.loop-place.place-iterator.b
    c.in-None.ensures.steps c.loop-place.invariant
