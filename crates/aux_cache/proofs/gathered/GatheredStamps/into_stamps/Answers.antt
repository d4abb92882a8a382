-- The stamps of the map are sorted.
use Rattle.std.proofs.Common.{rules, ◌≡◌, sym, subst, ◌∙◌}
use Rattle.aux_cache.proofs.ByIds.{sorted_values}
use Rattle.aux_cache.proofs.gathered.GatheredStamps.into_stamps.Goals as goal
use Rattle.aux_cache.specs.Stamps.{IsSortedById}

pub from_sorted-requires : goal.from_sorted-requires
from_sorted-requires c =
    let whole : c.loop-stamp.stamps.items ≡ c.args.self = search rules in
    subst IsSortedById (sym (whole ∙ sym c.self.view_is)) (sorted_values c.self.inside.stamps.entries c.self.invariant.0 c.len.ensures.ordered)
