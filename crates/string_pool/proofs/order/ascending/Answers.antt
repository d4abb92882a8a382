use Rattle.std.proofs.Common.{◌∙◌}
use Rattle.string_pool.proofs.InByteOrder.{sorted_once}
use Rattle.string_pool.proofs.order.ascending.Goals as goal

pub returns : goal.returns
returns c = c.from_vec.ensures ∙ sorted_once _ _ _ c.sort.ensures.permutation c.in_ok-sort.ensures.sorted c.dedup.ensures.filtered
