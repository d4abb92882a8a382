use Rattle.std.proofs.Common.{rules}
use Rattle.cache_lookup.proofs.FirstRise.{unsorted}
use Rattle.cache_lookup.proofs.check.sorted_cache.Goals as goal

pub returns-in-Err-clause-entries : goal.returns-in-Err-clause-entries
returns-in-Err-clause-entries c =
    unsorted c.args.bytes.now c.in-Err.unsorted.entry c.from.result c.in_ok-view.ensures.accepted (rw c.in_ok-view.ensures.view at c.in-Err.ensures.unsorted) (search rules)
