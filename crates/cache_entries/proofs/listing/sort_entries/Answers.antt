use Rattle.std.proofs.Common.{rules, ◌≡◌, ap}
use Rattle.std.proofs.lemmas.Fn.{always_returns_same}
use Rattle.std.proofs.lemmas.List.Sorted.{ranks_by}
use Rattle.std.specs.Ordering.{is_lt}
use Rattle.cache_entries.specs.Entries.{entry_order, entry_order-total}
use Rattle.cache_entries.proofs.listing.sort_entries.Goals as goal

pub returns : goal.returns
returns c = record {
  all = c.sort_unstable_by.ensures.permutation;
  ordered = c.sort_unstable_by.ensures.sorted (λ a b. is_lt (entry_order a b)) (ranks_by entry_order-total (λ a. a))
      (always_returns_same _ (λ a r. is_lt r ≡ is_lt (entry_order a.0.now a.1.0.now)) _
      (λ a r q k. let compared : r ≡ entry_order a.0.now a.1.0.now = search rules in (ap is_lt compared, search rules)));
}
