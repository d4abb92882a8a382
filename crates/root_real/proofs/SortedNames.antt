-- If texts are sorted by their bytes without duplicates, each is below the next one.
use Rattle.std.proofs.Common.{◌≡◌, ℕ, List, sym, subst}
use Rattle.std.specs.Cmp.Lexicographic.{slice_cmp}
use Rattle.std.specs.List.Sorted.{IsStrictlySortedBy}
use Rattle.std.specs.Ordering.{nat_cmp}
use Rattle.string_pool.proofs.InByteOrder.{ascending_sorted}
use Rattle.string_pool.specs.Order.{ascending}

pub rises : (texts names : List (List ℕ)) → names ≡ ascending texts → IsStrictlySortedBy (slice_cmp nat_cmp) names
rises texts names is = subst (λ (l : List (List ℕ)). IsStrictlySortedBy (slice_cmp nat_cmp) l) (sym is) (ascending_sorted texts)
