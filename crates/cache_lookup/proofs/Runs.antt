-- The entries that are equal to a name in the loader's order.
use Rattle.std.proofs.Common.{◌≡◌, ◌<◌, ◌≤◌, ℕ, zero, suc, ◌+◌, ◌-◌, Bool, true, false, List, length, get_or, take, drop, cond, Option, None, refl, ap, subst, arith}
use Rattle.std.specs.declared.cmp.Ordering.{Ordering}
use Rattle.std.specs.List.{count_by}
use Rattle.std.specs.Ordering.{is_eq, is_gt, is_lt}
use Rattle.std.proofs.lemmas.List.Sums.{count_by_more_yes, sum_by-append}
use Rattle.std.proofs.lemmas.List.{take-append-drop}
use Rattle.std.specs.declared.cmp.Ordering.TheVariants.{Less, Equal, Greater}
use Rattle.lib_types.specs.declared.abi.Abi.{Abi}
use Rattle.cache_reader.specs.Cache.{CachedEntry}
use Rattle.cache_lookup.specs.Scan.{AreDescending}
use Rattle.cache_lookup.specs.Probing.{count_equal, order_to, rank_of}
use Rattle.cache_lookup.specs.Searches.{AreAbove, AreEqual, IsLeast}
use Rattle.cache_lookup.specs.declared.choice.Choice.{Choice}
use Rattle.std.proofs.Math.Decide.{dec_lt}
use Rattle.lib_types.specs.Counts.{raised}
use Rattle.tree_face.proofs.StoreUse.{raised-add, raised-mono}
use Rattle.cache_lookup.proofs.Least.{least_rest, no_rank}
use Rattle.cache_lookup.proofs.NameOrders.{unequal}
use Rattle.cache_lookup.proofs.EntryAbis.{no_entry}

-- ---- the number of these entries

counted_front : {X : Type 0} (p : X → Bool) (xs : List X) (d : X) (start more : ℕ) → start + more ≤ length xs
    → ((k : ℕ) → start ≤ k → k < start + more → p (get_or xs k d) ≡ true) → more ≤ count_by p (take (start + more) xs)
counted_front p xs d start zero within pass = omega arith
counted_front p xs d start (suc more) within pass =
    let rest = counted_front p xs d start more (omega arith) (λ k from to. pass k from (omega arith)) in
    let one = count_by_more_yes p xs (start + more) d (omega arith) (pass (start + more) (omega arith) (omega arith)) in
    let e : start + more + 1 ≡ start + suc more = omega arith in
    subst (λ n. suc more ≤ count_by p (take n xs)) e (omega (arith, rest, one))

front_counted : {X : Type 0} (p : X → Bool) (xs : List X) (n : ℕ) → count_by p (take n xs) ≤ count_by p xs
front_counted p xs n =
    let parts = sum_by-append (λ x. cond (p x) 1 0) (take n xs) (drop n xs) in
    let all = ap (count_by p) (take-append-drop n xs) in
    omega (arith, parts, all)

-- the number of entries from `start` to `end`, if all of them pass the test
pub counted_run : {X : Type 0} (p : X → Bool) (xs : List X) (d : X) (start end : ℕ) → start ≤ end → end ≤ length xs
    → ((k : ℕ) (d : X) → start ≤ k → k < end → p (get_or xs k d) ≡ true) → end - start ≤ count_by p xs
counted_run p xs d start end order within pass =
    let e : start + (end - start) ≡ end = omega arith in
    let front = counted_front p xs d start (end - start) (omega arith) (λ k from to. pass k d from (omega arith)) in
    let all = front_counted p xs (start + (end - start)) in
    omega (arith, front, all)

-- ---- entries with a rank

module _ (name : List ℕ) (abi : Abi) (caps : List (List ℕ)) (entries : List CachedEntry) where
  above_unequal : (r : Ordering) → is_gt r ≡ true → is_eq r ≡ false
  above_unequal Less e = refl
  above_unequal Equal e = cc
  above_unequal Greater e = refl

  -- Before the first entry that isn't above the name, none of the entries is a candidate.
  pub none_before : (start : ℕ) → AreAbove name entries start → IsLeast (rank_of name abi caps) entries start None
  none_before start above = λ k d h. no_rank name abi caps (get_or entries k d) (above_unequal _ (above k d h))

  -- Starting with the first entry that is below the name, none of the entries is a candidate.
  pub none_after : AreDescending entries → (i : ℕ) (best : Option Choice) → i < length entries → IsLeast (rank_of name abi caps) entries i best
      → ((d : CachedEntry) → is_lt (order_to name (get_or entries i d)) ≡ true) → IsLeast (rank_of name abi caps) entries (length entries) best
  none_after sorted i best within least below =
      let e : i + (length entries - i) ≡ length entries = omega arith in
      subst (λ n. IsLeast (rank_of name abi caps) entries n best) e
      (least_rest (rank_of name abi caps) entries i (length entries - i) best least (λ k d from to. no_rank name abi caps (get_or entries k d) (unequal entries sorted name i k d from (omega arith) (below d))))

-- ---- the part of a run that was probed

pub one_equal : (name : List ℕ) (entries : List CachedEntry) (start i : ℕ) → AreEqual name entries start i
    → ((d : CachedEntry) → is_eq (order_to name (get_or entries i d)) ≡ true) → AreEqual name entries start (i + 1)
one_equal name entries start i so_far here k d from to = elim (dec_lt k i) as (λ _. is_eq (order_to name (get_or entries k d)) ≡ true) [
  | yes less ↦ so_far k d from less
  | no ge ↦ let e : i ≡ k = omega arith in subst (λ n. is_eq (order_to name (get_or entries n d)) ≡ true) e (here d)
]

pub more_steps : (old count new start i : ℕ) → start ≤ i → count ≤ raised old (i - start) → new ≡ raised count 1 → new ≤ raised old (i + 1 - start)
more_steps old count new start i order steps step =
    raised-mono old new (i - start + 1) (i + 1 - start) (omega arith) (raised-add old count new (i - start) 1 steps (omega (arith, step)))

-- the steps for a probed run and at most one entry after it
pub run_steps : (name : List ℕ) (entries : List CachedEntry) (start i old count new : ℕ) → start ≤ i → i ≤ length entries → AreEqual name entries start i
    → count ≤ raised old (i - start) → new ≤ raised count 1 → new ≤ raised old (1 + count_equal name entries)
run_steps name entries start i old count new order within equal steps step =
    let run = counted_run (λ e. is_eq (order_to name e)) entries no_entry start i order within equal in
    raised-mono old new (i - start + 1) (1 + count_equal name entries) (omega (arith, run)) (raised-add old count new (i - start) 1 steps step)
