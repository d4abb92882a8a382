-- How the names of sorted entries compare to a name.
use Rattle.std.proofs.Common.{◌≡◌, ◌<◌, ◌≤◌, ℕ, ◌==◌, Bool, true, false, not, List, length, get_or, refl, sym, ap, ◌∙◌, arith}
use Rattle.std.specs.declared.cmp.Ordering.{Ordering}
use Rattle.std.specs.declared.cmp.Ordering.TheVariants.{Less, Equal, Greater}
use Rattle.std.specs.Ordering.{is_eq, is_gt, is_lt, ordering_index, ordering_reverse}
use Rattle.std.specs.Cmp.{back_total}
use Rattle.std.proofs.lemmas.List.Sorted.{searchable_from_sorted}
use Rattle.name_order.specs.Order.{token_order}
use Rattle.name_order.proofs.Total.{token_order-total}
use Rattle.cache_reader.specs.Cache.{CachedEntry}
use Rattle.cache_lookup.specs.Scan.{AreDescending, name_of}
use Rattle.cache_lookup.specs.Probing.{order_to}

-- the names don't rise
falls : (entries : List CachedEntry) → AreDescending entries → (name : List ℕ) (i j : ℕ) (d : CachedEntry) → i ≤ j → j < length entries
    → ordering_index (token_order name (get_or entries i d).name) ≤ ordering_index (token_order name (get_or entries j d).name)
falls entries sorted name = searchable_from_sorted (back_total token_order-total) name_of entries name sorted

-- The order of an entry's name against a name is the reverse of the order of the name against the entry's name.
turned : (name : List ℕ) (entry : CachedEntry) → order_to name entry ≡ ordering_reverse (token_order name entry.name)
turned name entry = token_order-total.antisymm entry.name name

up : (a b : Ordering) → ordering_index a ≤ ordering_index b → is_gt (ordering_reverse b) ≡ true → is_gt (ordering_reverse a) ≡ true
up Less b h e = refl
up Equal Less h e = absurd (omega arith)
up Equal Equal h e = e
up Equal Greater h e = e
up Greater Less h e = absurd (omega arith)
up Greater Equal h e = e
up Greater Greater h e = e

down : (a b : Ordering) → ordering_index a ≤ ordering_index b → is_gt (ordering_reverse a) ≡ false → is_gt (ordering_reverse b) ≡ false
down a Equal h e = refl
down a Greater h e = refl
down Less Less h e = e
down Equal Less h e = absurd (omega arith)
down Greater Less h e = absurd (omega arith)

lower : (a b : Ordering) → ordering_index a ≤ ordering_index b → is_lt (ordering_reverse a) ≡ true → is_eq (ordering_reverse b) ≡ false
lower Greater Greater h e = refl
lower Greater Less h e = absurd (omega arith)
lower Greater Equal h e = absurd (omega arith)
lower Less b h e = cc
lower Equal b h e = cc

module _ (entries : List CachedEntry) (sorted : AreDescending entries) (name : List ℕ) (i j : ℕ) (d : CachedEntry) (order : i ≤ j) (within : j < length entries) where
  -- If a name is above, all names before it are above.
  pub above : is_gt (order_to name (get_or entries j d)) ≡ true → is_gt (order_to name (get_or entries i d)) ≡ true
  above e = rw (turned name (get_or entries i d)) (up _ _ (falls entries sorted name i j d order within) (sym (ap is_gt (turned name (get_or entries j d))) ∙ e))

  -- If a name isn't above, none of the names after it is above.
  pub not_above : is_gt (order_to name (get_or entries i d)) ≡ false → is_gt (order_to name (get_or entries j d)) ≡ false
  not_above e = rw (turned name (get_or entries j d)) (down _ _ (falls entries sorted name i j d order within) (sym (ap is_gt (turned name (get_or entries i d))) ∙ e))

  -- If a name is below, none of the names after it is equal.
  pub unequal : is_lt (order_to name (get_or entries i d)) ≡ true → is_eq (order_to name (get_or entries j d)) ≡ false
  unequal e = rw (turned name (get_or entries j d)) (lower _ _ (falls entries sorted name i j d order within) (sym (ap is_lt (turned name (get_or entries i d))) ∙ e))

-- the result of comparing with one of the orders
pub is_greater : (b : Bool) (r : Ordering) → b ≡ (ordering_index r == 2) → is_gt r ≡ b
is_greater b Less e = sym e
is_greater b Equal e = sym e
is_greater b Greater e = sym e

pub is_less : (b : Bool) (r : Ordering) → b ≡ (ordering_index r == 0) → is_lt r ≡ b
is_less b Less e = sym e
is_less b Equal e = sym e
is_less b Greater e = sym e

pub is_equal : (b : Bool) (r : Ordering) → b ≡ not (ordering_index r == 1) → is_eq r ≡ not b
is_equal b Less e = rw e refl
is_equal b Equal e = rw e refl
is_equal b Greater e = rw e refl

-- If an order is not Equal and not Greater, it is Less.
pub is_below : (r : Ordering) → is_eq r ≡ false → is_gt r ≡ false → is_lt r ≡ true
is_below Less e h = refl
is_below Equal e h = cc
is_below Greater e h = cc
