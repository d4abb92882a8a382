-- Items in the order of their sonames.
use Rattle.std.specs.Prelude.{◌≡◌, ◌⊎◌, ℕ, Bool, false, List, [], ◌∷◌, ◌++◌, if◌then◌else◌, filter, fold, Option, None}
use Rattle.std.specs.Cmp.{IsTotalOrder, on_total}
use Rattle.std.specs.Cmp.Lexicographic.{nat_list_cmp_total, slice_cmp}
use Rattle.std.specs.BTreeMap.{is_at}
use Rattle.std.specs.List.Sorted.{IsPermutation, IsStrictlySortedBy}
use Rattle.std.specs.Map.{keys_of, lookup}
use Rattle.std.specs.Ordering.{nat_cmp, on}
use Rattle.std.specs.Str.{bytes_eq}
use Rattle.std.specs.declared.cmp.Ordering.{Ordering}
use Rattle.string_pool.specs.Order.{AreAscending, ascending, with_text}

abbrev pub soname_of : {X : Type 0} → List ℕ × X → List ℕ
soname_of e = e.0

abbrev pub soname_order : {X : Type 0} → List ℕ × X → List ℕ × X → Ordering
soname_order = on soname_of (slice_cmp nat_cmp)

pub soname_order-total : {X : Type 0} → IsTotalOrder (soname_order {X = X})
soname_order-total = on_total soname_of nat_list_cmp_total

abbrev pub of_soname : {X : Type 0} → List ℕ → List (List ℕ × X) → List (List ℕ × X)
of_soname soname items = filter (λ e. bytes_eq e.0 soname) items

-- the same items sorted by their sonames; the sort is stable
pub record AreBySoname {X : Type 0} (items : List (List ℕ × X)) (sorted : List (List ℕ × X)) : Type 0 where
  pub same : IsPermutation items sorted
  pub ascending : AreAscending (keys_of sorted)
  pub stable : (soname : List ℕ) → of_soname soname sorted ≡ of_soname soname items

abbrev pub found_at : {G : Type 0} → List (List ℕ × G) → List ℕ → Option G
found_at es soname = lookup (is_at (slice_cmp nat_cmp soname)) es

abbrev pub AreOrdered : {G : Type 0} → List (List ℕ × G) → Type 0
AreOrdered es = IsStrictlySortedBy (slice_cmp nat_cmp) (keys_of es)

-- the last entry has this soname
abbrev pub is_last : {G : Type 0} → List ℕ → List (List ℕ × G) → Bool
is_last soname [] = false
is_last soname (e ∷ []) = bytes_eq e.0 soname
is_last soname (e ∷ f ∷ es) = is_last soname (f ∷ es)

-- a fold over the items with a soname, in order
abbrev pub gathered_at : {X G : Type 0} → (Option G → X → Option G) → List (List ℕ × X) → List ℕ → Option G
gathered_at step items soname = fold (λ found e. step found e.1) None (of_soname soname items)

-- a fold over the items of each soname: each soname once, sorted
pub record AreGathered {X G : Type 0} (step : Option G → X → Option G) (items : List (List ℕ × X)) (es : List (List ℕ × G)) : Type 0 where
  pub keys : keys_of es ≡ ascending (keys_of items)
  pub found : (soname : List ℕ) → found_at es soname ≡ gathered_at step items soname
  pub ordered : AreOrdered es

-- adds an item to the folds; its soname is the last soname or greater
pub record IsGathered {X G : Type 0} (step : Option G → X → Option G) (es : List (List ℕ × G)) (soname : List ℕ) (item : X) (new : List (List ℕ × G)) : Type 0 where
  pub keys : keys_of new ≡ with_text (keys_of es) soname
  pub found : (q : List ℕ) → found_at new q ≡ (if bytes_eq soname q then step (found_at es q) item else found_at es q)
  pub ordered : AreOrdered new
  pub same_or_more : (keys_of new ≡ keys_of es) ⊎ (keys_of new ≡ keys_of es ++ soname ∷ [])
