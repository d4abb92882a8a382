-- Texts in the order of their bytes, read from the end.
use Rattle.std.specs.Prelude.{◌≡◌, ◌≤◌, ℕ, List, false, length, reverse, Some}
use Rattle.std.specs.Cmp.{IsTotalOrder, on_total, back_total}
use Rattle.std.specs.Cmp.Lexicographic.{nat_list_cmp_total, slice_cmp}
use Rattle.std.specs.List.{slice_get}
use Rattle.std.specs.Ordering.{nat_cmp, on, flip_args, is_gt}
use Rattle.std.specs.declared.cmp.Ordering.{Ordering}
use Rattle.string_pool.specs.declared.backward.Numbered.{Numbered}

-- the order of the bytes, read from the end
abbrev pub back_cmp : List ℕ → List ℕ → Ordering
back_cmp a b = slice_cmp nat_cmp (reverse a) (reverse b)

abbrev pub bytes_back : Numbered → List ℕ
bytes_back item = reverse item.text.now

-- the greatest text comes first, so a text comes after all texts that end in it
abbrev pub falling : Numbered → Numbered → Ordering
falling = flip_args (on bytes_back (slice_cmp nat_cmp))

pub falling-total : IsTotalOrder falling
falling-total = back_total (on_total bytes_back nat_list_cmp_total)

-- a text of the list with its number
pub record IsNumbered (texts : List (List ℕ)) (item : Numbered) : Type 0 where
  pub is : slice_get texts item.number ≡ Some item.text.now

-- an item that has this number
pub record HasItem (items : List Numbered) (number : ℕ) (text : List ℕ) : Type 0 where
  pub index : ℕ
  pub item : Numbered
  pub there : slice_get items index ≡ Some item
  pub number_is : item.number ≡ number
  pub text_is : item.text.now ≡ text

-- the texts with their numbers, the greatest first
pub record AreBackward (texts : List (List ℕ)) (items : List Numbered) : Type 0 where
  pub numbered : (i : ℕ) (item : Numbered) → slice_get items i ≡ Some item → IsNumbered texts item
  pub each : (number : ℕ) (text : List ℕ) → slice_get texts number ≡ Some text → HasItem items number text
  pub falls : (i j : ℕ) (x y : Numbered) → slice_get items i ≡ Some x → slice_get items j ≡ Some y → i ≤ j → is_gt (back_cmp y.text.now x.text.now) ≡ false

-- the texts with their numbers, in the order of the numbers
pub record AreNumbered (texts : List (List ℕ)) (items : List Numbered) : Type 0 where
  pub many : length items ≡ length texts
  pub each : (i : ℕ) (item : Numbered) → slice_get items i ≡ Some item → (item.number ≡ i) × (slice_get texts i ≡ Some item.text.now)
