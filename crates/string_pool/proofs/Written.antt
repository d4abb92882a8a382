-- Which texts are written.
use Rattle.std.proofs.Common.{◌≡◌, ℕ, true, false, not, List, Some, sym, true≢false, bytes_eq}
use Rattle.std.proofs.lemmas.Bool.{and_parts}
use Rattle.std.proofs.lemmas.Slice.Eq.{bytes_eq-Decides}
use Rattle.std.specs.List.{list_any, slice_get}
use Rattle.lib_types.proofs.SortedPairs.{by_test}
use Rattle.string_pool.specs.SharedEnds.{ends_in, is_proper_end, is_written}
use Rattle.string_pool.proofs.Gets.{none_passes, some_passes}

-- a text that ends in a written text is the same
pub written_same : (ts : List (List ℕ)) (text other : List ℕ) (i : ℕ) → is_written ts text ≡ true → slice_get ts i ≡ Some other → ends_in text other ≡ true → text ≡ other
written_same ts text other i w there ends =
    let none : list_any (is_proper_end text) ts ≡ false = by_test (list_any (is_proper_end text) ts) (λ t. let wrong : false ≡ true = rw t at w in absurd (true≢false (sym wrong))) (λ f. f) in
    let no = none_passes (is_proper_end text) ts i other none there in
    by_test (bytes_eq text other)
    (λ e. (bytes_eq-Decides text other).0 e)
    (λ f. let wrong : true ≡ false = rw (ends, f) at no in absurd (true≢false wrong))

-- a text that is not written is the end of another one
pub record Longer (ts : List (List ℕ)) (text : List ℕ) : Type 0 where
  pub index : ℕ
  pub other : List ℕ
  pub there : slice_get ts index ≡ Some other
  pub ends : ends_in text other ≡ true
  pub differs : text ≡ other → ⊥

pub not_written : (ts : List (List ℕ)) (text : List ℕ) → is_written ts text ≡ false → Longer ts text
not_written ts text w =
    let some : list_any (is_proper_end text) ts ≡ true = by_test (list_any (is_proper_end text) ts) (λ t. t) (λ f. let wrong : true ≡ false = rw f at w in absurd (true≢false wrong)) in
    let found = some_passes (is_proper_end text) ts some in
    let parts = and_parts (ends_in text found.item) (not (bytes_eq text found.item)) found.passes in
    record {
      index = found.index;
      other = found.item;
      there = found.there;
      ends = parts.0;
      differs = λ e. let wrong : false ≡ true = (rw ((bytes_eq-Decides text found.item).1 e) at parts.1) in absurd (true≢false (sym wrong));
    }
