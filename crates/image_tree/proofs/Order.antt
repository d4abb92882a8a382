-- The order of paths.
use Rattle.std.proofs.Common.{◌≡◌, true, ℕ, ◌+◌, ◌<◌, ◌≤◌, List, length, take, get_or, arith, Ordering, refl, sym, ap, ◌∙◌}
use Rattle.std.proofs.lemmas.Bool.Decides.{nat_tests}
use Rattle.std.proofs.lemmas.Cmp.{ranked, tied_itself}
use Rattle.std.specs.declared.cmp.Ordering.TheVariants.{Less, Equal, Greater}
use Rattle.std.specs.Ordering.{MatchOrdering, nat_cmp}
use Rattle.std.specs.Cmp.{IsTotalOrder, nat_cmp_is}
use Rattle.std.specs.Cmp.Lexicographic.{on_texts, pointwise, same_text}
use Rattle.std.specs.Prelude.{map, nat_eq}
use Rattle.lib_types.proofs.ByteOrder as ranks
use Rattle.image_tree.specs.Paths.{path_rank, path_cmp}

pub path_total : IsTotalOrder path_cmp
path_total = on_texts (map path_rank)

-- paths of the same bytes
pub same_paths : (a b : List ℕ) → true ≡ pointwise nat_eq a b → path_cmp a b ≡ Equal
same_paths a b same = ap (path_cmp a) (sym (same_text a b same)) ∙ tied_itself path_total a

-- the order of two bytes
rank_other : (a : ℕ) → (a ≡ 47 → ⊥) → path_rank a ≡ a + 1
rank_other a other = grind (arith, nat_tests)

rank_slash : (a : ℕ) → a ≡ 47 → path_rank a ≡ 0
rank_slash a e = ap path_rank e

pub slash_below : (a b : ℕ) → a ≡ 47 → (a ≡ b → ⊥) → Less ≡ nat_cmp (path_rank a) (path_rank b)
slash_below a b e other =
    let least = rank_slash a e in
    let more = rank_other b (λ f. other (e ∙ sym f)) in
    let less : path_rank a < path_rank b = omega (arith, least, more) in
    nat_cmp_is (path_rank a) (path_rank b) Less less

pub slash_above : (a b : ℕ) → (a ≡ 47 → ⊥) → b ≡ 47 → Greater ≡ nat_cmp (path_rank a) (path_rank b)
slash_above a b other e =
    let least = rank_slash b e in
    let more = rank_other a other in
    let above : path_rank b < path_rank a = omega (arith, least, more) in
    nat_cmp_is (path_rank a) (path_rank b) Greater above

one_more : (a b : ℕ) (r : Ordering) → MatchOrdering r (a < b) (a ≡ b) (b < a) → r ≡ nat_cmp (a + 1) (b + 1)
one_more a b Less h = nat_cmp_is (a + 1) (b + 1) Less (omega arith)
one_more a b Equal h = nat_cmp_is (a + 1) (b + 1) Equal (omega arith)
one_more a b Greater h = nat_cmp_is (a + 1) (b + 1) Greater (omega arith)

pub others_alike : (a b : ℕ) → (a ≡ 47 → ⊥) → (b ≡ 47 → ⊥) → nat_cmp a b ≡ nat_cmp (path_rank a) (path_rank b)
others_alike a b first second = rw (rank_other a first, rank_other b second) (one_more a b (nat_cmp a b) (ranked a b _ refl))

-- ---- equal bytes don't decide

ranks_differ : (x y : ℕ) → nat_cmp (path_rank x) (path_rank y) ≡ Equal → x ≡ y
ranks_differ x y e = grind (arith, nat_tests)

-- the first bytes that differ decide
pub byte_decides : (a b : List ℕ) (n : ℕ) → n < length a → n < length b → take n a ≡ take n b → (get_or a n 0 ≡ get_or b n 0 → ⊥)
    → nat_cmp (path_rank (get_or a n 0)) (path_rank (get_or b n 0)) ≡ path_cmp a b
byte_decides = ranks.byte_decides path_rank ranks_differ

-- if one path is a prefix of the other, the lengths decide
pub lengths_decide : (a b : List ℕ) (n : ℕ) → n ≤ length a → n ≤ length b → take n a ≡ take n b → (n < length a → n < length b → ⊥) → nat_cmp (length a) (length b) ≡ path_cmp a b
lengths_decide = ranks.lengths_decide path_rank ranks_differ
