-- Layers have one union, and at most one of them is the first that can't be part of an image.
use Rattle.std.proofs.Common.{◌≡◌, ⊎_elim, ℕ, ◌+◌, ◌<◌, ◌≤◌, Bool, true, false, cond, ◌&&◌, List, [], ◌∷◌, length, take, Option, Some, None, refl, ap, sym, subst, ◌∙◌, arith}
use Rattle.std.proofs.lemmas.Bool.{cases_order}
use Rattle.std.proofs.lemmas.Map.Keys.{sorted_head, sorted_tail}
use Rattle.std.specs.FinMap.Entries.{below_all, find, is_sorted, same_entries}
use Rattle.std.specs.List.{AllByRecursion}
use Rattle.std.specs.Map.{keys_of}
use Rattle.std.specs.Ordering.{is_eq, is_lt}
use Rattle.std.specs.Prelude.{T}
use Rattle.std.specs.declared.cmp.Ordering.{Ordering}
use Rattle.std.specs.declared.cmp.Ordering.TheVariants.{Less}
use Rattle.image_tree.proofs.Below.{exact}
use Rattle.image_tree.proofs.Order.{path_total}
use Rattle.image_tree.specs.Paths.{path_cmp}
use Rattle.image_tree.specs.Tree.{Nodes, IsPathSorted, node_at}
use Rattle.image_tree.specs.declared.tree.TheConstants.{NODES_MAX}
use Rattle.layer_union.specs.Union.{AreSound, IsBadAt, IsSound, IsTooLarge, IsUnion, bad_mark}

alike : {A : Type 0} (x y : Option A) → ((a : A) → x ≡ Some a → y ≡ Some a) → ((a : A) → y ≡ Some a → x ≡ Some a) → x ≡ y
alike None None f g = refl
alike None (Some b) f g = g b refl
alike (Some a) y f g = sym (f a refl)

-- ---- the order and the search of the standard library's lists of entries

found_is : (q : List ℕ) (t : Nodes) → find path_cmp q t ≡ node_at t q
found_is q [] = refl
found_is q (e ∷ t) = ap (cond (is_eq (path_cmp q e.0)) (Some e.1)) (found_is q t)

below_is : (k : List ℕ) (t : Nodes) → AllByRecursion (λ j. path_cmp k j ≡ Less) (keys_of t) → T (below_all path_cmp k t)
below_is k [] all = tt
below_is k (e ∷ t) all = subst (λ (r : Ordering). T (is_lt r && below_all path_cmp k t)) (sym all.0) (below_is k t all.1)

both : (a b : Bool) → T a → T b → T (a && b)
both true b p q = q
both false b p q = p

sorted_is : (t : Nodes) → IsPathSorted t → T (is_sorted path_cmp t)
sorted_is [] s = tt
sorted_is (e ∷ t) s = both (below_all path_cmp e.0 t) (is_sorted path_cmp t)
    (below_is e.0 t (sorted_head path_cmp e.0 (keys_of t) s)) (sorted_is t (sorted_tail path_cmp e.0 (keys_of t) s))

pub one_union : (layers : List Nodes) (u v : Nodes) → IsUnion layers u → IsUnion layers v → u ≡ v
one_union layers u v a b = same_entries path_cmp path_total exact u v (sorted_is u a.sorted) (sorted_is v b.sorted)
    (λ path. found_is path u
    ∙ alike (node_at u path) (node_at v path) (λ n is. (b.nodes path n).1 ((a.nodes path n).0 is)) (λ n is. (a.nodes path n).1 ((b.nodes path n).0 is))
    ∙ sym (found_is path v))

-- ---- the first layer that can't be part of an image

unequal : {A : Type 0} (o : Option A) (a : A) → o ≡ None → o ≡ Some a → ⊥
unequal o a none some = absurd (cc)

same_some : {A : Type 0} (a b : A) → Some a ≡ Some b → a ≡ b
same_some a b e = cc

over : (n m : ℕ) → n ≤ m → m < n → ⊥
over n m few many = omega (arith, few, many)

module _ (layers : List Nodes) where
  -- a sound layer has no bad whiteout, and isn't too large
  unmarked : (k node : ℕ) → IsSound layers k → bad_mark layers k ≡ Some node → ⊥
  unmarked k node sound mark = unequal (bad_mark layers k) node sound.marks mark

  fits : (k : ℕ) (u : Nodes) → IsSound layers k → IsUnion (take (k + 1) layers) u → NODES_MAX < length u → ⊥
  fits k u sound union many =
      let same : u ≡ sound.few.0 = one_union (take (k + 1) layers) u sound.few.0 union sound.few.1 in
      over (length u) NODES_MAX (subst (λ (v : Nodes). length v ≤ NODES_MAX) (sym same) sound.few.2) many

  pub one_bad : (l n m k : ℕ) → IsBadAt layers l n → IsBadAt layers m k → (l ≡ m) × (n ≡ k)
  one_bad l n m k a b = ⊎_elim
      (λ same. (same, same_some n k (sym a.mark ∙ ap (bad_mark layers) same ∙ b.mark)))
      (λ other. ⊎_elim (λ less. absurd (unmarked l n (b.before l less) a.mark)) (λ more. absurd (unmarked m k (a.before m more) b.mark)) other)
      (cases_order l m)

  pub one_large : (l m : ℕ) → IsTooLarge layers l → IsTooLarge layers m → l ≡ m
  one_large l m a b = ⊎_elim
      (λ same. same)
      (λ other. ⊎_elim
      (λ less. absurd (fits l a.many.0 (b.before l less) a.many.1 a.many.2))
      (λ more. absurd (fits m b.many.0 (a.before m more) b.many.1 b.many.2))
      other)
      (cases_order l m)

  pub one_kind : (l n m : ℕ) → IsBadAt layers l n → IsTooLarge layers m → ⊥
  one_kind l n m a b = ⊎_elim
      (λ same. unequal (bad_mark layers m) n b.marks (ap (bad_mark layers) (sym same) ∙ a.mark))
      (λ other. ⊎_elim
      (λ less. unmarked l n (b.before l less) a.mark)
      (λ more. fits m b.many.0 (a.before m more) b.many.1 b.many.2)
      other)
      (cases_order l m)

  -- ---- layers that are all sound

  module _ (sound : AreSound layers (length layers)) where
    pub none_bad : (l n : ℕ) → IsBadAt layers l n → ⊥
    none_bad l n a = unmarked l n (sound l a.within) a.mark

    pub none_large : (l : ℕ) → IsTooLarge layers l → ⊥
    none_large l a = fits l a.many.0 (sound l a.within) a.many.1 a.many.2
