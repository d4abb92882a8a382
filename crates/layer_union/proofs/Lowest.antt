-- A layer without special paths over nothing.
use Rattle.std.proofs.Common.{◌≡◌, ℕ, false, cond, ◌&&◌, not, List, [], ◌∷◌, ◌++◌, ◌+◌, nat_eq, length, ltb, position, Some, None, refl, sym, ap, subst, ◌∙◌, arith}
use Rattle.std.proofs.lemmas.Bool.{or_parts}
use Rattle.std.proofs.lemmas.Bool.Decides.{nat_tests}
use Rattle.std.proofs.lemmas.List.{append-nil}
use Rattle.std.specs.List.{list_any, position_or_len, starts_with}
use Rattle.std.specs.declared.cmp.Ordering.TheVariants.{Less, Greater}
use Rattle.lib_types.proofs.SortedPairs.{flipped, put_step}
use Rattle.image_tree.proofs.Order.{path_total}
use Rattle.image_tree.specs.Paths.{path_cmp}
use Rattle.image_tree.specs.Tree as tree
use Rattle.image_tree.specs.Tree.{Nodes, IsPathSorted}
use Rattle.image_tree.specs.declared.node.Node.{Node}
use Rattle.layer_union.proofs.Trees.{AreAfter, after_first, sorted_rest}
use Rattle.layer_union.specs.Steps.{all_put, applied}
use Rattle.layer_union.specs.Whiteouts.{is_bad, is_special, marked_name, reserved}
use Rattle.lib_types.specs.Name.{is_name}
use Rattle.path_walk.specs.Names.{last, parent}

joined_more : (t layer : Nodes) (r : List ℕ × Node) → (t ++ r ∷ []) ++ layer ≡ t ++ r ∷ layer
joined_more [] layer r = refl
joined_more (e ∷ t) layer r = ap (λ z. e ∷ z) (joined_more t layer r)

module _ (r : List ℕ × Node) (rest : Nodes) where
  before_last : (q : List ℕ) (t : Nodes) → AreAfter q (t ++ r ∷ rest) → path_cmp q r.0 ≡ Less
  before_last q [] a = a.0
  before_last q (e ∷ t) a = before_last q t a.1

  -- a path after all others is put at the end
  put_last : (t : Nodes) → IsPathSorted (t ++ r ∷ rest) → tree.put t r.0 r.1 ≡ t ++ r ∷ []
  put_last [] s = refl
  put_last (e ∷ t) s =
      put_step path_total r.0 e t r.1 Greater (flipped path_total e.0 r.0 Less (before_last e.0 t (after_first e (t ++ r ∷ rest) s)))
      ∙ ap (λ z. e ∷ z) (put_last t (sorted_rest e (t ++ r ∷ rest) s))

put_after : (layer t : Nodes) → list_any (λ e. is_special e.0) layer ≡ false → IsPathSorted (t ++ layer) → all_put t layer ≡ t ++ layer
put_after [] t plain s = sym (append-nil t)
put_after (r ∷ layer) t plain s =
    let parts = or_parts (is_special r.0) (list_any (λ e. is_special e.0) layer) plain in
    ap (λ b. all_put (cond b t (tree.put t r.0 r.1)) layer) parts.0
    ∙ ap (λ z. all_put z layer) (put_last r layer t s)
    ∙ put_after layer (t ++ r ∷ []) parts.1 (subst IsPathSorted (sym (joined_more t layer r)) s)
    ∙ joined_more t layer r

pub lowest : (t layer : Nodes) → length t ≡ 0 → list_any (λ e. is_special e.0) layer ≡ false → IsPathSorted layer → layer ≡ applied t layer
lowest [] layer none plain sorted = sym (put_after layer [] plain sorted)
lowest (e ∷ t) layer none plain sorted = absurd (cc)

good_mark : (path : List ℕ) → is_special path ≡ false → is_bad path ≡ false
good_mark path plain = ap (λ b. ((b && not (is_special (parent path))) && not (starts_with nat_eq (last path) reserved)) && not (is_name (marked_name path))) plain

good_length : (layer : Nodes) → list_any (λ e. is_special e.0) layer ≡ false → position_or_len (λ e. is_bad e.0) layer ≡ length layer
good_length [] plain = refl
good_length (r ∷ layer) plain =
    let parts = or_parts (is_special r.0) (list_any (λ e. is_special e.0) layer) plain in
    ap (λ b. cond (not b) (1 + position_or_len (λ (e : List ℕ × Node). is_bad e.0) layer) 0) (good_mark r.0 parts.0)
    ∙ ap (λ n. 1 + n) (good_length layer parts.1)
    ∙ one_more
  where
    one_more : 1 + length layer ≡ length (r ∷ layer)
    one_more = omega arith

pub good_plain : (layer : Nodes) → list_any (λ e. is_special e.0) layer ≡ false → position (λ e. is_bad e.0) layer ≡ None
good_plain layer plain =
    let n = length layer in
    let all : ltb n n ≡ false = grind (arith, nat_tests) in
    ap (λ i. cond (ltb i n) (Some i) None) (good_length layer plain) ∙ ap (λ b. cond b (Some n) None) all
