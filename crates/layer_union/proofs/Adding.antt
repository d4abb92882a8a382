-- One more layer: its union, and its faults.
use Rattle.std.proofs.Common.{◌≡◌, ℕ, ◌+◌, ◌<◌, ◌≤◌, true, false, cond, ◌==◌, not, List, [], ◌∷◌, ◌-◌, drop, length, get_or, position, take, Option, Some, None, Result, Err, refl, sym, ap, subst, ◌∙◌, arith}
use Rattle.std.proofs.lemmas.Bool.{and_parts}
use Rattle.std.proofs.lemmas.Bool.Decides.{nat_tests}
use Rattle.std.proofs.lemmas.List.{drop_more, length-drop}
use Rattle.std.specs.Option.{is_some}
use Rattle.std.specs.Result.{IfErr}
use Rattle.lib_types.proofs.Bools.{not_true}
use Rattle.image_tree.specs.Tree as tree
use Rattle.image_tree.specs.Tree.{Nodes, IsPathSorted, has_no_room, node_at}
use Rattle.image_tree.specs.declared.node.Node.{Node}
use Rattle.image_tree.specs.declared.tree.TheConstants.{NODES_MAX}
use Rattle.layer_union.proofs.Layering.{bad_here, large_here, none_union}
use Rattle.layer_union.proofs.Trees.{all_put_grows, put_new}
use Rattle.layer_union.specs.Steps.{IsBadFault, IsFullFault, all_put, applied}
use Rattle.layer_union.specs.Union.{AreSound, IsBadAt, IsTooLarge, IsUnion}
use Rattle.layer_union.specs.Whiteouts.{is_bad, is_special}
use Rattle.layer_union.specs.declared.layers.UnionFault.{UnionFault}
use Rattle.layer_union.specs.declared.layers.UnionFault.TheVariants.{BadWhiteout, Full}
use Rattle.image_tree.proofs.AllOfChild.{none_sorted}

none_from : (o : Option Node) → is_some o ≡ false → o ≡ None
none_from None h = refl
none_from (Some n) h = absurd (cc)

-- if a new node has no room, all nodes of the layer together have none
pub too_many : (t rest : Nodes) (r : List ℕ × Node) → is_special r.0 ≡ false → has_no_room t r.0 ≡ true → NODES_MAX < length (all_put t (r ∷ rest))
too_many t rest r plain full =
    let parts = and_parts (not (is_some (node_at t r.0))) (length t == NODES_MAX) full in
    let none : node_at t r.0 ≡ None = none_from (node_at t r.0) (not_true (is_some (node_at t r.0)) parts.0) in
    let test : (length t == NODES_MAX) ≡ true = parts.1 in
    let whole : length t ≡ NODES_MAX = grind (arith, nat_tests) in
    let one = put_new r.0 r.1 t none in
    let grows = all_put_grows rest (tree.put t r.0 r.1) in
    let more : NODES_MAX < length (all_put (tree.put t r.0 r.1) rest) = omega arith in
    subst (λ b. NODES_MAX < length (all_put (cond b t (tree.put t r.0 r.1)) rest)) (sym plain) more

pub same_fault : {A : Type 0} (r : Result A UnionFault) (x y : UnionFault) → r ≡ Err x → r ≡ Err y → x ≡ y
same_fault r x y h k = cc

none_taken : (xs : List Nodes) → take 0 xs ≡ []
none_taken [] = refl
none_taken (x ∷ xs) = refl

pub first_union : (layers : List Nodes) (t : Nodes) → t ≡ [] → IsUnion (take 0 layers) t
first_union layers t e =
    subst (λ (z : List Nodes). IsUnion z t) (sym (none_taken layers)) (none_union t e (subst IsPathSorted (sym e) none_sorted))

pub first_sound : (layers : List Nodes) → AreSound layers 0
first_sound layers k l = absurd (omega arith)

module _ (layers : List Nodes) (k : ℕ) (top t new : Nodes) (within : k < length layers) (is : top ≡ get_or layers k []) (union : IsUnion (take k layers) t) (sound : AreSound layers k) (sorted : IsPathSorted top) where
  pub bad_by : (r : Result (Unit {0}) UnionFault) → IfErr r (λ fault. IsBadFault top k fault) → (layer node : ℕ) → r ≡ Err (BadWhiteout layer node) → IsBadAt layers layer node
  bad_by r h layer node e =
      let parts : (layer ≡ k) × (position (λ (e : List ℕ × Node). is_bad e.0) top ≡ Some node) = subst (λ (z : Result (Unit {0}) UnionFault). IfErr z (λ fault. IsBadFault top k fault)) e h in
      subst (λ n. IsBadAt layers n node) (sym parts.0) (bad_here layers k top within is node sound parts.1)

  pub full_by : (r : Result (Unit {0}) UnionFault) → IfErr r (λ fault. IsFullFault t top k fault) → (layer : ℕ) → r ≡ Err (Full layer) → IsTooLarge layers layer
  full_by r h layer e =
      let parts : (layer ≡ k) × (position (λ (e : List ℕ × Node). is_bad e.0) top ≡ None) × (NODES_MAX < length (applied t top)) = subst (λ (z : Result (Unit {0}) UnionFault). IfErr z (λ fault. IsFullFault t top k fault)) e h in
      subst (IsTooLarge layers) (sym parts.0) (large_here layers k top within is t sound union sorted parts.1 parts.2)

-- the layers that are left, of which the first is the layer at this index
pub record IsNext (layers rest : List Nodes) (first : Nodes) (k : ℕ) : Type 0 where
  pub within : k < length layers
  pub is : first ≡ get_or layers k []
  pub left : rest ≡ drop (k + 1) layers

pub next_layer : (layers rest : List Nodes) (first : Nodes) (k : ℕ) → drop k layers ≡ first ∷ rest → IsNext layers rest first k
next_layer layers rest first k e =
    let size : length layers - k ≡ length (first ∷ rest) = sym (length-drop k layers) ∙ ap length e in
    let within : k < length layers = omega arith in
    let both : get_or layers k [] ∷ drop (k + 1) layers ≡ first ∷ rest = sym (drop_more layers k [] within) ∙ e in
    let one : first ≡ get_or layers k [] = cc in
    let others : rest ≡ drop (k + 1) layers = cc in
    record { within = within; is = one; left = others }

pub none_left : (layers : List Nodes) (k : ℕ) → length (drop k layers) ≡ 0 → length layers ≤ k
none_left layers k e = let size = length-drop k layers in omega arith
