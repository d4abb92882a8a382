-- What is at the paths of a tree. All paths above a directory are directories.
use Rattle.std.proofs.Common.{◌≡◌, ℕ, true, false, cond, ◌||◌, not, nat_eq, List, [], ◌∷◌, ◌++◌, append_assoc, refl, ap, sym, subst, ◌∙◌, Option, Some, None, unwrap_or, Result, Ok, Err, arith}
use Rattle.std.proofs.Math.Bool.{or-true}
use Rattle.std.proofs.lemmas.Bool.Decides.{nat_tests}
use Rattle.std.proofs.lemmas.Slice.Eq.{bytes_eq-Decides}
use Rattle.std.specs.Result.{IfOk, MatchResult}
use Rattle.std.specs.List.{starts_with}
use Rattle.std.specs.Str.{bytes_eq}
use Rattle.lib_types.proofs.Bools.{not_true}
use Rattle.lib_types.proofs.SortedPairs.{by_test}
use Rattle.lib_types.specs.Name.{slash}
use Rattle.image_tree.proofs.Above.{clash_above, clash_below, found_any, found_passes}
use Rattle.image_tree.proofs.Below.{below_from, below_is, not_root}
use Rattle.image_tree.proofs.Prefixes.{path_above}
use Rattle.image_tree.specs.Index.{has_file_above}
use Rattle.image_tree.specs.Node.{is_dir}
use Rattle.image_tree.specs.Paths.{is_below, is_path, is_slash, root}
use Rattle.image_tree.specs.Tree.{Nodes, IsTree, clashes, has_below, kind_at, kind_of, kind_there, node_at}
use Rattle.image_tree.specs.declared.node.Node.{Node}
use Rattle.image_tree.specs.declared.node.Node.TheVariants as node
use Rattle.image_tree.specs.declared.tree.Kind.TheVariants.{Absent, Dir}
use Rattle.path_walk.specs.Names.{before_last, more_before, parent, unless_empty}
use Rattle.path_walk.specs.Stops.{EndsAt, HaltsAt, KeepsDir, LinkIsLeft}
use Rattle.path_walk.specs.Walk.{start_of}
use Rattle.path_walk.specs.declared.walk.End.{End}
use Rattle.path_walk.specs.declared.walk.End.TheVariants as end
use Rattle.path_walk.specs.declared.walk.WalkFault.{WalkFault}
use Rattle.path_walk.specs.declared.walk.Halt.{Halt}
use Rattle.path_walk.specs.declared.walk.Halt.TheVariants as halt

module _ (t : Nodes) (q : List ℕ) where
  pub at_root : bytes_eq q root ≡ true → kind_at t q ≡ Dir
  at_root e = ap (λ b. cond b Dir (cond (is_path q) (kind_there (node_at t q) (has_below t q)) Absent)) e

  pub at_path : bytes_eq q root ≡ false → is_path q ≡ true → kind_at t q ≡ kind_there (node_at t q) (has_below t q)
  at_path e p =
      ap (λ b. cond b Dir (cond (is_path q) (kind_there (node_at t q) (has_below t q)) Absent)) e
      ∙ ap (λ b. cond b (kind_there (node_at t q) (has_below t q)) Absent) p

  pub at_none : bytes_eq q root ≡ false → is_path q ≡ false → kind_at t q ≡ Absent
  at_none e p =
      ap (λ b. cond b Dir (cond (is_path q) (kind_there (node_at t q) (has_below t q)) Absent)) e
      ∙ ap (λ b. cond b (kind_there (node_at t q) (has_below t q)) Absent) p

  at_proper : is_path q ≡ true → kind_at t q ≡ kind_there (node_at t q) (has_below t q)
  at_proper proper = at_path (not_root q proper) proper

  -- the kind of a path with a node is the node's kind
  pub kind_of_node : (n : Node) → is_path q ≡ true → node_at t q ≡ Some n → kind_at t q ≡ kind_of n
  kind_of_node n proper e = at_proper proper ∙ ap (λ o. kind_there o (has_below t q)) e

  -- a path without a node is a directory or absent
  pub absent_else : node_at t q ≡ None → (kind_at t q ≡ Dir → ⊥) → kind_at t q ≡ Absent
  absent_else e other = by_test (bytes_eq q root)
      (λ r. absurd (other (at_root r)))
      (λ r. by_test (is_path q)
      (λ p.
      let there : kind_at t q ≡ kind_there None (has_below t q) = at_path r p ∙ ap (λ o. kind_there o (has_below t q)) e in
      by_test (has_below t q)
      (λ b. absurd (other (there ∙ ap (kind_there None) b)))
      (λ b. there ∙ ap (kind_there None) b))
      (λ p. at_none r p))

-- ---- paths above a path

below_trans : (p q r : List ℕ) → is_path p ≡ true → is_path q ≡ true → is_below p q ≡ true → is_below q r ≡ true → is_below p r ≡ true
below_trans p q r proper next h k =
    let first = below_is p q proper h in
    let second = below_is q r next k in
    below_from p r (first.0 ++ slash ∷ second.0) proper
    (second.1 ∙ ap (λ z. z ++ slash ∷ second.0) first.1 ∙ append_assoc p (slash ∷ first.0) (slash ∷ second.0))

any_below : (p q : List ℕ) → is_path p ≡ true → is_path q ≡ true → is_below p q ≡ true → (t : Nodes) → has_below t q ≡ true → has_below t p ≡ true
any_below p q proper next h [] k = absurd (cc)
any_below p q proper next h (e ∷ t) k = by_test (is_below q e.0)
    (λ b. ap (λ x. x || has_below t p) (below_trans p q e.0 proper next h b))
    (λ b. ap (λ x. is_below p e.0 || x) (any_below p q proper next h t (sym (ap (λ x. x || has_below t q) b) ∙ k)) ∙ or-true (is_below p e.0))

module _ (t : Nodes) (tree : IsTree t) where
  -- nothing lies below a file or link
  none_below : (p : List ℕ) (n : Node) → node_at t p ≡ Some n → not (is_dir n) ≡ true → has_below t p ≡ false
  none_below p n e other =
      let clear : clashes t p n ≡ false = not_true _ (found_passes (λ (x : List ℕ × Node). not (clashes t x.0 x.1)) t p n e tree.clear) in
      by_test (has_file_above t p)
      (λ a. let z : true ≡ false = sym (clash_above t p n a) ∙ clear in absurd (cc))
      (λ a. sym (clash_below t p n a other) ∙ clear)

  with_below : (p : List ℕ) (o : Option Node) → node_at t p ≡ o → has_below t p ≡ true → kind_there o (has_below t p) ≡ Dir
  with_below p None e b = ap (kind_there None) b
  with_below p (Some node.Dir) e b = refl
  with_below p (Some (node.File key id)) e b = let z : true ≡ false = sym b ∙ none_below p (node.File key id) e refl in absurd (cc)
  with_below p (Some (node.Link target)) e b = let z : true ≡ false = sym b ∙ none_below p (node.Link target) e refl in absurd (cc)

  -- all paths above a directory are directories
  pub dir_above : (p q : List ℕ) → is_path p ≡ true → is_path q ≡ true → is_below p q ≡ true → kind_at t q ≡ Dir → kind_at t p ≡ Dir
  dir_above p q proper next h k =
      at_proper t p proper ∙ with_below p (node_at t p) refl (some_below (node_at t q) refl (sym (at_proper t q next) ∙ k))
    where
      some_below : (o : Option Node) → node_at t q ≡ o → kind_there o (has_below t q) ≡ Dir → has_below t p ≡ true
      some_below (Some n) e d = found_any (λ (x : List ℕ × Node). is_below p x.0) t q n e h
      some_below None e d = by_test (has_below t q)
          (λ b. any_below p q proper next h t b)
          (λ b. let z : Absent ≡ Dir = sym (ap (kind_there None) b) ∙ d in absurd (cc))

-- ---- the path of a directory above

pub cut_last : (xs front : List ℕ) → before_last xs ≡ Some front → (n : List ℕ) × (xs ≡ front ++ slash ∷ n)
cut_last [] front e = absurd (cc)
cut_last (b ∷ rest) front e = elim (before_last rest) as (λ o. before_last rest ≡ o → more_before b o ≡ Some front → (n : List ℕ) × (b ∷ rest ≡ front ++ slash ∷ n)) [
  | Some f ↦ λ r h.
      let more = cut_last rest f r in
      let same : b ∷ f ≡ front = cc in
      (more.0, ap (λ z. b ∷ z) more.1 ∙ ap (λ z. z ++ slash ∷ more.0) same)
  | None ↦ λ r h. by_test (is_slash b)
      (λ s.
      let found : Some [] ≡ Some front = sym (ap (λ c. cond c (Some []) None) s) ∙ h in
      let same : [] ≡ front = cc in
      let here : b ≡ slash = grind (arith, nat_tests) in
      (rest, ap (λ c. c ∷ rest) here ∙ ap (λ z. z ++ slash ∷ rest) same))
      (λ s. let none : None ≡ Some front = sym (ap (λ c. cond c (Some []) None) s) ∙ h in absurd (cc))
] refl e

-- ---- where a walk goes on

module _ (t : Nodes) where
  parent_dir : IsTree t → (p : List ℕ) → kind_at t p ≡ Dir → kind_at t (parent p) ≡ Dir
  parent_dir tree p h = by_test (bytes_eq p root)
      (λ e. subst (λ (z : List ℕ). kind_at t (parent z) ≡ Dir) (sym ((bytes_eq-Decides p root).0 e)) refl)
      (λ e. by_test (is_path p)
      (λ proper. by_front proper (before_last p) refl)
      (λ f. let z : Absent ≡ Dir = sym (at_none t p e f) ∙ h in absurd (cc)))
    where
      by_front : is_path p ≡ true → (o : Option (List ℕ)) → before_last p ≡ o → kind_at t (unless_empty (unwrap_or o [])) ≡ Dir
      by_front proper None e = refl
      by_front proper (Some []) e = refl
      by_front proper (Some (x ∷ front)) e =
          let cut = cut_last p (x ∷ front) e in
          let above : is_path (x ∷ front) ≡ true = path_above (x ∷ front) cut.0 (λ n. cc) (sym (ap is_path cut.1) ∙ proper) in
          dir_above t tree (x ∷ front) p above proper (below_from (x ∷ front) p cut.0 above cut.1) h

  -- a link's target starts in a directory
  pub start_dir : (target place : List ℕ) → kind_at t place ≡ Dir → kind_at t (start_of target place) ≡ Dir
  start_dir target place h = by_test (starts_with nat_eq target root)
      (λ e. ap (λ b. kind_at t (cond b root place)) e)
      (λ e. ap (λ b. kind_at t (cond b root place)) e ∙ h)

  -- the folder of a directory is a directory
  pub folder_dir : IsTree t → (p q : List ℕ) → q ≡ parent p → KeepsDir t p q
  folder_dir tree p q e h = ap (kind_at t) e ∙ parent_dir tree p h

  module _ (p q r : List ℕ) (keeps : KeepsDir t p q) where
    pub ends_after : (e : End) → EndsAt t q r e → EndsAt t p r e
    ends_after end.Dir h = λ d. h (keeps d)
    ends_after end.File h = h

    pub halts_after : (h : Halt) → HaltsAt t q r h → HaltsAt t p r h
    halts_after (halt.Reached e) h = ends_after e h
    halts_after (halt.Link target rest) h = λ d. h (keeps d)

  -- the end of a walk is where it halts
  pub last_ends : (p q r : List ℕ) → KeepsDir t p q → (h : Halt) → HaltsAt t q r h → (result : Result End WalkFault) → MatchResult result (λ e. h ≡ halt.Reached e) (LinkIsLeft h) →
      IfOk result (EndsAt t p r)
  last_ends p q r keeps h halts (Ok e) is = ends_after p q r keeps e (subst (HaltsAt t q r) is halts)
  last_ends p q r keeps h halts (Err fault) is = tt
