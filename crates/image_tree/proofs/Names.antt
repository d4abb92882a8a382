-- The names directly below a directory.
use Rattle.std.proofs.Common.{◌≡◌, ℕ, zero, suc, ◌+◌, ◌<◌, ◌≤◌, Bool, true, false, cond, nat_eq, map, ◌&&◌, not, one-add, Option, List, [], ◌∷◌, ◌++◌, length, get_or, take, drop, refl, sym, ap, subst, ◌∙◌, ⊎_elim, arith, length-drop}
use Rattle.std.proofs.lemmas.Bool.{cases_lt, eq-eqb, eqb-true, and_parts, and_from}
use Rattle.std.proofs.lemmas.Bool.Decides.{Decides-eqb, nat_tests}
use Rattle.std.proofs.lemmas.List.{get_or-drop, length-append, length-take-le}
use Rattle.std.proofs.lemmas.List.Sums.{take_while-cons, AllPass-from_list_all, prefix_len-le-length}
use Rattle.std.proofs.lemmas.Slice.Eq.{starts_is}
use Rattle.std.specs.List.{filter, take_while, AllWithin, list_all, position_or_len, before_first, starts_with, dedup, dedup_from}
use Rattle.std.specs.Str.{bytes_eq}
use Rattle.std.specs.List.Sorted.{IsPartitionedBy}
use Rattle.image_tree.proofs.Below.{below_as_later, none_before}
use Rattle.lib_types.proofs.Bools.{not_true, and_true, and_false}
use Rattle.lib_types.proofs.SortedPairs.{by_test}
use Rattle.image_tree.specs.Paths.{is_path, is_below, is_slash, root, name_after}
use Rattle.image_tree.specs.Runs.{IsPathOfChild, child_at, children_after, is_name_end, is_same_child}
use Rattle.image_tree.specs.Index.{IsAfter}
use Rattle.image_tree.specs.Tree.{Nodes, IsPathSorted, is_entry}
use Rattle.image_tree.specs.declared.node.Node.{Node}

-- ---- the items of a list that pass a test

module _ {X : Type 0} (p : X → Bool) where
  pub filter_none_before : (xs : List X) (i : ℕ) → i ≤ length xs → AllWithin (λ x. p x ≡ false) xs 0 i → filter p (drop i xs) ≡ filter p xs
  filter_none_before xs zero h none = refl
  filter_none_before [] (suc i) h none = refl
  filter_none_before (x ∷ xs) (suc i) h none =
      filter_none_before xs i (omega arith) (λ k d low high. none (suc k) d (omega arith) (omega arith))
      ∙ sym (ap (λ b. cond b (x ∷ filter p xs) (filter p xs)) (none 0 x (omega arith) (omega arith)))

  filter_none : (xs : List X) → AllWithin (λ x. p x ≡ false) xs 0 (length xs) → filter p xs ≡ []
  filter_none [] none = refl
  filter_none (x ∷ xs) none =
      ap (λ b. cond b (x ∷ filter p xs) (filter p xs)) (none 0 x (omega arith) (omega arith))
      ∙ filter_none xs (λ k d low high. none (suc k) d (omega arith) (omega arith))

  -- if the items that pass come first, `take_while` takes the same items as `filter`
  pub taken_first : (xs : List X) → IsPartitionedBy p xs → take_while p xs ≡ filter p xs
  taken_first [] parts = refl
  taken_first (x ∷ xs) parts = by_test (p x)
      (λ e.
      take_while-cons p x xs ∙ ap (λ b. cond b (x ∷ take_while p xs) []) e
      ∙ ap (λ l. x ∷ l) (taken_first xs (λ i j d h l f. parts (suc i) (suc j) d (omega arith) (omega arith) f))
      ∙ sym (ap (λ b. cond b (x ∷ filter p xs) (filter p xs)) e))
      (λ e.
      let none = filter_none xs (λ k d low high. by_test (p (get_or xs k d))
      (λ f. let g : p x ≡ true = parts 0 (suc k) d (omega arith) (omega arith) f in absurd (cc))
      (λ f. f)) in
      take_while-cons p x xs ∙ ap (λ b. cond b (x ∷ take_while p xs) []) e ∙ sym none
      ∙ sym (ap (λ b. cond b (x ∷ filter p xs) (filter p xs)) e))

-- ---- the entries below a path

module _ (t : Nodes) (path : List ℕ) (at : ℕ) (proper : is_path path ≡ true) (following : IsAfter t path at) where
  pub below_first : IsPathSorted t → IsPartitionedBy (λ e. is_below path e.0) (drop at t)
  below_first sorted i j d h k e =
      ⊎_elim
      (λ lt. rw get_or-drop (below_as_later t path at proper following sorted (at + i) (at + j) d (omega arith) (omega arith) (omega (arith, length-drop at t)) (rw get_or-drop at e)))
      (λ ge. let same : j ≡ i = omega arith in subst (λ (n : ℕ). is_below path (get_or (drop at t) n d).0 ≡ true) same e)
      (cases_lt i j)

  pub below_taken : IsPathSorted t → take_while (λ e. is_below path e.0) (drop at t) ≡ filter (λ e. is_below path e.0) t
  below_taken sorted =
      taken_first (λ (e : List ℕ × Node). is_below path e.0) (drop at t) (below_first sorted)
      ∙ filter_none_before (λ (e : List ℕ × Node). is_below path e.0) t at following.within (λ k d low high. none_before t path at proper following k d high)

all_below_root : (t : Nodes) → list_all is_entry t ≡ true → list_all (λ e. is_below root e.0) t ≡ true
all_below_root [] all = refl
all_below_root (e ∷ t) all = and_from _ _ (and_parts _ _ (and_parts _ _ (and_parts _ _ (and_parts _ _ all).0).0).0).1 (all_below_root t (and_parts _ _ all).1)

pub below_root : (t : Nodes) → list_all is_entry t ≡ true → take_while (λ e. is_below root e.0) t ≡ filter (λ e. is_below root e.0) t
below_root t all = taken_first (λ (e : List ℕ × Node). is_below root e.0) t
    (λ i j d h l e. AllPass-from_list_all (λ (e : List ℕ × Node). is_below root e.0) t (all_below_root t all) i d (omega arith))

-- ---- the entries of one child

child_first : (folder : List ℕ) (e : List ℕ × Node) (t : Nodes) → starts_with nat_eq e.0 folder ≡ true → children_after folder (e ∷ t) ≡ child_at (length folder) e ∷ children_after folder t
child_first folder e t starts =
    let test = λ (x : List ℕ × Node). starts_with nat_eq x.0 folder in
    ap (map (child_at (length folder))) (take_while-cons test e t ∙ ap (λ b. cond b (e ∷ take_while test t) []) starts)

-- a child is the first of the children, followed by the children of the entries after it
pub child_taken : (folder : List ℕ) (e : List ℕ × Node) (t rest : Nodes) (child : List ℕ × Option Node) → starts_with nat_eq e.0 folder ≡ true → child ≡ child_at (length folder) e
    → dedup_from is_same_child child (children_after folder t) ≡ child ∷ dedup is_same_child (children_after folder rest)
    → dedup is_same_child (children_after folder (e ∷ t)) ≡ child ∷ dedup is_same_child (children_after folder rest)
child_taken folder e t rest child starts same skipped =
    ap (dedup is_same_child) (child_first folder e t starts) ∙ ap (λ c. dedup_from is_same_child c (children_after folder t)) (sym same) ∙ skipped

-- another entry of the same child adds no child
pub child_skipped : (folder name : List ℕ) (node : Option Node) (e : List ℕ × Node) (t : Nodes) → (starts_with nat_eq e.0 folder && bytes_eq (name_after (length folder) e.0) name) ≡ true
    → dedup_from is_same_child (name, node) (children_after folder (e ∷ t)) ≡ dedup_from is_same_child (name, node) (children_after folder t)
child_skipped folder name node e t same =
    let both = and_parts (starts_with nat_eq e.0 folder) (bytes_eq (name_after (length folder) e.0) name) same in
    ap (dedup_from is_same_child (name, node)) (child_first folder e t both.0)
    ∙ ap (λ b. cond b (dedup_from is_same_child (name, node) (children_after folder t)) ((name, node) ∷ dedup_from is_same_child (child_at (length folder) e) (children_after folder t))) both.1

-- ---- the path of a child

pub ends_there : (path : List ℕ) (n : ℕ) → length path ≤ n → true ≡ is_name_end (drop n path)
ends_there [] zero h = refl
ends_there [] (suc n) h = refl
ends_there (b ∷ path) zero h = absurd (omega arith)
ends_there (b ∷ path) (suc n) h = ends_there path n (omega arith)

pub goes_on_there : (path : List ℕ) (n : ℕ) → n < length path → is_slash (get_or path n 0) ≡ is_name_end (drop n path)
goes_on_there [] n h = absurd (omega arith)
goes_on_there (b ∷ path) zero h = refl
goes_on_there (b ∷ path) (suc n) h = goes_on_there path n (omega arith)

first_none : (b : ℕ) (rest : List ℕ) → is_slash b ≡ true → before_first is_slash (b ∷ rest) ≡ []
first_none b rest e = ap (λ c. take (cond (not c) (1 + position_or_len is_slash rest) 0) (b ∷ rest)) e

first_more : (b : ℕ) (rest : List ℕ) → is_slash b ≡ false → before_first is_slash (b ∷ rest) ≡ b ∷ before_first is_slash rest
first_more b rest e = ap (λ c. take (cond (not c) (1 + position_or_len is_slash rest) 0) (b ∷ rest)) e ∙ rw one-add refl

-- the first name of the bytes is this name exactly if the bytes begin with it and it ends there
first_name : (name bytes : List ℕ) → list_all (λ b. not (is_slash b)) name ≡ true
    → (is_name_end (drop (length name) bytes) && starts_with nat_eq bytes name) ≡ bytes_eq (before_first is_slash bytes) name
first_name [] [] alone = refl
first_name [] (b ∷ bytes) alone =
    and_true (is_slash b)
    ∙ by_test (is_slash b)
    (λ e. e ∙ sym (ap (λ l. bytes_eq l []) (first_none b bytes e)))
    (λ e. e ∙ sym (ap (λ l. bytes_eq l []) (first_more b bytes e)))
first_name (x ∷ name) [] alone = refl
first_name (x ∷ name) (b ∷ bytes) alone =
    let parts = and_parts (not (is_slash x)) (list_all (λ c. not (is_slash c)) name) alone in
    let end = is_name_end (drop (length name) bytes) in
    by_test (nat_eq x b)
    (λ e.
    let same : x ≡ b = eqb-true x b e in
    let more : is_slash b ≡ false = subst (λ c. is_slash c ≡ false) same (not_true (is_slash x) parts.0) in
    let again : nat_eq b x ≡ true = eq-eqb b x (sym same) in
    ap (λ c. end && (c && starts_with nat_eq bytes name)) e ∙ first_name name bytes parts.1
    ∙ sym (ap (λ l. bytes_eq l (x ∷ name)) (first_more b bytes more) ∙ ap (λ c. c && bytes_eq (before_first is_slash bytes) name) again))
    (λ e.
    let other : nat_eq b x ≡ false = grind (arith, nat_tests) in
    ap (λ c. end && (c && starts_with nat_eq bytes name)) e ∙ and_false end
    ∙ by_test (is_slash b)
    (λ s. sym (ap (λ l. bytes_eq l (x ∷ name)) (first_none b bytes s)))
    (λ s. sym (ap (λ l. bytes_eq l (x ∷ name)) (first_more b bytes s) ∙ ap (λ c. c && bytes_eq (before_first is_slash bytes) name) other)))

begins_alike : (folder name path : List ℕ) → list_all (λ b. not (is_slash b)) name ≡ true
    → (is_name_end (drop (length (folder ++ name)) path) && starts_with nat_eq path (folder ++ name)) ≡ (starts_with nat_eq path folder && bytes_eq (name_after (length folder) path) name)
begins_alike [] name path alone = first_name name path alone
begins_alike (x ∷ folder) name [] alone = refl
begins_alike (x ∷ folder) name (b ∷ path) alone =
    let end = is_name_end (drop (length (folder ++ name)) path) in
    by_test (nat_eq x b)
    (λ e.
    ap (λ c. end && (c && starts_with nat_eq path (folder ++ name))) e ∙ begins_alike folder name path alone
    ∙ sym (ap (λ c. (c && starts_with nat_eq path folder) && bytes_eq (name_after (length folder) path) name) e))
    (λ e.
    ap (λ c. end && (c && starts_with nat_eq path (folder ++ name))) e ∙ and_false end
    ∙ sym (ap (λ c. (c && starts_with nat_eq path folder) && bytes_eq (name_after (length folder) path) name) e))

-- an entry belongs to a child exactly if its path begins with the child's path and a name ends there
pub same_child : (folder name child path : List ℕ) → IsPathOfChild folder name child
    → (is_name_end (drop (length child) path) && starts_with nat_eq path child) ≡ (starts_with nat_eq path folder && bytes_eq (name_after (length folder) path) name)
same_child folder name child path h =
    ap (λ z. is_name_end (drop (length z) path) && starts_with nat_eq path z) h.whole ∙ begins_alike folder name path h.alone

-- no byte of a name is a slash
first_alone : (bytes : List ℕ) → list_all (λ b. not (is_slash b)) (before_first is_slash bytes) ≡ true
first_alone [] = refl
first_alone (b ∷ bytes) = by_test (is_slash b)
    (λ e. ap (list_all (λ b. not (is_slash b))) (first_none b bytes e))
    (λ e. ap (list_all (λ b. not (is_slash b))) (first_more b bytes e) ∙ and_from _ _ (ap not e) (first_alone bytes))

first_short : (bytes : List ℕ) → length (before_first is_slash bytes) ≤ length bytes
first_short bytes = omega (arith, length-take-le (position_or_len is_slash bytes) bytes (prefix_len-le-length _ bytes), prefix_len-le-length (λ b. not (is_slash b)) bytes)

pub child_within : (folder name path : List ℕ) → starts_with nat_eq path folder ≡ true → name ≡ name_after (length folder) path → length folder + length name ≤ length path
child_within folder name path starts same =
    let rest = drop (length folder) path in
    let whole : path ≡ folder ++ rest = (starts_is Decides-eqb path folder (starts_with nat_eq path folder) refl).0 starts in
    let long : length path ≡ length folder + length rest = ap length whole ∙ length-append folder rest in
    let short : length (before_first is_slash rest) ≤ length rest = first_short rest in
    let here : length name ≡ length (before_first is_slash rest) = ap length same in
    omega arith

pub child_path : (folder name path : List ℕ) → starts_with nat_eq path folder ≡ true → name ≡ name_after (length folder) path → IsPathOfChild folder name (take (length folder + length name) path)
child_path folder name path starts same =
    let rest = drop (length folder) path in
    let whole : path ≡ folder ++ rest = (starts_is Decides-eqb path folder (starts_with nat_eq path folder) refl).0 starts in
    let p = position_or_len is_slash rest in
    let size : length name ≡ p = ap length same ∙ length-take-le p rest (prefix_len-le-length _ rest) in
    record {
      whole = ap (take (length folder + length name)) whole ∙ front folder rest (length name) ∙ ap (λ n. folder ++ take n rest) size ∙ ap (λ z. folder ++ z) (sym same);
      alone = ap (list_all (λ b. not (is_slash b))) same ∙ first_alone rest;
    }
  where
    front : (f r : List ℕ) (n : ℕ) → take (length f + n) (f ++ r) ≡ f ++ take n r
    front [] r n = let none : 0 + n ≡ n = omega arith in ap (λ k. take k r) none
    front (x ∷ f) r n = let more : length (x ∷ f) + n ≡ suc (length f + n) = omega arith in ap (λ k. take k (x ∷ (f ++ r))) more ∙ ap (λ l. x ∷ l) (front f r n)

-- ---- the directory prefix of a path

pub folder_taken : (f q r : List ℕ) → q ≡ f ++ r → take (length f) q ≡ f
folder_taken f q r e = ap (take (length f)) e ∙ front f r
  where
    front : (f r : List ℕ) → take (length f) (f ++ r) ≡ f
    front [] r = refl
    front (x ∷ f) r = ap (λ l. x ∷ l) (front f r)
