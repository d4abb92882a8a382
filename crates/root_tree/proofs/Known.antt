-- The part of a known tree that was read, one path at a time.
use Rattle.std.proofs.Common.{◌≡◌, ◌⊎◌, inl, inr, ⊎_elim, ◌<◌, ◌==◌, ℕ, zero, suc, Bool, true, false, cond, ◌&&◌, ◌||◌, not, fold, List, [], ◌∷◌, ◌++◌, length, refl, ap, sym, subst, ◌∙◌, Some, None, is_none, is_some, arith}
use Rattle.std.proofs.Math.Bool.{or-true}
use Rattle.std.proofs.lemmas.Bool.{and_from, and_parts, eqb-true, false≢true}
use Rattle.std.proofs.lemmas.Slice.Eq.{bytes_eq-Decides}
use Rattle.std.specs.List.{list_any}
use Rattle.std.specs.Option.{option_map_or}
use Rattle.std.specs.Str.{bytes_eq}
use Rattle.lib_types.proofs.Bools.{not_true}
use Rattle.lib_types.proofs.SortedPairs.{by_test}
use Rattle.lib_types.proofs.SortedPairs as pairs
use Rattle.image_tree.proofs.Above.{found_any, found_passes, path_of_found}
use Rattle.image_tree.proofs.Order.{path_total}
use Rattle.image_tree.specs.Node.{is_dir}
use Rattle.image_tree.specs.Paths.{is_below, is_path, join, root}
use Rattle.image_tree.specs.Tree as tree
use Rattle.image_tree.specs.Tree.{Nodes, IsPathSorted, children_of, clash_with, clashes, has_below, kind_at, node_at}
use Rattle.image_tree.specs.declared.node.Node.{Node}
use Rattle.image_tree.specs.declared.node.Node.TheVariants.{Dir, File, Link}
use Rattle.image_tree.specs.declared.tree.Kind.TheVariants as kinds
use Rattle.image_tree.specs.declared.tree.TheConstants.{NODES_MAX}
use Rattle.path_walk.specs.Names.{last, parent}
use Rattle.root_folder.proofs.Dirs.{dir_above}
use Rattle.image_tree.proofs.OneMore.{put_here, put_other}
use Rattle.root_folder.specs.Found.{Found}
use Rattle.root_folder.specs.Whole.{IsWhole, has_dir}
use Rattle.root_tree.proofs.Directly.{child_of}
use Rattle.root_tree.proofs.Names as paths
use Rattle.root_tree.proofs.Parts.{IsFoundBy, any_found, one_list, one_longer, shorter}
use Rattle.root_tree.specs.SoFar.{IsFullAt, IsPart, IsReadBut, IsReadIn, SoFar, dirs_with, is_named, is_todo, listed, new_at, seen, so_far, with_found, with_node}
use Rattle.image_tree.proofs.FoundNodes.{by_some}

-- ---- members of a list

in_front : (d : List ℕ) (xs ys : List (List ℕ)) → list_any (bytes_eq d) xs ≡ true → list_any (bytes_eq d) (xs ++ ys) ≡ true
in_front d [] ys h = absurd (cc)
in_front d (x ∷ xs) ys h = by_test (bytes_eq d x)
    (λ e. ap (λ b. b || list_any (bytes_eq d) (xs ++ ys)) e)
    (λ e. ap (λ b. b || list_any (bytes_eq d) (xs ++ ys)) e ∙ in_front d xs ys (sym (ap (λ b. b || list_any (bytes_eq d) xs) e) ∙ h))

at_end : (d : List ℕ) (xs ys : List (List ℕ)) → list_any (bytes_eq d) ys ≡ true → list_any (bytes_eq d) (xs ++ ys) ≡ true
at_end d [] ys h = h
at_end d (x ∷ xs) ys h = ap (λ b. bytes_eq d x || b) (at_end d xs ys h) ∙ or-true (bytes_eq d x)

in_either : (d : List ℕ) (xs ys : List (List ℕ)) → list_any (bytes_eq d) (xs ++ ys) ≡ true → (list_any (bytes_eq d) xs ≡ true) ⊎ (list_any (bytes_eq d) ys ≡ true)
in_either d [] ys h = inr h
in_either d (x ∷ xs) ys h = by_test (bytes_eq d x)
    (λ e. inl (ap (λ b. b || list_any (bytes_eq d) xs) e))
    (λ e. ⊎_elim
    (λ a. inl (ap (λ b. bytes_eq d x || b) a ∙ or-true (bytes_eq d x)))
    (λ b. inr b)
    (in_either d xs ys (sym (ap (λ b. b || list_any (bytes_eq d) (xs ++ ys)) e) ∙ h)))

either : (a b : Bool) → (a || b) ≡ true → (a ≡ true) ⊎ (b ≡ true)
either true b h = inl refl
either false b h = inr h

left_of : (a b : Bool) → a ≡ true → (a || b) ≡ true
left_of a b h = ap (λ c. c || b) h

right_of : (a b : Bool) → b ≡ true → (a || b) ≡ true
right_of a b h = ap (λ c. a || c) h ∙ or-true a

-- ---- directories of a tree

root_is_dir : (t : Nodes) (d : List ℕ) → bytes_eq d root ≡ true → has_dir t d ≡ true
root_is_dir t d e = ap (λ b. b || option_map_or is_dir (node_at t d) false) e

dir_by_node : (t : Nodes) (d : List ℕ) → node_at t d ≡ Some Dir → has_dir t d ≡ true
dir_by_node t d e = ap (λ (o : Found). bytes_eq d root || option_map_or is_dir o false) e ∙ or-true (bytes_eq d root)

node_by_dir : (t : Nodes) (d : List ℕ) → bytes_eq d root ≡ false → has_dir t d ≡ true → node_at t d ≡ Some Dir
node_by_dir t d other h = by (node_at t d) (sym (ap (λ b. b || option_map_or is_dir (node_at t d) false) other) ∙ h)
  where
    by : (found : Found) → option_map_or is_dir found false ≡ true → found ≡ Some Dir
    by None h = absurd (false≢true h)
    by (Some Dir) h = refl
    by (Some (File key id)) h = absurd (false≢true h)
    by (Some (Link target)) h = absurd (false≢true h)

module _ (t : Nodes) (whole : IsWhole t) where
  -- ---- a node of the tree has room in a part of it

  no_clash : (part : Nodes) (p : List ℕ) (node : Node) → IsPathSorted part → IsPart t part → node_at t p ≡ Some node → clashes part p node ≡ false
  no_clash part p node sorted is at = by_test (clashes part p node) (λ c. absurd (by (any_found (clash_with p node) part sorted c))) (λ c. c)
    where
      not_a_dir : (n : Node) → n ≡ Dir → not (is_dir n) ≡ true → ⊥
      not_a_dir n e h = false≢true (sym (ap (λ m. not (is_dir m)) e) ∙ h)

      by : IsFoundBy (clash_with p node) part → ⊥
      by f =
          let there = is f.path f.node f.found in
          by_test (is_below f.path p && not (is_dir f.node))
          (λ a.
          let parts = and_parts (is_below f.path p) (not (is_dir f.node)) a in
          let below : has_below t f.path ≡ true = found_any (λ (e : List ℕ × Node). is_below f.path e.0) t p node at parts.0 in
          let dir = dir_above t whole f.path (path_of_found t f.path (Some f.node) whole.entries there refl) below in
          not_a_dir f.node (by_some (sym there ∙ dir)) parts.1)
          (λ a.
          let parts = and_parts (not (is_dir node)) (is_below p f.path) (sym (ap (λ b. b || (not (is_dir node) && is_below p f.path)) a) ∙ f.passes) in
          let below : has_below t p ≡ true = found_any (λ (e : List ℕ × Node). is_below p e.0) t f.path f.node there parts.1 in
          let dir = dir_above t whole p (path_of_found t p (Some node) whole.entries at refl) below in
          not_a_dir node (by_some (sym at ∙ dir)) parts.0)

  -- ---- one path

  record IsStep (s new : SoFar) (p : List ℕ) : Type 0 where
    sorted : IsPathSorted new.tree
    part : IsPart t new.tree
    kept : (q : List ℕ) (n : Node) → node_at s.tree q ≡ Some n → node_at new.tree q ≡ Some n
    dirs : (d : List ℕ) → has_dir new.tree d ≡ true → (has_dir s.tree d ≡ true) ⊎ (list_any (bytes_eq d) new.todo ≡ true)
    todo : (d : List ℕ) → list_any (bytes_eq d) s.todo ≡ true → list_any (bytes_eq d) new.todo ≡ true
    here : (n : Node) → node_at t p ≡ Some n → node_at new.tree p ≡ Some n

  module _ (s : SoFar) (p : List ℕ) (sorted : IsPathSorted s.tree) (part : IsPart t s.tree) where
    stays : ((n : Node) → node_at t p ≡ Some n → node_at s.tree p ≡ Some n) → IsStep s s p
    stays here = record { sorted = sorted; part = part; kept = λ q n e. e; dirs = λ d h. inl h; todo = λ d h. h; here = here }

    module _ (node : Node) (at : node_at t p ≡ Some node) (free : node_at s.tree p ≡ None) where
      abbrev more : SoFar
      more = so_far (tree.put s.tree p node) (s.todo ++ dirs_with p node)

      other : (q : List ℕ) (n : Node) → node_at s.tree q ≡ Some n → bytes_eq q p ≡ false
      other q n e = by_test (bytes_eq q p)
          (λ same. let z : Some n ≡ None = sym e ∙ ap (node_at s.tree) ((bytes_eq-Decides q p).0 same) ∙ free in absurd (cc))
          (λ same. same)

      listed_dir : (d : List ℕ) → bytes_eq d p ≡ true → bytes_eq d root ≡ false → has_dir more.tree d ≡ true → list_any (bytes_eq d) (dirs_with p node) ≡ true
      listed_dir d same other h =
          let dir : node ≡ Dir = by_some (sym (put_here p node s.tree) ∙ sym (ap (node_at more.tree) ((bytes_eq-Decides d p).0 same)) ∙ node_by_dir more.tree d other h) in
          ap (λ (n : Node). list_any (bytes_eq d) (cond (is_dir n) (p ∷ []) [])) dir ∙ left_of (bytes_eq d p) false same

      adds : IsStep s more p
      adds = record {
        sorted = pairs.sorted_put path_total p s.tree node sorted;
        part = λ q n e. by_test (bytes_eq q p)
            (λ same.
            let equal = (bytes_eq-Decides q p).0 same in
            ap (node_at t) equal ∙ at ∙ sym (put_here p node s.tree) ∙ sym (ap (node_at more.tree) equal) ∙ e)
            (λ same. part q n (sym (put_other p node q same s.tree) ∙ e));
        kept = λ q n e. put_other p node q (other q n e) s.tree ∙ e;
        dirs = λ d h. by_test (bytes_eq d root)
            (λ r. inl (root_is_dir s.tree d r))
            (λ r. by_test (bytes_eq d p)
            (λ same. inr (at_end d s.todo (dirs_with p node) (listed_dir d same r h)))
            (λ same. inl (dir_by_node s.tree d (sym (put_other p node d same s.tree) ∙ node_by_dir more.tree d r h))));
        todo = λ d h. in_front d s.todo (dirs_with p node) h;
        here = λ n e. put_here p node s.tree ∙ sym at ∙ e;
      }

      adds_unless : IsStep s (with_node s p node) p
      adds_unless = subst (λ (b : Bool). IsStep s (cond b s more) p) (sym (no_clash s.tree p node sorted part at)) adds

    abbrev is_new : Bool
    is_new = is_path p && is_none (node_at s.tree p)

    nothing_there : (o : Found) → is_none o ≡ true → o ≡ None
    nothing_there None h = refl
    nothing_there (Some n) h = absurd (false≢true h)

    was_there : (n : Node) → node_at t p ≡ Some n → is_new ≡ false → (o : Found) → node_at s.tree p ≡ o → node_at s.tree p ≡ Some n
    was_there n at old None e =
        let fresh : is_new ≡ true = and_from _ _ (path_of_found t p (Some n) whole.entries at refl) (ap is_none e) in
        let z : true ≡ false = sym fresh ∙ old in absurd (cc)
    was_there n at old (Some m) e = e ∙ sym (part p m e) ∙ at

    looked : (o : Found) → node_at t p ≡ o → is_new ≡ true → IsStep s (with_found s p o) p
    looked None e fresh = stays (λ n at. let z : None ≡ Some n = sym e ∙ at in absurd (cc))
    looked (Some node) e fresh = adds_unless node e (nothing_there (node_at s.tree p) (and_parts (is_path p) _ fresh).1)

    step : IsStep s (with_found s p (new_at t s.tree p)) p
    step = by_test is_new
        (λ e. subst (λ (o : Found). IsStep s (with_found s p o) p) (sym (ap (λ b. cond b (node_at t p) None) e)) (looked (node_at t p) refl e))
        (λ e. subst (λ (o : Found). IsStep s (with_found s p o) p) (sym (ap (λ b. cond b (node_at t p) None) e)) (stays (λ n at. was_there n at e (node_at s.tree p) refl)))

  pub part_on : (s : SoFar) (dir name : List ℕ) → IsPathSorted s.tree → IsPart t s.tree → IsPart t (seen t dir s name).tree
  part_on s dir name sorted part = (step s (join dir name) sorted part).part

  -- ---- the names of a directory

  on_name : (s : SoFar) (dir name : List ℕ) (names : List (List ℕ)) → IsPathSorted s.tree → IsReadIn t s dir (name ∷ names) → IsReadIn t (seen t dir s name) dir names
  on_name s dir name names sorted is =
      let done = step s (join dir name) sorted is.part in
      let new = seen t dir s name in
      record {
        part = done.part;
        read = λ q n at h. ⊎_elim
            (λ dir_before. ⊎_elim
            (λ was. inl (done.kept q n was))
            (λ left. ⊎_elim
            (λ todo. inr (left_of (is_todo new.todo q) _ (done.todo (parent q) todo)))
            (λ named. in_dir q n at done new named)
            (either (is_todo s.todo q) _ left))
            (is.read q n at dir_before))
            (λ todo. inr (left_of (is_todo new.todo q) _ todo))
            (done.dirs (parent q) h);
      }
    where
      in_dir : (q : List ℕ) (n : Node) → node_at t q ≡ Some n → IsStep s (seen t dir s name) (join dir name) → (new : SoFar) → is_named dir (name ∷ names) q ≡ true
          → (node_at (seen t dir s name).tree q ≡ Some n) ⊎ ((is_todo (seen t dir s name).todo q || is_named dir names q) ≡ true)
      in_dir q n at done new h =
          let parts = and_parts (bytes_eq (parent q) dir) (list_any (bytes_eq (last q)) (name ∷ names)) h in
          let same_dir : parent q ≡ dir = (bytes_eq-Decides (parent q) dir).0 parts.0 in
          by_test (bytes_eq (last q) name)
          (λ e.
          let same_name : last q ≡ name = (bytes_eq-Decides (last q) name).0 e in
          let path : join dir name ≡ q = ap (λ d. join d name) (sym same_dir) ∙ ap (join (parent q)) (sym same_name) ∙ paths.joined q (path_of_found t q (Some n) whole.entries at refl) in
          inl (subst (λ (z : List ℕ). node_at (seen t dir s name).tree z ≡ Some n) path (done.here n (ap (node_at t) path ∙ at))))
          (λ e. inr (right_of (is_todo (seen t dir s name).todo q) _ (and_from _ _ parts.0 (sym (ap (λ b. b || list_any (bytes_eq (last q)) names) e) ∙ parts.1))))

  all_names : (dir : List ℕ) (names : List (List ℕ)) (s : SoFar) → IsPathSorted s.tree → IsReadIn t s dir names → IsReadIn t (fold (seen t dir) s names) dir []
  all_names dir [] s sorted is = is
  all_names dir (name ∷ names) s sorted is =
      all_names dir names (seen t dir s name) (step s (join dir name) sorted is.part).sorted (on_name s dir name names sorted is)

  -- ---- directories

  no_names : (s : SoFar) (dir other : List ℕ) → IsReadIn t s dir [] → IsReadIn t s other []
  no_names s dir other is = record {
    part = is.part;
    read = λ q n at h. ⊎_elim (λ was. inl was) (λ left. inr (by (is_todo s.todo q) (bytes_eq (parent q) dir) (bytes_eq (parent q) other) left)) (is.read q n at h);
  }
    where
      by : (a b c : Bool) → (a || (b && false)) ≡ true → (a || (c && false)) ≡ true
      by true b c h = refl
      by false true c h = absurd (false≢true h)
      by false false c h = absurd (false≢true h)

  pub on_dir : (part : Nodes) (rest : List (List ℕ)) (dir : List ℕ) → IsPathSorted part → kind_at t dir ≡ kinds.Dir
      → IsReadBut t (so_far part (rest ++ dir ∷ [])) → IsReadBut t (listed t dir (so_far part rest))
  unfolding listed
  on_dir part rest dir sorted there is = no_names (fold (seen t dir) (so_far part rest) (children_of t dir)) dir [] (all_names dir (children_of t dir) (so_far part rest) sorted begins)
    where
      in_it : (q : List ℕ) (n : Node) → node_at t q ≡ Some n → (bytes_eq (parent q) dir || false) ≡ true → is_named dir (children_of t dir) q ≡ true
      in_it q n at h =
          let same : bytes_eq (parent q) dir ≡ true = ⊎_elim (λ e. e) (λ e. absurd (false≢true e)) (either (bytes_eq (parent q) dir) false h) in
          let equal : parent q ≡ dir = (bytes_eq-Decides (parent q) dir).0 same in
          and_from _ _ same (subst (λ (d : List ℕ). list_any (bytes_eq (last q)) (children_of t d) ≡ true) equal (child_of t q n whole.entries at (ap (kind_at t) equal ∙ there)))

      begins : IsReadIn t (so_far part rest) dir (children_of t dir)
      begins = record {
        part = is.part;
        read = λ q n at h. ⊎_elim
            (λ was. inl was)
            (λ left. ⊎_elim
            (λ todo. ⊎_elim
            (λ front. inr (left_of (is_todo rest q) _ front))
            (λ last_one. inr (right_of (is_todo rest q) _ (in_it q n at last_one)))
            (in_either (parent q) rest (dir ∷ []) todo))
            (λ none. absurd (no (bytes_eq (parent q) []) none))
            (either (is_todo (rest ++ dir ∷ []) q) _ left))
            (is.read q n at h);
      }
        where
          no : (b : Bool) → (b && false) ≡ true → ⊥
          no true h = false≢true h
          no false h = false≢true h

  pub root_first : IsReadBut t (so_far [] (root ∷ []))
  root_first = record {
    part = λ q n e. absurd (cc);
    read = λ q n at h. inr (left_of (bytes_eq (parent q) root || false) _ h);
  }

  pub all_read : (part : Nodes) → IsPathSorted part → IsReadBut t (so_far part []) → part ≡ t
  all_read part sorted is = one_list t part whole.sorted sorted is.part (λ q n at. seen_by (suc (length q)) q n (omega arith) at)
    where
      nothing_left : (b : Bool) → (false || (b && false)) ≡ true → ⊥
      nothing_left true h = false≢true h
      nothing_left false h = false≢true h

      seen_by : (m : ℕ) (q : List ℕ) (n : Node) → length q < m → node_at t q ≡ Some n → node_at part q ≡ Some n
      seen_by zero q n less at = absurd (omega arith)
      seen_by (suc m) q n less at =
          let dir : has_dir t (parent q) ≡ true = found_passes (λ e. has_dir t (parent e.0)) t q n at whole.dirs in
          let dir_read : has_dir part (parent q) ≡ true = by_test (bytes_eq (parent q) root)
          (λ r. root_is_dir part (parent q) r)
          (λ r.
          let fewer = paths.shorter q (path_of_found t q (Some n) whole.entries at refl) r in
          dir_by_node part (parent q) (seen_by m (parent q) Dir (omega (arith, fewer, less)) (node_by_dir t (parent q) r dir))) in
          ⊎_elim (λ was. was) (λ left. absurd (nothing_left (bytes_eq (parent q) []) left)) (is.read q n at dir_read)

  -- ---- room

  pub too_many : (part : Nodes) (p : List ℕ) → IsPathSorted part → IsPart t part → IsFullAt t part p → NODES_MAX < length t
  too_many part p sorted is full =
      let parts = and_parts (not (is_some (node_at part p))) (length part == NODES_MAX) full.full.1 in
      let free : node_at part p ≡ None = nothing (node_at part p) (not_true (is_some (node_at part p)) parts.0) in
      let size : length part ≡ NODES_MAX = eqb-true (length part) NODES_MAX parts.1 in
      let longer = one_longer part p full.node free in
      let added = (adds (so_far part []) p sorted is full.node full.there free) in
      let fits = (shorter t (tree.put part p full.node) whole.sorted added.sorted added.part).few in
      omega (arith, size, longer, fits)
    where
      nothing : (o : Found) → is_some o ≡ false → o ≡ None
      nothing None h = refl
      nothing (Some n) h = absurd (false≢true (sym h))
