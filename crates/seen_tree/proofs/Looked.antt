-- The paths that were looked up, and the part of the tree that was seen there.
use Rattle.std.proofs.Common.{◌≡◌, ◌⊎◌, inl, inr, ◌≤◌, ℕ, Bool, true, false, cond, ◌&&◌, ◌||◌, not, fold, List, [], ◌∷◌, ◌++◌, refl, ap, sym, subst, ◌∙◌, Option, Some, None, ◌+◌}
use Rattle.std.proofs.Math.Bool.{or-true}
use Rattle.std.proofs.lemmas.Bool.{and_from, and_parts, false≢true, or_parts}
use Rattle.std.proofs.lemmas.List.Folds.{list_any-append}
use Rattle.std.proofs.lemmas.Slice.Eq.{bytes_eq-Decides}
use Rattle.std.specs.List.{list_any}
use Rattle.std.specs.List.Sorted.{IsStrictlySortedBy}
use Rattle.std.specs.Option.{is_some}
use Rattle.std.specs.Str.{bytes_eq}
use Rattle.indexmap.specs.IndexSet.{insert_key}
use Rattle.lib_types.proofs.Bools.{not_true}
use Rattle.lib_types.proofs.SortedPairs.{by_test}
use Rattle.image_tree.proofs.Above.{path_of_found}
use Rattle.image_tree.proofs.OneMore.{put_other}
use Rattle.image_tree.specs.Paths.{is_path}
use Rattle.image_tree.specs.Tree as tree
use Rattle.image_tree.specs.Tree.{Nodes, clashes, node_at}
use Rattle.image_tree.specs.declared.node.Node.{Node}
use Rattle.root_folder.specs.Folder.{FolderContent}
use Rattle.root_folder.specs.Whole.{IsWhole}
use Rattle.tree_face.specs.Known.{IfKnown}
use Rattle.seen_tree.proofs.WithNode.{no_clash, others_seen, part_with, seen_here}
use Rattle.seen_tree.specs.Part.{AreSeen, IsPart, IsSeen, KeepsNodes}
use Rattle.seen_tree.specs.Seen.{HasSeen, IsSeenOf, Seen, are_looked, is_looked, seen, with_found, with_path, with_paths, with_dirs}
use Rattle.lib_types.proofs.SameTexts.{itself}
use Rattle.std.proofs.lemmas.List.Sums.{fold-append}

-- ---- the paths that were looked up

key_in : (q : List ℕ) (looked : List (List ℕ)) → list_any (bytes_eq q) (insert_key bytes_eq looked q) ≡ true
key_in q looked = by_test (list_any (bytes_eq q) looked)
    (λ e. rw e e)
    (λ e. rw e (list_any-append (bytes_eq q) looked (q ∷ []) ∙ ap (λ b. list_any (bytes_eq q) looked || (b || false)) (itself q) ∙ or-true (list_any (bytes_eq q) looked)))

still_in : (p q : List ℕ) (looked : List (List ℕ)) → list_any (bytes_eq p) looked ≡ true → list_any (bytes_eq p) (insert_key bytes_eq looked q) ≡ true
still_in p q looked h = by_test (list_any (bytes_eq q) looked)
    (λ e. rw e h)
    (λ e. rw e (list_any-append (bytes_eq p) looked (q ∷ []) ∙ ap (λ b. b || (bytes_eq p q || false)) h))

path_looked : (q : List ℕ) (looked : List (List ℕ)) → is_looked (with_path looked q) q ≡ true
path_looked q looked = by_test (is_path q)
    (λ e. rw e (key_in q looked))
    (λ e. rw e refl)

path_still : (p q : List ℕ) (looked : List (List ℕ)) → is_looked looked p ≡ true → is_looked (with_path looked q) p ≡ true
path_still p q looked h = by_test (is_path p)
    (λ e. ap (λ b. not b || list_any (bytes_eq p) (with_path looked q)) e ∙ by (sym (ap (λ b. not b || list_any (bytes_eq p) looked) e) ∙ h))
    (λ e. ap (λ b. not b || list_any (bytes_eq p) (with_path looked q)) e)
  where
    by : list_any (bytes_eq p) looked ≡ true → list_any (bytes_eq p) (with_path looked q) ≡ true
    by there = by_test (is_path q) (λ e. rw e (still_in p q looked there)) (λ e. rw e there)

-- a path that was looked up stays in the list
pub still_looked : (p : List ℕ) (looked paths : List (List ℕ)) → is_looked looked p ≡ true → is_looked (with_paths looked paths) p ≡ true
still_looked p looked [] h = h
still_looked p looked (q ∷ paths) h = still_looked p (with_path looked q) paths (path_still p q looked h)

pub all_still : (looked paths asked : List (List ℕ)) → are_looked looked asked ≡ true → are_looked (with_paths looked paths) asked ≡ true
all_still looked paths [] h = refl
all_still looked paths (p ∷ asked) h =
    let parts = and_parts (is_looked looked p) (are_looked looked asked) h in
    and_from _ _ (still_looked p looked paths parts.0) (all_still looked paths asked parts.1)

-- the paths that are added are in the list
pub all_looked : (looked paths : List (List ℕ)) → are_looked (with_paths looked paths) paths ≡ true
all_looked looked [] = refl
all_looked looked (p ∷ paths) = and_from _ _ (still_looked p (with_path looked p) paths (path_looked p looked)) (all_looked (with_path looked p) paths)

-- ---- the part of the tree that was seen

module _ (t : Nodes) (s : Seen) (is : IsSeenOf t s) where
  -- a text that isn't a valid path has no node
  not_found : (q : List ℕ) → is_path q ≡ false → IsSeen t s.part q
  not_found q h = by (node_at s.part q) refl (node_at t q) refl
    where
      by : (o : Option Node) → node_at s.part q ≡ o → (r : Option Node) → node_at t q ≡ r → node_at s.part q ≡ node_at t q
      by None e None f = e ∙ sym f
      by (Some n) e r f = absurd (false≢true (sym h ∙ path_of_found s.part q (Some n) is.part.entries e refl))
      by None e (Some n) f = absurd (false≢true (sym h ∙ path_of_found t q (Some n) is.whole.entries f refl))

  seen_in : (q : List ℕ) (looked : List (List ℕ)) → AreSeen t s.part looked → list_any (bytes_eq q) looked ≡ true → IsSeen t s.part q
  seen_in q [] all h = absurd (cc)
  seen_in q (x ∷ looked) all h = by_test (bytes_eq q x)
      (λ e. subst (IsSeen t s.part) (sym ((bytes_eq-Decides q x).0 e)) all.0)
      (λ e. seen_in q looked all.1 (sym (ap (λ b. b || list_any (bytes_eq q) looked) e) ∙ h))

  pub looked_seen : (q : List ℕ) → is_looked s.looked q ≡ true → IsSeen t s.part q
  looked_seen q h = by_test (is_path q)
      (λ e. seen_in q s.looked is.nodes (sym (ap (λ b. not b || list_any (bytes_eq q) s.looked) e) ∙ h))
      (λ e. not_found q e)

  -- at the paths that were looked up, the part agrees with the tree
  pub are_seen : (paths : List (List ℕ)) → are_looked s.looked paths ≡ true → AreSeen t s.part paths
  are_seen [] h = tt
  are_seen (q ∷ paths) h =
      let parts = and_parts (is_looked s.looked q) (are_looked s.looked paths) h in
      (looked_seen q parts.0, are_seen paths parts.1)

-- after a call, the part agrees with the tree at the call's paths
pub now_seen : (t : Nodes) (old new : Seen) (paths : List (List ℕ)) → HasSeen t old new paths → AreSeen t new.part paths
now_seen t old new paths has = are_seen t new has.known paths (ap (λ l. are_looked l paths) has.looked ∙ all_looked old.looked paths)

-- after a call, the part still agrees with the tree at the paths that were looked up before
pub still_seen : (t : Nodes) (old new : Seen) (paths asked : List (List ℕ)) → HasSeen t old new paths → are_looked old.looked asked ≡ true → AreSeen t new.part asked
still_seen t old new paths asked has h = are_seen t new has.known asked (ap (λ l. are_looked l asked) has.looked ∙ all_still old.looked paths asked h)

-- an empty part is a part of each tree
pub nothing_seen : (t : Nodes) → IsWhole t → IsSeenOf t (seen [] [])
unfolding IsStrictlySortedBy
nothing_seen t whole = record { whole = whole; part = record { sorted = tt; entries = refl; nodes = λ q n e. absurd (cc) }; nodes = tt }

-- ---- one path

-- a text that isn't a valid path
pub no_path : (known : Option FolderContent) (part : Nodes) (looked : List (List ℕ)) (q : List ℕ) → is_path q ≡ false
    → IfKnown known (λ c. IsSeenOf c.now (seen part looked) → HasSeen c.now (seen part looked) (seen part looked) (q ∷ []))
no_path None part looked q h = tt
no_path (Some c) part looked q h = λ is. record { known = is; looked = sym (ap (λ b. cond b (insert_key bytes_eq looked q) looked) h) }

-- a path that was looked up before
pub was_seen : (known : Option FolderContent) (part : Nodes) (looked : List (List ℕ)) (q : List ℕ) → list_any (bytes_eq q) looked ≡ true
    → IfKnown known (λ c. IsSeenOf c.now (seen part looked) → HasSeen c.now (seen part looked) (seen part looked) (q ∷ []))
was_seen None part looked q h = tt
was_seen (Some c) part looked q h = λ is. record { known = is; looked = by (is_path q) }
  where
    by : (b : Bool) → looked ≡ cond b (insert_key bytes_eq looked q) looked
    by true = sym (ap (λ b. cond b looked (looked ++ q ∷ [])) h)
    by false = refl

module _ (t : Nodes) (whole : IsWhole t) (part : Nodes) (is : IsPart t part) (q : List ℕ) where
  record IsMore (new : Nodes) : Type 0 where
    one : IsPart t new
    here : IsSeen t new q
    others : (z : List ℕ) → IsSeen t part z → IsSeen t new z

  more : (found : Option Node) → found ≡ node_at t q → IsMore (with_found part q found)
  more None e = record { one = is; here = by (node_at part q) refl; others = λ z s. s }
    where
      by : (o : Option Node) → node_at part q ≡ o → IsSeen t part q
      by None f = f ∙ e
      by (Some n) f = let z : None ≡ Some n = e ∙ is.nodes q n f in absurd (cc)
  more (Some n) e = by_test (is_some (node_at part q))
      (λ h. subst IsMore (sym (ap (λ b. cond (b || clashes part q n) part (tree.put part q n)) h)) (record { one = is; here = there (node_at part q) refl h; others = λ z s. s }))
      (λ h.
      let at = sym e in
      subst IsMore (sym (ap (λ b. cond (b || clashes part q n) part (tree.put part q n)) h ∙ ap (λ b. cond b part (tree.put part q n)) (no_clash t part is q n at whole)))
      (record { one = part_with t part is q n at whole; here = seen_here t part is q n at; others = others_seen t part is q n at }))
    where
      there : (o : Option Node) → node_at part q ≡ o → is_some o ≡ true → IsSeen t part q
      there None f h = absurd (false≢true h)
      there (Some m) f h = f ∙ sym (is.nodes q m f)

-- each node stays when another is added
pub nodes_stay : (part : Nodes) (q : List ℕ) (found : Option Node) → KeepsNodes part (with_found part q found)
nodes_stay part q None = λ z m e. e
nodes_stay part q (Some n) = λ z m e. by_test (is_some (node_at part q) || clashes part q n)
    (λ h. subst (λ b. node_at (cond b part (tree.put part q n)) z ≡ Some m) (sym h) e)
    (λ h. subst (λ b. node_at (cond b part (tree.put part q n)) z ≡ Some m) (sym h)
    (by_test (bytes_eq z q)
    (λ s. absurd (is_there m (node_at part q) (ap (node_at part) (sym ((bytes_eq-Decides z q).0 s)) ∙ e) (or_parts (is_some (node_at part q)) (clashes part q n) h).0))
    (λ s. put_other q n z s part ∙ e)))
  where
    is_there : (m : Node) (o : Option Node) → o ≡ Some m → is_some o ≡ false → ⊥
    is_there m o f h = false≢true (sym h ∙ ap is_some f)

each_still : (t part new : Nodes) (looked : List (List ℕ)) → ((z : List ℕ) → IsSeen t part z → IsSeen t new z) → AreSeen t part looked → AreSeen t new looked
each_still t part new [] f all = tt
each_still t part new (q ∷ looked) f all = (f q all.0, each_still t part new looked f all.1)

at_end : (t part : Nodes) (q : List ℕ) (looked : List (List ℕ)) → AreSeen t part looked → IsSeen t part q → AreSeen t part (looked ++ q ∷ [])
at_end t part q [] all h = (h, tt)
at_end t part q (x ∷ looked) all h = (all.0, at_end t part q looked all.1 h)

with_key : (t part : Nodes) (q : List ℕ) (looked : List (List ℕ)) → AreSeen t part looked → IsSeen t part q → AreSeen t part (insert_key bytes_eq looked q)
with_key t part q looked all h = by_test (list_any (bytes_eq q) looked) (λ e. rw e all) (λ e. rw e (at_end t part q looked all h))

-- a path is looked up
pub path_seen : (known : Option FolderContent) (part new : Nodes) (looked after : List (List ℕ)) (q : List ℕ) (found : Option Node)
    → IfKnown known (λ c. found ≡ node_at c.now q) → is_path q ≡ true → new ≡ with_found part q found → after ≡ insert_key bytes_eq looked q
    → IfKnown known (λ c. IsSeenOf c.now (seen part looked) → HasSeen c.now (seen part looked) (seen new after) (q ∷ []))
path_seen None part new looked after q found at proper is added = tt
path_seen (Some c) part new looked after q found at proper is added = λ known.
    let m = more c.now known.whole part known.part q found at in
    let nodes = with_key c.now (with_found part q found) q looked (each_still c.now part (with_found part q found) looked m.others known.nodes) m.here in
    record {
      known = record {
        whole = known.whole;
        part = subst (IsPart c.now) (sym is) m.one;
        nodes = subst (λ (l : List (List ℕ)). AreSeen c.now new l) (sym added) (subst (λ (p : Nodes). AreSeen c.now p (insert_key bytes_eq looked q)) (sym is) nodes);
      };
      looked = added ∙ sym (ap (λ b. cond b (insert_key bytes_eq looked q) looked) proper);
    }

-- ---- no room

pub full_by_paths : (most paths nodes : ℕ) → most ≤ paths → (most ≤ paths) ⊎ (most ≤ nodes)
full_by_paths most paths nodes h = inl h

pub full_by_nodes : (most paths nodes : ℕ) → most ≤ nodes → (most ≤ paths) ⊎ (most ≤ nodes)
full_by_nodes most paths nodes h = inr h

pub two_paths : (looked xs ys : List (List ℕ)) → with_paths looked (xs ++ ys) ≡ with_paths (with_paths looked xs) ys
two_paths looked xs ys = fold-append with_path looked xs ys

pub two_dirs : (dirs xs ys : List (List ℕ)) → with_dirs dirs (xs ++ ys) ≡ with_dirs (with_dirs dirs xs) ys
two_dirs dirs xs ys = fold-append (insert_key bytes_eq) dirs xs ys
