-- How the writing calls of an in-memory directory change what a crash may leave.
use Rattle.std.proofs.Common.{◌≡◌, ◌≤◌, ◌+◌, ◌||◌, ◌&&◌, ◌++◌, not, nat_le, ℕ, Bool, true, false, cond, List, [], ◌∷◌, length, reverse, refl, sym, ap, subst, ◌∙◌, arith, Option, Some, None, Result, Ok, Err, MatchResult, OnErr, OnOk, inl, inr}
use Rattle.std.specs.Result.{is_err}
use Rattle.std.proofs.lemmas.Bool.{and_parts, false≢true}
use Rattle.std.proofs.lemmas.Bool.Decides.{nat_tests}
use Rattle.std.proofs.lemmas.List.{reverse-append}
use Rattle.std.proofs.lemmas.Slice.Eq.{bytes_eq-Decides}
use Rattle.std.specs.Option.{option_eq}
use Rattle.std.specs.Str.{bytes_eq}
use Rattle.lib_types.proofs.SortedPairs.{by_test}
use Rattle.lib_types.specs.declared.fault.Failed.{Failed}
use Rattle.lib_types.specs.declared.fault.NoMemory.{NoMemory}
use Rattle.image_tree.specs.Tree.{Nodes, node_at}
use Rattle.image_tree.specs.declared.node.Id.{Id}
use Rattle.image_tree.specs.declared.node.Node.{Node}
use Rattle.image_tree.specs.declared.node.Node.TheVariants.{Dir, File, Link}
use Rattle.tree_face.proofs.Past.{absorbed, or_in}
use Rattle.image_tree.proofs.OneMore.{put_here, put_other}
use Rattle.root_folder.specs.Crash.{AddsLink, GoesOn, LeavesMore, LeavesSame, Settles, is_link_to}
use Rattle.root_folder.specs.Folder.{KeepsContent, Links, MayLink}
use Rattle.root_folder.specs.Found.{Found, found_eq, id_eq, node_eq}
use Rattle.root_folder.specs.MemFolder.{IsLinked, IsSettledIn, IsUnchanged, content_of, folder_state, held_of, left_by, once_left_by, settled_by}
use Rattle.root_folder.specs.Past.{found_before, is_settled_by, left_in, once_left_in, settled_in}
use Rattle.root_folder.specs.PastLaws.{from_earlier, left_now, one_moment}
use Rattle.root_folder.specs.Whole.{is_in}
use Rattle.root_folder.specs.declared.memory.folders.MemFolder.{MemFolder}
use Rattle.root_folder.specs.declared.memory.past.Change.{Change}
use Rattle.root_folder.specs.declared.memory.past.Change.TheVariants.{Linked, Settled}

-- ---- nodes that compare equal are equal

same_id : (a b : Id) → id_eq a b ≡ true → a ≡ b
same_id a b e =
    let dev : a.dev ≡ b.dev = grind (arith, nat_tests) in
    let inode : a.inode ≡ b.inode = grind (arith, nat_tests) in
    let ctime : a.ctime ≡ b.ctime = grind (arith, nat_tests) in
    let size : a.size ≡ b.size = grind (arith, nat_tests) in
    ap (λ n. record a { dev = n }) dev ∙ ap (λ n. record b { inode = n; ctime = a.ctime; size = a.size }) inode
    ∙ ap (λ n. record b { ctime = n; size = a.size }) ctime ∙ ap (λ n. record b { size = n }) size

same_ids : (a b : Option Id) → option_eq id_eq a b ≡ true → a ≡ b
same_ids None None e = refl
same_ids None (Some b) e = absurd (false≢true e)
same_ids (Some a) None e = absurd (false≢true e)
same_ids (Some a) (Some b) e = ap (λ (id : Id). Some id) (same_id a b e)

same_node : (a b : Node) → node_eq a b ≡ true → a ≡ b
same_node Dir Dir e = refl
same_node Dir (File key id) e = absurd (false≢true e)
same_node Dir (Link target) e = absurd (false≢true e)
same_node (File key id) Dir e = absurd (false≢true e)
same_node (File key id) (File other its) e =
    let parts = and_parts (bytes_eq key other) (option_eq id_eq id its) e in
    ap (λ (k : List ℕ). File k id) ((bytes_eq-Decides key other).0 parts.0) ∙ ap (λ (i : Option Id). File other i) (same_ids id its parts.1)
same_node (File key id) (Link target) e = absurd (false≢true e)
same_node (Link target) Dir e = absurd (false≢true e)
same_node (Link target) (File key id) e = absurd (false≢true e)
same_node (Link target) (Link other) e = ap (λ (l : List ℕ). Link l) ((bytes_eq-Decides target other).0 e)

pub found_is : (a b : Found) → found_eq a b ≡ true → a ≡ b
found_is None None e = refl
found_is None (Some b) e = absurd (false≢true e)
found_is (Some a) None e = absurd (false≢true e)
found_is (Some a) (Some b) e = ap (λ (n : Node). Some n) (same_node a b e)

-- ---- one path, and one more change

turned_or : (a b : Bool) → (a || b) ≡ (b || a)
turned_or true true = refl
turned_or true false = refl
turned_or false true = refl
turned_or false false = refl

or_both : (s m n : Bool) → (m ≡ true → s ≡ true) → (s || n) ≡ (s || (m || n))
or_both true m n f = refl
or_both false true n f = absurd (false≢true (f refl))
or_both false false n f = refl

module _ (p : List ℕ) (x : Found) where
  -- a crash may leave what is there, and this is part of what a crash since an earlier moment might have left
  there_left : (now : Found) (cs : List Change) → found_eq now x ≡ true → left_in p now cs x ≡ true
  there_left now cs e = subst (λ (f : Found). left_in p now cs f ≡ true) (found_is now x e) (left_now p now cs)

  left_once : (t : ℕ) (now : Found) (cs : List Change) → t ≤ length cs → left_in p now cs x ≡ true → once_left_in t p now cs x ≡ true
  left_once t now cs le e = from_earlier p x t (length cs) now cs le (one_moment p x now cs ∙ e)

  module _ (was now : Found) (cs : List Change) (c : Change) (before : found_before p now c ≡ was) where
    pub once_more : (t : ℕ) → t ≤ length cs → once_left_in t p now (c ∷ cs) x ≡ (once_left_in t p was cs x || left_in p now (c ∷ cs) x)
    once_more t le =
        let yes : nat_le t (length (c ∷ cs)) ≡ true = grind (arith, nat_tests) in
        ap (λ b. (b && left_in p now (c ∷ cs) x) || once_left_in t p (found_before p now c) cs x) yes
        ∙ ap (λ f. left_in p now (c ∷ cs) x || once_left_in t p f cs x) before
        ∙ turned_or (left_in p now (c ∷ cs) x) (once_left_in t p was cs x)

    pub moments_more : (t : ℕ) → t ≤ length cs → once_left_in t p now (c ∷ cs) x ≡ (once_left_in t p was cs x || once_left_in (length cs) p now (c ∷ cs) x)
    moments_more t le =
        once_more t le
        ∙ or_both (once_left_in t p was cs x) (left_in p was cs x) (left_in p now (c ∷ cs) x) (left_once t was cs le)
        ∙ ap (λ b. once_left_in t p was cs x || (b || left_in p now (c ∷ cs) x)) (sym (one_moment p x was cs))
        ∙ ap (λ b. once_left_in t p was cs x || b) (sym (once_more (length cs) (omega arith)))

    -- the change adds nothing that a crash couldn't have left before
    pub once_same : (t : ℕ) → t ≤ length cs → (left_in p now (c ∷ cs) x ≡ true → left_in p was cs x ≡ true) → once_left_in t p now (c ∷ cs) x ≡ once_left_in t p was cs x
    once_same t le f = once_more t le ∙ absorbed _ _ (λ e. left_once t was cs le (f e))

    -- a change that isn't an fsync of the path's directory
    pub left_more : is_settled_by p c ≡ false → left_in p now (c ∷ cs) x ≡ (left_in p was cs x || found_eq now x)
    left_more other =
        ap (λ b. found_eq now x || (not b && left_in p (found_before p now c) cs x)) other
        ∙ ap (λ f. found_eq now x || left_in p f cs x) before
        ∙ turned_or (found_eq now x) (left_in p was cs x)

    pub once_left_more : is_settled_by p c ≡ false → (t : ℕ) → t ≤ length cs → once_left_in t p now (c ∷ cs) x ≡ (once_left_in t p was cs x || found_eq now x)
    once_left_more other t le =
        once_more t le ∙ ap (λ b. once_left_in t p was cs x || b) (left_more other)
        ∙ or_in (once_left_in t p was cs x) (left_in p was cs x) (found_eq now x) (left_once t was cs le)

    -- .. and keeps what is at the path
    pub left_same : is_settled_by p c ≡ false → now ≡ was → left_in p now (c ∷ cs) x ≡ left_in p was cs x
    left_same other same = left_more other ∙ absorbed _ _ (λ e. there_left was cs (sym (ap (λ f. found_eq f x) same) ∙ e))

    -- an fsync of the path's directory
    pub left_alone : is_settled_by p c ≡ true → left_in p now (c ∷ cs) x ≡ found_eq now x
    left_alone here = ap (λ b. found_eq now x || (not b && left_in p (found_before p now c) cs x)) here ∙ or_none (found_eq now x)
      where
        or_none : (a : Bool) → (a || false) ≡ a
        or_none true = refl
        or_none false = refl

-- ---- the whole directory

one_longer : (cs : List Change) (c : Change) (ds : List Change) → ds ≡ c ∷ cs → length ds ≡ length cs + 1
one_longer cs c ds e = let same : length ds ≡ length (c ∷ cs) = ap length e in omega (arith, same)

module _ (a b : MemFolder) where
  abbrev was : List ℕ → Found
  was p = node_at a.tree.tree p

  abbrev now : List ℕ → Found
  now p = node_at b.tree.tree p

  abbrev first : List Change
  first = reverse a.changes.items

  abbrev then : List Change
  then = reverse b.changes.items

  -- the tree and the changes stay the same
  module _ (unchanged : IsUnchanged (held_of a) (held_of b)) where
    kept_log : then ≡ first
    kept_log = ap reverse unchanged.changes

    kept_left : (p : List ℕ) (x : Found) → left_by (held_of b) p x ≡ left_by (held_of a) p x
    kept_left p x = ap (λ (t : Nodes). left_in p (node_at t p) then x) unchanged.tree ∙ ap (λ l. left_in p (was p) l x) kept_log

    kept_once : (t : ℕ) (p : List ℕ) (x : Found) → once_left_by (held_of b) t p x ≡ once_left_by (held_of a) t p x
    kept_once t p x = ap (λ (n : Nodes). once_left_in t p (node_at n p) then x) unchanged.tree ∙ ap (λ l. once_left_in t p (was p) l x) kept_log

    kept_moments : GoesOn (folder_state a) (folder_state b)
    kept_moments = record {
      later = let same : length then ≡ length first = ap length kept_log in omega (arith, same);
      moments = λ t p x le.
          kept_once t p x
          ∙ sym (ap (λ y. once_left_by (held_of a) t p x || y) (kept_once (length first) p x)
          ∙ absorbed _ _ (λ e. from_earlier p x t (length first) (was p) first le e));
    }

    kept_path : (p : List ℕ) → LeavesSame p (folder_state a) (folder_state b)
    kept_path p = record { now = λ x. kept_left p x; during = λ t x le. kept_once t p x }

    pub kept_content : KeepsContent (content_of a) (content_of b)
    kept_content = record {
      now = unchanged.tree;
      settled = λ p. ap (λ (t : Nodes). settled_in p (node_at t p) then) unchanged.tree ∙ ap (λ l. settled_in p (was p) l) kept_log;
    }

  -- one more change
  module _ (c : Change) (more : b.changes.items ≡ a.changes.items ++ c ∷ []) (before : (p : List ℕ) → found_before p (now p) c ≡ was p) where
    longer : then ≡ c ∷ first
    longer = ap reverse more ∙ reverse-append a.changes.items (c ∷ [])

    once_longer : (t : ℕ) (p : List ℕ) (x : Found) → once_left_in t p (now p) then x ≡ once_left_in t p (now p) (c ∷ first) x
    once_longer t p x = ap (λ l. once_left_in t p (now p) l x) longer

    left_longer : (p : List ℕ) (x : Found) → left_in p (now p) then x ≡ left_in p (now p) (c ∷ first) x
    left_longer p x = ap (λ l. left_in p (now p) l x) longer

    goes_on : GoesOn (folder_state a) (folder_state b)
    goes_on = record {
      later = let size = one_longer first c then longer in omega (arith, size);
      moments = λ t p x le.
          once_longer t p x ∙ moments_more p x (was p) (now p) first c (before p) t le
          ∙ ap (λ y. once_left_in t p (was p) first x || y) (sym (once_longer (length first) p x));
    }

    same_path : (p : List ℕ) → is_settled_by p c ≡ false → now p ≡ was p → LeavesSame p (folder_state a) (folder_state b)
    same_path p other same = record {
      now = λ x. left_longer p x ∙ left_same p x (was p) (now p) first c (before p) other same;
      during = λ t x le.
          once_longer t p x
          ∙ once_same p x (was p) (now p) first c (before p) t le (λ e. sym (left_same p x (was p) (now p) first c (before p) other same) ∙ e);
    }

    more_path : (p : List ℕ) → is_settled_by p c ≡ false → LeavesMore (found_eq (now p)) p (folder_state a) (folder_state b)
    more_path p other = record {
      now = λ x. left_longer p x ∙ left_more p x (was p) (now p) first c (before p) other;
      during = λ t x le. once_longer t p x ∙ once_left_more p x (was p) (now p) first c (before p) other t le;
    }

    kept_settled : (p : List ℕ) → is_settled_by p c ≡ false → settled_by (held_of b) p ≡ settled_by (held_of a) p
    kept_settled p other =
        ap (λ l. settled_in p (now p) l) longer ∙ ap (λ d. cond d (now p) (settled_in p (found_before p (now p) c) first)) other
        ∙ ap (λ f. settled_in p f first) (before p)

-- ---- links

module _ (path target : List ℕ) (a b : MemFolder) where
  module _ (linked : IsLinked path target (held_of a) (held_of b)) where
    abbrev change : Change
    change = Linked path (node_at a.tree.tree path)

    here : node_at b.tree.tree path ≡ Some (Link target)
    here = ap (λ (t : Nodes). node_at t path) linked.tree ∙ put_here path (Link target) a.tree.tree

    elsewhere : (p : List ℕ) → bytes_eq p path ≡ false → node_at b.tree.tree p ≡ node_at a.tree.tree p
    elsewhere p other = ap (λ (t : Nodes). node_at t p) linked.tree ∙ put_other path (Link target) p other a.tree.tree

    unequal : (p q : List ℕ) → bytes_eq p q ≡ false → bytes_eq q p ≡ false
    unequal p q other = by_test (bytes_eq q p)
        (λ e. absurd (false≢true (sym other ∙ (bytes_eq-Decides p q).1 (sym ((bytes_eq-Decides q p).0 e)))))
        (λ e. e)

    before_link : (p : List ℕ) → found_before p (node_at b.tree.tree p) change ≡ node_at a.tree.tree p
    before_link p = by_test (bytes_eq path p)
        (λ e. ap (λ d. cond d (node_at a.tree.tree path) (node_at b.tree.tree p)) e ∙ ap (node_at a.tree.tree) ((bytes_eq-Decides path p).0 e))
        (λ e. ap (λ d. cond d (node_at a.tree.tree path) (node_at b.tree.tree p)) e ∙ elsewhere p (unequal path p e))

    links : Links path target (content_of a) (content_of b)
    links = record {
      room = linked.room;
      now = linked.tree;
      settled = λ p. kept_settled a b change linked.changes before_link p refl;
    }

    link_left : LeavesMore (is_link_to target) path (folder_state a) (folder_state b)
    link_left = subst (λ (f : Found). LeavesMore (found_eq f) path (folder_state a) (folder_state b)) here (more_path a b change linked.changes before_link path refl)

    adds : AddsLink path target (folder_state a) (folder_state b) (Ok tt)
    adds = record {
      goes_on = goes_on a b change linked.changes before_link;
      others = λ p other. same_path a b change linked.changes before_link p refl (elsewhere p other);
      done = link_left;
      failed = tt;
      refused = λ none. absurd (false≢true (sym none ∙ linked.room));
    }

  or_before : (x y : Bool) → x ≡ true → (x || y) ≡ true
  or_before true y e = refl
  or_before false y e = absurd (false≢true e)

  module _ (unchanged : IsUnchanged (held_of a) (held_of b)) where
    adds_nothing : (e : Failed) → AddsLink path target (folder_state a) (folder_state b) (Err e)
    adds_nothing e =
        let same = kept_path a b unchanged path in
        record {
          goes_on = kept_moments a b unchanged;
          others = λ p other. kept_path a b unchanged p;
          done = tt;
          failed = record {
            now = λ x may. or_before _ _ (sym (same.now x) ∙ may);
            during = λ t x le since. or_before _ _ (sym (same.during t x le) ∙ since);
          };
          refused = λ none. same;
        }

  abbrev Outcome : Result (Unit {0}) NoMemory → Type 0
  Outcome done = MatchResult done (λ _. IsLinked path target (held_of a) (held_of b)) (λ _. IsUnchanged (held_of a) (held_of b))

  pub adds_link : (done : Result (Unit {0}) NoMemory) (r : Result (Unit {0}) Failed) → is_err r ≡ is_err done → Outcome done → AddsLink path target (folder_state a) (folder_state b) r
  adds_link (Ok x) (Ok y) same linked = adds linked
  adds_link (Ok x) (Err y) same linked = absurd (false≢true (sym same))
  adds_link (Err x) (Ok y) same unchanged = absurd (false≢true same)
  adds_link (Err x) (Err y) same unchanged = adds_nothing unchanged y

  pub link_done : (done : Result (Unit {0}) NoMemory) (r : Result (Unit {0}) Failed) → is_err r ≡ is_err done → Outcome done → OnOk r (Links path target (content_of a) (content_of b))
  link_done (Ok x) (Ok y) same linked = links linked
  link_done (Ok x) (Err y) same linked = tt
  link_done (Err x) (Ok y) same unchanged = absurd (false≢true same)
  link_done (Err x) (Err y) same unchanged = tt

  pub link_failed : (done : Result (Unit {0}) NoMemory) (r : Result (Unit {0}) Failed) → is_err r ≡ is_err done → Outcome done → OnErr r (MayLink path target (content_of a) (content_of b))
  link_failed (Ok x) (Ok y) same linked = tt
  link_failed (Ok x) (Err y) same linked = inr (links linked)
  link_failed (Err x) (Ok y) same unchanged = tt
  link_failed (Err x) (Err y) same unchanged = inl (kept_content a b unchanged)

-- ---- fsyncs of a directory

module _ (dir : List ℕ) (a b : MemFolder) where
  module _ (settled : IsSettledIn dir (held_of a) (held_of b)) where
    abbrev flushing : Change
    flushing = Settled dir

    stays : (p : List ℕ) → node_at b.tree.tree p ≡ node_at a.tree.tree p
    stays p = ap (λ (t : Nodes). node_at t p) settled.tree

    alone : (p : List ℕ) (x : Found) → is_in dir p ≡ true → left_in p (node_at b.tree.tree p) (flushing ∷ reverse a.changes.items) x ≡ found_eq (node_at a.tree.tree p) x
    alone p x inside =
        left_alone p x (node_at a.tree.tree p) (node_at b.tree.tree p) (reverse a.changes.items) flushing (stays p) inside
        ∙ ap (λ f. found_eq f x) (stays p)

    settles_all : Settles dir (folder_state a) (folder_state b) (Ok tt)
    settles_all = record {
      goes_on = goes_on a b flushing settled.changes stays;
      others = λ p other. same_path a b flushing settled.changes stays p other (stays p);
      during = λ t p x le. by_test (is_in dir p)
          (λ inside.
          once_longer a b flushing settled.changes stays t p x
          ∙ once_same p x (node_at a.tree.tree p) (node_at b.tree.tree p) (reverse a.changes.items) flushing (stays p) t le
          (λ e. there_left p x (node_at a.tree.tree p) (reverse a.changes.items) (sym (alone p x inside) ∙ e)))
          (λ other. (same_path a b flushing settled.changes stays p other (stays p)).during t x le);
      done = λ p x inside. left_longer a b flushing settled.changes stays p x ∙ alone p x inside;
      failed = tt;
    }

  pub settles : (done : Result (Unit {0}) NoMemory) (r : Result (Unit {0}) Failed) → is_err r ≡ is_err done
      → MatchResult done (λ _. IsSettledIn dir (held_of a) (held_of b)) (λ _. IsUnchanged (held_of a) (held_of b)) → Settles dir (folder_state a) (folder_state b) r
  settles (Ok x) (Ok y) same settled = settles_all settled
  settles (Ok x) (Err y) same settled = absurd (false≢true (sym same))
  settles (Err x) (Ok y) same unchanged = absurd (false≢true same)
  settles (Err x) (Err y) same unchanged = record {
    goes_on = kept_moments a b unchanged;
    others = λ p other. kept_path a b unchanged p;
    during = λ t p x le. (kept_path a b unchanged p).during t x le;
    done = tt;
    failed = kept_path a b unchanged;
  }
