-- Directories are synced in order.
use Rattle.std.proofs.Common.{◌≡◌, inl, inr, ◌<◌, ◌+◌, ℕ, Bool, true, false, ◌||◌, List, [], ◌∷◌, ◌++◌, append_assoc, drop, slice_get, map, length, refl, ap, sym, subst, ◌∙◌, Option, Some, None, Result, Ok, Err}
use Rattle.std.proofs.lemmas.Bool.{false≢true, or_parts}
use Rattle.std.specs.List.{dedup}
use Rattle.std.specs.Result.{is_err}
use Rattle.std.specs.Str.{bytes_eq}
use Rattle.image_tree.specs.Tree.{Nodes, node_at}
use Rattle.lib_types.proofs.SortedPairs.{by_test}
use Rattle.lib_types.specs.declared.fault.Failed.{Failed}
use Rattle.path_walk.specs.Names.{parent}
use Rattle.root_folder.proofs.Crash.{leaves_on, settling_leaves}
use Rattle.root_folder.specs.Crash.{HasMoments, Leaves, Settles}
use Rattle.root_folder.specs.Folder.{Does, FolderContent, FolderState, KeepsContent, SettlesIn}
use Rattle.root_folder.specs.Found.{Found, found_eq}
use Rattle.root_folder.specs.Whole.{is_in}
use Rattle.root_folder.specs.declared.folder.FolderCall.{FolderCall}
use Rattle.root_folder.specs.declared.folder.FolderCounts.{FolderCounts}
use Rattle.root_links.proofs.Lists.{drop_next, in_either, last_stays, others_go}
use Rattle.root_links.proofs.Step.{readings_on}
use Rattle.root_links.specs.Links.{IsOfLinks, KeepsReadings, Linking, dirs_of, settling}
use Rattle.root_links.specs.Steps.{FailsToSettle, HasSettled, HasSettledFirst, MayHaveSettled, is_in_one, is_last_of}
use Rattle.root_links.specs.declared.fault.LinkFault.TheVariants as faults
use Rattle.tree_face.proofs.Follows.{follow, follow_part, part_of}
use Rattle.tree_face.proofs.Known.{relates_on}
use Rattle.tree_face.specs.Follows.{IsFollowedBy, IsFollowedByPart}
use Rattle.tree_face.specs.Known.{IfKnown, Relates}

map_next : (xs : List (List ℕ)) (d : List ℕ) → map settling (xs ++ d ∷ []) ≡ map settling xs ++ settling d ∷ []
map_next [] d = refl
map_next (x ∷ xs) d = ap (λ z. settling x ∷ z) (map_next xs d)

map_both : (xs ys : List (List ℕ)) → map settling (xs ++ ys) ≡ map settling xs ++ map settling ys
map_both [] ys = refl
map_both (x ∷ xs) ys = ap (λ z. settling x ∷ z) (map_both xs ys)

-- ---- no directory so far

same : (c : Option FolderContent) → Relates (HasSettled []) c c
same None = tt
same (Some c) = record { now = refl; inside = λ p h. absurd (false≢true h); others = λ p h. refl }

nothing_durable : (s : FolderState) (c : Option FolderContent) → IfKnown c (λ c. (p : List ℕ) (x : Found) → is_in_one [] p ≡ true → s.may p x ≡ found_eq (node_at c.now p) x)
nothing_durable s None = tt
nothing_durable s (Some c) = λ p x h. absurd (false≢true h)

-- ---- one more directory

module _ (all : List (List ℕ)) (d : List ℕ) (left : List (List ℕ)) (a b c : FolderState) (laws : HasMoments b) (so_far : HasSettledFirst all (d ∷ left) a b) where
  abbrev first : List (List ℕ)
  first = so_far.first

  abbrev IsDone : Result (Unit {0}) Failed → Type 0
  IsDone r = Does (settling d) (SettlesIn d) KeepsContent b c r

  in_first_or : (p : List ℕ) → is_in_one (first ++ d ∷ []) p ≡ (is_in_one first p || (bytes_eq (parent p) d || false))
  in_first_or p = in_either (parent p) first (d ∷ [])

  more : (x y z : FolderContent) → HasSettled first x y → SettlesIn d y z → HasSettled (first ++ d ∷ []) x z
  more x y z settled next = record {
    now = next.now ∙ settled.now;
    inside = λ p h. by_test (bytes_eq (parent p) d)
        (λ e. next.inside p e ∙ ap (λ (t : Nodes). node_at t p) (sym next.now))
        (λ e.
        let before : is_in_one first p ≡ true = by_first (is_in_one first p) (bytes_eq (parent p) d) e (sym (in_first_or p) ∙ h) in
        next.others p e ∙ settled.inside p before ∙ ap (λ (t : Nodes). node_at t p) (sym next.now));
    others = λ p h.
        let parts = or_parts (is_in_one first p) (bytes_eq (parent p) d || false) (sym (in_first_or p) ∙ h) in
        next.others p (or_parts (bytes_eq (parent p) d) false parts.1).0 ∙ settled.others p parts.0;
  }
    where
      by_first : (m n : Bool) → n ≡ false → (m || (n || false)) ≡ true → m ≡ true
      by_first true n e h = refl
      by_first false n e h = absurd (false≢true (sym (ap (λ k. k || false) e) ∙ h))

  counts : {r : Result (Unit {0}) Failed} → IsDone r → KeepsReadings b c
  counts does = record { lists = ap (λ (k : FolderCounts). k.lists) does.counts; looks = ap (λ (k : FolderCounts). k.looks) does.counts; read_faults = does.read_faults }

  leaves : (r : Result (Unit {0}) Failed) → Settles d b c r → Leaves (IsOfLinks []) a c
  leaves r crash = leaves_on (IsOfLinks []) a b c so_far.made.leaves (settling_leaves (IsOfLinks []) b c d laws r crash)

  abbrev IsDurable : FolderState → List (List ℕ) → FolderContent → Type 0
  IsDurable s dirs k = (p : List ℕ) (x : Found) → is_in_one dirs p ≡ true → s.may p x ≡ found_eq (node_at k.now p) x

  durable : (y z : Option FolderContent) → Relates (SettlesIn d) y z → Settles d b c (Ok tt)
      → IfKnown y (λ k. (p : List ℕ) (x : Found) → is_in d p ≡ true → c.may p x ≡ found_eq (node_at k.now p) x) → IfKnown y (IsDurable b first) → IfKnown z (IsDurable c (first ++ d ∷ []))
  durable y None settled crash here before = tt
  durable None (Some z) settled crash here before = absurd settled
  durable (Some y) (Some z) settled crash here before = λ p x h. by_test (bytes_eq (parent p) d)
      (λ e. here p x e ∙ ap (λ (t : Nodes). found_eq (node_at t p) x) (sym settled.now))
      (λ e.
      let in_first : is_in_one first p ≡ true = by_first (is_in_one first p) (bytes_eq (parent p) d) e (sym (in_first_or p) ∙ h) in
      (crash.others p e).now x ∙ before p x in_first ∙ ap (λ (t : Nodes). found_eq (node_at t p) x) (sym settled.now))
    where
      by_first : (m n : Bool) → n ≡ false → (m || (n || false)) ≡ true → m ≡ true
      by_first true n e h = refl
      by_first false n e h = absurd (false≢true (sym (ap (λ k. k || false) e) ∙ h))

  pub settled_on : IsDone (Ok tt) → Settles d b c (Ok tt) → HasSettledFirst all left a c
  settled_on does crash = record {
    first = first ++ d ∷ [];
    parts = so_far.parts ∙ sym (append_assoc first (d ∷ []) left);
    made = record {
      contents = relates_on (HasSettled first) (SettlesIn d) (HasSettled (first ++ d ∷ [])) more a.contents b.contents c.contents so_far.made.contents does.done;
      calls = subst (λ (k : List FolderCall). Relates (IsFollowedBy k) a.calls c.calls) (sym (map_next first d))
          (relates_on _ _ _ (follow (map settling first) (settling d ∷ [])) a.calls b.calls c.calls so_far.made.calls does.added);
      leaves = leaves (Ok tt) crash;
      durable = durable b.contents c.contents does.done crash crash.done so_far.made.durable;
      readings = readings_on a b c so_far.made.readings (counts does);
      faults = does.no_fault ∙ so_far.made.faults;
    };
  }

  may_more : (x y z : FolderContent) → HasSettled first x y → KeepsContent y z → MayHaveSettled x z
  may_more x y z settled keeps = record {
    now = keeps.now ∙ settled.now;
    settled = λ p. by_test (is_in_one first p)
        (λ e. inr (keeps.settled p ∙ settled.inside p e ∙ ap (λ (t : Nodes). node_at t p) (sym keeps.now)))
        (λ e. inl (keeps.settled p ∙ settled.others p e));
  }

  pub settling_fails : (links : List Linking) (number : ℕ) (e : Failed) → all ≡ dirs_of links → number < length links → IsDone (Err e) → Settles d b c (Err e)
      → FailsToSettle links (faults.Settle number) a c
  settling_fails links number e is less does crash = record {
    fault_is = less;
    contents = relates_on (HasSettled first) KeepsContent MayHaveSettled may_more a.contents b.contents c.contents so_far.made.contents does.failed;
    calls = relates_on _ _ _ calls_before a.calls b.calls c.calls so_far.made.calls does.may_add;
    leaves = leaves (Err e) crash;
    readings = readings_on a b c so_far.made.readings (counts does);
    faults = rw (← so_far.made.faults) does.cause;
  }
    where
      whole : (map settling first ++ settling d ∷ []) ++ map settling left ≡ map settling (dirs_of links)
      whole = append_assoc (map settling first) (settling d ∷ []) (map settling left) ∙ sym (map_both first (d ∷ left)) ∙ ap (map settling) (sym so_far.parts ∙ is)

      calls_before : (x y z : List FolderCall) → IsFollowedBy (map settling first) x y → IsFollowedByPart (settling d ∷ []) y z → IsFollowedByPart (map settling (dirs_of links)) x z
      calls_before x y z before last =
          subst (λ (k : List FolderCall). IsFollowedByPart k x z) whole
          (part_of (map settling first ++ settling d ∷ []) (map settling left) x z (follow_part (map settling first) (settling d ∷ []) x y z before last))

  pub dir_settled : (r : Result (Unit {0}) Failed) → is_err r ≡ false → IsDone r → Settles d b c r → HasSettledFirst all left a c
  dir_settled (Ok x) e does crash = settled_on does crash
  dir_settled (Err x) e does crash = absurd (cc)

  pub dir_fails : (links : List Linking) (number : ℕ) (r : Result (Unit {0}) Failed) → is_err r ≡ true → all ≡ dirs_of links → number < length links → IsDone r → Settles d b c r
      → FailsToSettle links (faults.Settle number) a c
  dir_fails links number (Ok x) e is less does crash = absurd (cc)
  dir_fails links number (Err x) e is less does crash = settling_fails links number x is less does crash

-- ---- the next of the remaining directories

module _ (all dirs : List (List ℕ)) (i : ℕ) (dir : List ℕ) (at : slice_get dirs i ≡ Some dir) (a b : FolderState) (so_far : HasSettledFirst all (dedup bytes_eq (drop i dirs)) a b) where
  pub next_is : is_last_of (drop i dirs) ≡ true → HasSettledFirst all (dir ∷ dedup bytes_eq (drop (i + 1) dirs)) a b
  next_is last = subst (λ (l : List (List ℕ)). HasSettledFirst all l a b)
      (ap (dedup bytes_eq) (drop_next dirs i dir at) ∙ last_stays dir (drop (i + 1) dirs) (sym (ap is_last_of (drop_next dirs i dir at)) ∙ last)) so_far

  pub next_later : is_last_of (drop i dirs) ≡ false → HasSettledFirst all (dedup bytes_eq (drop (i + 1) dirs)) a b
  next_later other = subst (λ (l : List (List ℕ)). HasSettledFirst all l a b)
      (ap (dedup bytes_eq) (drop_next dirs i dir at) ∙ others_go dir (drop (i + 1) dirs) (sym (ap is_last_of (drop_next dirs i dir at)) ∙ other)) so_far
