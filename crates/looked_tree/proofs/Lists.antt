-- A directory is listed once.
use Rattle.std.proofs.Common.{◌≡◌, ℕ, Bool, true, false, cond, ◌||◌, List, [], ◌∷◌, ◌++◌, filter, map, refl, ap, sym, subst, ◌∙◌, Some, Ok, append-nil}
use Rattle.std.proofs.lemmas.Bool.{or_parts}
use Rattle.std.proofs.lemmas.Slice.Eq.{bytes_eq-Decides}
use Rattle.std.specs.List.{dedup}
use Rattle.std.specs.Map.{keys_of, lookup}
use Rattle.std.specs.Option.{is_some}
use Rattle.std.specs.Prelude.{unwrap_or}
use Rattle.std.specs.Str.{bytes_eq}
use Rattle.indexmap.specs.IndexMap.{insert_entry}
use Rattle.lib_types.proofs.SortedPairs.{by_test}
use Rattle.image_tree.specs.Tree.{Nodes, children_of, kind_at, names_below, of_dir}
use Rattle.image_tree.specs.Paths.{join}
use Rattle.image_tree.specs.declared.tree.Kind.{Kind}
use Rattle.image_tree.specs.declared.tree.Kind.TheVariants as kinds
use Rattle.root_folder.specs.Folder.{FolderState, GivesNames, Reads}
use Rattle.root_folder.specs.declared.folder.FolderCall.TheVariants as calls
use Rattle.seen_tree.specs.Part.{dirs_at, if_dir, listed}
use Rattle.seen_tree.specs.Seen.{AreNamesOf, Lists, Seen}
use Rattle.tree_face.proofs.Known.{known_then}
use Rattle.tree_face.specs.Known.{IfKnown}
use Rattle.std.proofs.Math.Bool.{or-true}
use Rattle.looked_tree.proofs.Calls.{no_lists}
use Rattle.root_tree.proofs.Readings.{no_reading}
use Rattle.seen_tree.proofs.Calls.{raised_none}
use Rattle.looked_tree.proofs.Loads.{both, kind_looked, known_all, known_both, known_now, same_asked}
use Rattle.looked_tree.specs.Looked.{HasLooked, IsLookedOf, Loads, Looked, is_dir, is_listed, looked, names_at}

-- ---- the list of directories

-- a new directory is the last one
pub put_new : (lists : Lists) (dir : List ℕ) (names : List (List ℕ)) → is_listed lists dir ≡ false → insert_entry bytes_eq lists dir names ≡ lists ++ (dir, names) ∷ []
put_new [] dir names new = refl
put_new (e ∷ lists) dir names new =
    let parts = or_parts (bytes_eq dir e.0) (is_listed lists dir) new in
    ap (λ b. cond b ((e.0, names) ∷ lists) (e ∷ insert_entry bytes_eq lists dir names)) parts.0 ∙ ap (λ l. e ∷ l) (put_new lists dir names parts.1)

keys_put : (lists : Lists) (dir : List ℕ) (names : List (List ℕ)) → keys_of (lists ++ (dir, names) ∷ []) ≡ keys_of lists ++ dir ∷ []
keys_put [] dir names = refl
keys_put (e ∷ lists) dir names = ap (λ l. e.0 ∷ l) (keys_put lists dir names)

names_put : (t : Nodes) (lists : Lists) (dir : List ℕ) (names : List (List ℕ)) → AreNamesOf t lists → names ≡ children_of t dir → AreNamesOf t (lists ++ (dir, names) ∷ [])
names_put t [] dir names all here = (here, tt)
names_put t (e ∷ lists) dir names all here = (all.0, names_put t lists dir names all.1 here)

there_put : (lists : Lists) (dir : List ℕ) (names : List (List ℕ)) → is_listed (lists ++ (dir, names) ∷ []) dir ≡ true
there_put [] dir names = ap (λ b. b || false) ((bytes_eq-Decides dir dir).1 refl)
there_put (e ∷ lists) dir names = ap (λ b. bytes_eq dir e.0 || b) (there_put lists dir names) ∙ or-true (bytes_eq dir e.0)

pub found_listed : (lists : Lists) (dir : List ℕ) → is_some (lookup (bytes_eq dir) lists) ≡ is_listed lists dir
found_listed [] dir = refl
found_listed (e ∷ lists) dir = by_test (bytes_eq dir e.0)
    (λ h. rw h refl)
    (λ h. rw h (found_listed lists dir))

-- the names in a directory that was listed are those of the tree
pub names_there : (t : Nodes) (lists : Lists) (dir : List ℕ) → AreNamesOf t lists → is_listed lists dir ≡ true → names_at lists dir ≡ children_of t dir
names_there t [] dir all there = absurd (cc)
names_there t (e ∷ lists) dir all there = by_test (bytes_eq dir e.0)
    (λ h. ap (λ b. unwrap_or (cond b (Some e.1) (lookup (bytes_eq dir) lists)) []) h ∙ all.0 ∙ ap (children_of t) (sym ((bytes_eq-Decides dir e.0).0 h)))
    (λ h. ap (λ b. unwrap_or (cond b (Some e.1) (lookup (bytes_eq dir) lists)) []) h ∙ names_there t lists dir all.1 (sym (ap (λ b. b || is_listed lists dir) h) ∙ there))

-- ---- listing

-- a directory that was listed before
pub lists_again : (dir : List ℕ) (s : FolderState) (l : Looked) → is_listed l.lists dir ≡ true → Loads (λ t. []) (λ t. dir ∷ []) s s l l
lists_again dir s l there = record {
  looks = known_all s.contents (λ c. IsLookedOf c.now l → HasLooked c.now l l [] [] (dir ∷ []) [])
      (λ c is. record { known = is; looked = refl; listed = sym (ap (λ b. cond b (keys_of l.lists) (keys_of l.lists ++ dir ∷ [])) there) });
  calls = no_lists l.seen.looked (keys_of l.lists) s;
  kept = λ q n e. e;
  reads = no_reading s;
}

module _ (dir : List ℕ) (a b : FolderState) (s : Seen) (before after : Lists) (names : List (List ℕ)) (new : is_listed before dir ≡ false)
    (put : after ≡ insert_entry bytes_eq before dir names) where
  is_put : after ≡ before ++ (dir, names) ∷ []
  is_put = put ∙ put_new before dir names new

  keys : keys_of after ≡ keys_of before ++ dir ∷ []
  keys = ap keys_of is_put ∙ keys_put before dir names

  pub there_new : is_listed after dir ≡ true
  there_new = ap (λ l. is_listed l dir) is_put ∙ there_put before dir names

  pub lists_new : Reads {A = List (List ℕ)} (calls.Names dir) a b (Ok names) → GivesNames dir a (Ok names)
      → Loads (λ t. []) (λ t. dir ∷ []) a b (looked s before) (looked s after)
  lists_new reads gives = record {
    looks = known_then a.contents (λ c. names ≡ children_of c.now dir)
        (λ c. IsLookedOf c.now (looked s before) → HasLooked c.now (looked s before) (looked s after) [] [] (dir ∷ []) [])
        (λ c here is. record {
          known = record { seen = is.seen; names = subst (AreNamesOf c.now) (sym is_put) (names_put c.now before dir names is.names here) };
          looked = refl;
          listed = keys ∙ sym (ap (λ b. cond b (keys_of before) (keys_of before ++ dir ∷ [])) new);
        }) gives.names;
    calls = record {
      made = calls.Names dir ∷ [];
      looked = sym (append-nil s.looked);
      listed = keys;
      calls = record {
        calls = reads.added;
        looks = ap (λ c. c.looks) reads.counts ∙ raised_none a.counts.looks;
        lists = ap (λ c. c.lists) reads.counts;
      };
    };
    kept = λ q n e. e;
    reads = record {
      keeps = reads.keeps;
      made = record { links = ap (λ c. c.links) reads.counts; settles = ap (λ c. c.settles) reads.counts };
      no_fault = reads.no_fault;
    };
  }

-- ---- a directory and the names in it that pass a test

none_of : (k : Kind) (names : List (List ℕ)) → is_dir k ≡ false → of_dir k names ≡ []
none_of kinds.Dir names h = absurd (cc)
none_of kinds.Absent names h = refl
none_of kinds.File names h = refl
none_of kinds.Link names h = refl

not_listed : (k : Kind) (dir : List ℕ) → is_dir k ≡ false → if_dir k dir ≡ []
not_listed kinds.Dir dir h = absurd (cc)
not_listed kinds.Absent dir h = refl
not_listed kinds.File dir h = refl
not_listed kinds.Link dir h = refl

itself_listed : (k : Kind) (dir : List ℕ) → is_dir k ≡ true → if_dir k dir ≡ dir ∷ []
itself_listed kinds.Dir dir h = refl
itself_listed kinds.Absent dir h = absurd (cc)
itself_listed kinds.File dir h = absurd (cc)
itself_listed kinds.Link dir h = absurd (cc)

no_children : (t : Nodes) (dir : List ℕ) → is_dir (kind_at t dir) ≡ false → children_of t dir ≡ []
no_children t dir h = none_of (kind_at t dir) (dedup bytes_eq (names_below t dir)) h

module _ (test : List ℕ → Bool) (dir : List ℕ) (a b : FolderState) (x y : Looked) (first : Loads (λ t. dir ∷ []) (λ t. []) a b x y) where
  abbrev Listed : FolderState → FolderState → Looked → Looked → Type 0
  Listed a b x y = Loads (λ t. listed test t dir) (λ t. dirs_at t dir) a b x y

  -- what is known of the directory
  dir_known : (bit : Bool) → is_dir (kind_at y.seen.part dir) ≡ bit
      → IfKnown a.contents (λ k. IsLookedOf k.now x → IsLookedOf k.now y × (is_dir (kind_at k.now dir) ≡ bit))
  dir_known bit e = known_then a.contents (λ k. IsLookedOf k.now x → HasLooked k.now x y (dir ∷ []) [] [] [])
      (λ k. IsLookedOf k.now x → IsLookedOf k.now y × (is_dir (kind_at k.now dir) ≡ bit))
      (λ k has is. ((has is).known, ap is_dir (sym (kind_looked k.now x y dir [] (has is))) ∙ e)) first.looks

  -- the path isn't a directory
  pub list_none : is_dir (kind_at y.seen.part dir) ≡ false → Listed a b x y
  list_none e = same_asked (λ t. dir ∷ []) (λ t. []) (λ t. listed test t dir) (λ t. dirs_at t dir) a b x y first
      (known_then a.contents (λ k. IsLookedOf k.now x → IsLookedOf k.now y × (is_dir (kind_at k.now dir) ≡ false))
      (λ k. IsLookedOf k.now x → HasLooked k.now x y (dir ∷ []) [] [] [] → (listed test k.now dir ≡ dir ∷ []) × (dirs_at k.now dir ≡ []))
      (λ k g is has. (ap (λ names. dir ∷ map (join dir) (filter test names)) (no_children k.now dir (g is).1), not_listed (kind_at k.now dir) dir (g is).1))
      (dir_known false e))

  pub none_known : (names : List (List ℕ)) → is_dir (kind_at y.seen.part dir) ≡ false → names ≡ []
      → IfKnown a.contents (λ k. IsLookedOf k.now x → names ≡ filter test (children_of k.now dir))
  none_known names e none = known_then a.contents (λ k. IsLookedOf k.now x → IsLookedOf k.now y × (is_dir (kind_at k.now dir) ≡ false))
      (λ k. IsLookedOf k.now x → names ≡ filter test (children_of k.now dir))
      (λ k g is. none ∙ ap (filter test) (sym (no_children k.now dir (g is).1))) (dir_known false e)

  module _ (e : is_dir (kind_at y.seen.part dir) ≡ true) (c : FolderState) (z : Looked) (next : Loads (λ t. []) (λ t. dir ∷ []) b c y z)
      (there : is_listed z.lists dir ≡ true) (names : List (List ℕ)) (are : names ≡ filter test (names_at z.lists dir)) where
    -- the names are those of the tree
    pub some_known : IfKnown a.contents (λ k. IsLookedOf k.now x → names ≡ filter test (children_of k.now dir))
    some_known = known_now (λ t. dir ∷ []) (λ t. []) (λ t. []) (λ t. []) a b x y (λ k. is_dir (kind_at k.now dir) ≡ true)
        (λ k. names ≡ filter test (children_of k.now dir)) (λ k. names ≡ filter test (children_of k.now dir)) first (λ k p q. q)
        (known_then a.contents (λ k. IsLookedOf k.now x → IsLookedOf k.now y × (is_dir (kind_at k.now dir) ≡ true))
        (λ k. IsLookedOf k.now x → is_dir (kind_at k.now dir) ≡ true) (λ k g is. (g is).1) (dir_known true e))
        (known_then b.contents (λ k. IsLookedOf k.now y → HasLooked k.now y z [] [] (dir ∷ []) [])
        (λ k. IsLookedOf k.now y → names ≡ filter test (children_of k.now dir))
        (λ k has is. are ∙ ap (filter test) (names_there k.now z.lists dir (has is).known.names there)) next.looks)

    pub list_some : (d : FolderState) (w : Looked) → Loads (λ t. map (join dir) names) (λ t. []) c d z w → Listed a d x w
    list_some d w last = same_asked (λ t. ((dir ∷ []) ++ []) ++ map (join dir) names) (λ t. ([] ++ (dir ∷ [])) ++ []) (λ t. listed test t dir) (λ t. dirs_at t dir) a d x w
        (both (λ t. (dir ∷ []) ++ []) (λ t. map (join dir) names) (λ t. [] ++ (dir ∷ [])) (λ t. []) a c d x z w
        (both (λ t. dir ∷ []) (λ t. []) (λ t. []) (λ t. dir ∷ []) a b c x y z first next) last)
        (known_both a.contents (λ k. IsLookedOf k.now x → IsLookedOf k.now y × (is_dir (kind_at k.now dir) ≡ true))
        (λ k. IsLookedOf k.now x → names ≡ filter test (children_of k.now dir))
        (λ k. IsLookedOf k.now x → HasLooked k.now x w (((dir ∷ []) ++ []) ++ map (join dir) names) [] (([] ++ (dir ∷ [])) ++ []) []
        → (listed test k.now dir ≡ ((dir ∷ []) ++ []) ++ map (join dir) names) × (dirs_at k.now dir ≡ ([] ++ (dir ∷ [])) ++ []))
        (λ k g h is has. (ap (λ xs. dir ∷ map (join dir) xs) (sym (h is)), itself_listed (kind_at k.now dir) dir (g is).1))
        (dir_known true e) some_known)
