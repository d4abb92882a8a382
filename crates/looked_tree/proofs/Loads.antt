-- What is looked at in sequence.
use Rattle.std.proofs.Common.{◌≡◌, ◌<◌, ◌+◌, ℕ, List, [], ◌∷◌, ◌++◌, append-nil, length, drop, get_or, add-one, drop-cons, flat_map, map, refl, ap, sym, subst, ◌∙◌, Option, Some, None, Result, Ok, Err}
use Rattle.std.specs.Map.{keys_of}
use Rattle.std.specs.Result.{OnOk}
use Rattle.image_tree.specs.Paths.{join}
use Rattle.image_tree.specs.Tree.{Nodes, kind_at}
use Rattle.root_folder.specs.Folder.{FolderContent, FolderState}
use Rattle.root_tree.specs.ReadTree.{ReadsOn}
use Rattle.seen_tree.proofs.Looked.{now_seen, two_paths, two_dirs}
use Rattle.seen_tree.proofs.Same.{kind_seen}
use Rattle.seen_tree.specs.Part.{AreSeen, KeepsNodes}
use Rattle.seen_tree.specs.Seen.{HasSeen, IsSeenOf, Lists, LooksMore, Seen, Sees, with_dirs, with_paths}
use Rattle.tree_face.proofs.Known.{known_then}
use Rattle.tree_face.specs.Known.{IfKnown}
use Rattle.looked_tree.proofs.Calls.{no_lists}
use Rattle.root_tree.proofs.Readings.{no_reading, read_ok, read_on}
use Rattle.seen_tree.proofs.Calls.{lists_none, lists_on}
use Rattle.looked_tree.specs.Looked.{Asked, HasLooked, IsLookedOf, Loads, LoadsPart, Looked, LooksOn, looked}

pub known_all : {A : Type 0} (known : Option A) (P : A → Type 0) → ((a : A) → P a) → IfKnown known P
known_all None P f = tt
known_all (Some a) P f = f a

-- if one known fact follows from two others
pub known_both : {A : Type 0} (known : Option A) (P Q R : A → Type 0) → ((a : A) → P a → Q a → R a) → IfKnown known P → IfKnown known Q → IfKnown known R
known_both None P Q R f p q = tt
known_both (Some a) P Q R f p q = f a p q

pub ok_then : {A E : Type 0} (r : Result A E) (P Q : Type 0) → (P → Q) → OnOk r P → OnOk r Q
ok_then (Ok x) P Q f p = f p
ok_then (Err e) P Q f p = tt

-- ---- what was looked at

-- the paths were seen
pub have_seen : (t : Nodes) (old new : Looked) (paths dirs : List (List ℕ)) → HasLooked t old new paths [] dirs [] → HasSeen t old.seen new.seen paths
have_seen t old new paths dirs has = record { known = has.known.seen; looked = has.looked }

pub are_now_seen : (t : Nodes) (old new : Looked) (paths dirs : List (List ℕ)) → HasLooked t old new paths [] dirs [] → AreSeen t new.seen.part paths
are_now_seen t old new paths dirs has = now_seen t old.seen new.seen paths (have_seen t old new paths dirs has)

-- at a path that was looked up, the part has the kind of the tree
pub kind_looked : (t : Nodes) (old new : Looked) (q : List ℕ) (dirs : List (List ℕ)) → HasLooked t old new (q ∷ []) [] dirs [] → kind_at new.seen.part q ≡ kind_at t q
kind_looked t old new q dirs has = kind_seen t new.seen.part has.known.seen.whole has.known.seen.part q (are_now_seen t old new (q ∷ []) dirs has).0

-- what is known after a part was looked at
pub known_now : (paths left dirs dirs_left : Asked) (a b : FolderState) (x y : Looked) (P Q R : FolderContent → Type 0) → LoadsPart paths left dirs dirs_left a b x y
    → ((k : FolderContent) → P k → Q k → R k)
    → IfKnown a.contents (λ k. IsLookedOf k.now x → P k) → IfKnown b.contents (λ k. IsLookedOf k.now y → Q k) → IfKnown a.contents (λ k. IsLookedOf k.now x → R k)
known_now paths left dirs dirs_left a b x y P Q R loads f p q =
    known_both a.contents (λ k. IsLookedOf k.now x → IsLookedOf k.now y × P k) (λ k. IsLookedOf k.now y → Q k) (λ k. IsLookedOf k.now x → R k)
    (λ k g h is. f k (g is).1 (h (g is).0))
    (known_both a.contents (λ k. IsLookedOf k.now x → HasLooked k.now x y (paths k.now) (left k.now) (dirs k.now) (dirs_left k.now)) (λ k. IsLookedOf k.now x → P k)
    (λ k. IsLookedOf k.now x → IsLookedOf k.now y × P k) (λ k has g is. ((has is).known, g is)) loads.looks p)
    (subst (λ o. IfKnown o (λ k. IsLookedOf k.now y → Q k)) loads.reads.keeps.contents q)

-- ---- nothing yet, and one path

pub begins : (paths dirs : Asked) (s : FolderState) (l : Looked) → LoadsPart paths paths dirs dirs s s l l
begins paths dirs s l = record {
  looks = known_all s.contents (λ c. IsLookedOf c.now l → HasLooked c.now l l (paths c.now) (paths c.now) (dirs c.now) (dirs c.now))
      (λ c is. record { known = is; looked = refl; listed = refl });
  calls = no_lists l.seen.looked (keys_of l.lists) s;
  kept = λ q n e. e;
  reads = no_reading s;
}

pub one_path : {A : Type 0} (x : A) (path : List ℕ) (a b : FolderState) (s new : Seen) (lists : Lists) → Sees a s new (λ t. path ∷ []) → LooksMore s.looked new.looked a b
    → KeepsNodes s.part new.part → ReadsOn {A = A} (Ok x) a b → Loads (λ t. path ∷ []) (λ t. []) a b (looked s lists) (looked new lists)
one_path x path a b s new lists sees looks kept reads = record {
  looks = known_then a.contents (λ c. IsSeenOf c.now s → HasSeen c.now s new (path ∷ []))
      (λ c. IsLookedOf c.now (looked s lists) → HasLooked c.now (looked s lists) (looked new lists) (path ∷ []) [] [] [])
      (λ c has is. let h = has is.seen in record { known = record { seen = h.known; names = is.names }; looked = h.looked; listed = refl }) sees;
  calls = lists_none s.looked new.looked (keys_of lists) a b looks;
  kept = kept;
  reads = read_ok x a b reads;
}

-- ---- one reading after another

-- of the paths that are left, the first ones are these
abbrev pub Splits : Looked → Looked → (left more rest dirs listed rest_dirs : Asked) → FolderContent → Type 0
Splits y z left more rest dirs listed rest_dirs k =
    IsLookedOf k.now y → HasLooked k.now y z (more k.now) [] (listed k.now) []
    → (left k.now ≡ more k.now ++ rest k.now) × (dirs k.now ≡ listed k.now ++ rest_dirs k.now)

module _ (paths left dirs dirs_left : Asked) (a b c : FolderState) (x y z : Looked) (first : LoadsPart paths left dirs dirs_left a b x y) where
  pub goes_on : (more rest listed rest_dirs : Asked) → Loads more listed b c y z → IfKnown b.contents (Splits y z left more rest dirs_left listed rest_dirs)
      → LoadsPart paths rest dirs rest_dirs a c x z
  goes_on more rest listed rest_dirs next splits = record {
    looks = by a.contents first.looks
        (subst (λ o. IfKnown o (λ k. IsLookedOf k.now y → HasLooked k.now y z (more k.now) [] (listed k.now) [])) first.reads.keeps.contents next.looks)
        (subst (λ o. IfKnown o (Splits y z left more rest dirs_left listed rest_dirs)) first.reads.keeps.contents splits);
    calls = lists_on x.seen.looked y.seen.looked z.seen.looked (keys_of x.lists) (keys_of y.lists) (keys_of z.lists) a b c first.calls next.calls;
    kept = λ q n e. next.kept q n (first.kept q n e);
    reads = read_on a b c first.reads next.reads;
  }
    where
      by : (o : Option FolderContent) → IfKnown o (λ k. IsLookedOf k.now x → HasLooked k.now x y (paths k.now) (left k.now) (dirs k.now) (dirs_left k.now))
          → IfKnown o (λ k. IsLookedOf k.now y → HasLooked k.now y z (more k.now) [] (listed k.now) [])
          → IfKnown o (Splits y z left more rest dirs_left listed rest_dirs)
          → IfKnown o (λ k. IsLookedOf k.now x → HasLooked k.now x z (paths k.now) (rest k.now) (dirs k.now) (rest_dirs k.now))
      by None before after parts = tt
      by (Some k) before after parts = λ is.
          let has = before is in
          let new = after has.known in
          let split = parts has.known new in
          record {
            known = new.known;
            looked = ap (λ l. with_paths l (rest k.now)) new.looked ∙ sym (two_paths y.seen.looked (more k.now) (rest k.now))
                ∙ ap (with_paths y.seen.looked) (sym split.0) ∙ has.looked;
            listed = ap (λ l. with_dirs l (rest_dirs k.now)) new.listed ∙ sym (two_dirs (keys_of y.lists) (listed k.now) (rest_dirs k.now))
                ∙ ap (with_dirs (keys_of y.lists)) (sym split.1) ∙ has.listed;
          }

-- the same paths and directories
pub same_asked : (paths dirs others more : Asked) (a b : FolderState) (x y : Looked) → Loads paths dirs a b x y
    → IfKnown a.contents (λ k. IsLookedOf k.now x → HasLooked k.now x y (paths k.now) [] (dirs k.now) [] → (others k.now ≡ paths k.now) × (more k.now ≡ dirs k.now))
    → Loads others more a b x y
same_asked paths dirs others more a b x y first same = record {
  looks = known_both a.contents (λ k. IsLookedOf k.now x → HasLooked k.now x y (paths k.now) [] (dirs k.now) [])
      (λ k. IsLookedOf k.now x → HasLooked k.now x y (paths k.now) [] (dirs k.now) [] → (others k.now ≡ paths k.now) × (more k.now ≡ dirs k.now))
      (λ k. IsLookedOf k.now x → HasLooked k.now x y (others k.now) [] (more k.now) [])
      (λ k before here is.
      let has = before is in
      let e = here is has in
      record {
        known = has.known;
        looked = has.looked ∙ ap (with_paths x.seen.looked) (sym e.0);
        listed = has.listed ∙ ap (with_dirs (keys_of x.lists)) (sym e.1);
      }) first.looks same;
  calls = first.calls;
  kept = first.kept;
  reads = first.reads;
}

-- two readings
pub both : (p q d e : Asked) (a b c : FolderState) (x y z : Looked) → Loads p d a b x y → Loads q e b c y z → Loads (λ t. p t ++ q t) (λ t. d t ++ e t) a c x z
both p q d e a b c x y z first next =
    let start = goes_on (λ t. p t ++ q t) (λ t. p t ++ q t) (λ t. d t ++ e t) (λ t. d t ++ e t) a a b x x y (begins (λ t. p t ++ q t) (λ t. d t ++ e t) a x) p q d e first
    (known_all a.contents (Splits x y (λ t. p t ++ q t) p q (λ t. d t ++ e t) d e) (λ k is has. (refl, refl))) in
    goes_on (λ t. p t ++ q t) q (λ t. d t ++ e t) e a b c x y z start q (λ t. []) e (λ t. []) next
    (known_all b.contents (Splits y z q q (λ t. []) e e (λ t. [])) (λ k is has. (sym (append-nil (q k.now)), sym (append-nil (e k.now)))))

-- ---- a list of items, one after another

pub next_item : {X : Type 0} (xs : List X) (i : ℕ) (item x : X) → i < length xs → item ≡ get_or xs i item → x ≡ item → drop i xs ≡ x ∷ drop (i + 1) xs
next_item xs i item x less is same =
    let step : drop i xs ≡ get_or xs i item ∷ drop (i + 1) xs = rw (drop-cons xs i item less, add-one) refl in
    step ∙ ap (λ z. z ∷ drop (i + 1) xs) (sym is ∙ sym same)

module _ {X : Type 0} (f g : Nodes → X → List (List ℕ)) (whole dirs : Asked) (a b : FolderState) (u v : Looked) where
  -- of the items these are left
  abbrev pub Left : List X → Type 0
  Left xs = LoadsPart whole (λ t. flat_map (f t) xs) dirs (λ t. flat_map (g t) xs) a b u v

  pub item_on : (x : X) (xs : List X) (c : FolderState) (w : Looked) → Left (x ∷ xs) → Loads (λ t. f t x) (λ t. g t x) b c v w
      → LoadsPart whole (λ t. flat_map (f t) xs) dirs (λ t. flat_map (g t) xs) a c u w
  item_on x xs c w first next =
      goes_on whole (λ t. flat_map (f t) (x ∷ xs)) dirs (λ t. flat_map (g t) (x ∷ xs)) a b c u v w first
      (λ t. f t x) (λ t. flat_map (f t) xs) (λ t. g t x) (λ t. flat_map (g t) xs) next
      (known_all b.contents (Splits v w (λ t. flat_map (f t) (x ∷ xs)) (λ t. f t x) (λ t. flat_map (f t) xs) (λ t. flat_map (g t) (x ∷ xs)) (λ t. g t x) (λ t. flat_map (g t) xs))
      (λ k is has. (refl, refl)))

  pub items_on : (xs : List X) (i : ℕ) (item x : X) (c : FolderState) (w : Looked) → i < length xs → item ≡ get_or xs i item → x ≡ item → Left (drop i xs)
      → Loads (λ t. f t x) (λ t. g t x) b c v w → LoadsPart whole (λ t. flat_map (f t) (drop (i + 1) xs)) dirs (λ t. flat_map (g t) (drop (i + 1) xs)) a c u w
  items_on xs i item x c w less is same first next = item_on x (drop (i + 1) xs) c w (subst Left (next_item xs i item x less is same) first) next

-- the same, if nothing is listed
module _ {X : Type 0} (f : Nodes → X → List (List ℕ)) (whole : Asked) (a b : FolderState) (u v : Looked) where
  abbrev pub LeftPaths : List X → Type 0
  LeftPaths xs = LoadsPart whole (λ t. flat_map (f t) xs) (λ t. []) (λ t. []) a b u v

  pub path_on : (x : X) (xs : List X) (c : FolderState) (w : Looked) → LeftPaths (x ∷ xs) → Loads (λ t. f t x) (λ t. []) b c v w
      → LoadsPart whole (λ t. flat_map (f t) xs) (λ t. []) (λ t. []) a c u w
  path_on x xs c w first next =
      goes_on whole (λ t. flat_map (f t) (x ∷ xs)) (λ t. []) (λ t. []) a b c u v w first
      (λ t. f t x) (λ t. flat_map (f t) xs) (λ t. []) (λ t. []) next
      (known_all b.contents (Splits v w (λ t. flat_map (f t) (x ∷ xs)) (λ t. f t x) (λ t. flat_map (f t) xs) (λ t. []) (λ t. []) (λ t. [])) (λ k is has. (refl, refl)))

  pub paths_on : (xs : List X) (i : ℕ) (item x : X) (c : FolderState) (w : Looked) → i < length xs → item ≡ get_or xs i item → x ≡ item → LeftPaths (drop i xs)
      → Loads (λ t. f t x) (λ t. []) b c v w → LoadsPart whole (λ t. flat_map (f t) (drop (i + 1) xs)) (λ t. []) (λ t. []) a c u w
  paths_on xs i item x c w less is same first next = path_on x (drop (i + 1) xs) c w (subst LeftPaths (next_item xs i item x less is same) first) next

-- the paths of names in a directory
pub names_on : (dir : List ℕ) (names : List (List ℕ)) (i : ℕ) (item name path : List ℕ) (whole : Asked) (a b c : FolderState) (u v w : Looked)
    → i < length names → item ≡ get_or names i item → name ≡ item → path ≡ join dir name
    → LoadsPart whole (λ t. map (join dir) (drop i names)) (λ t. []) (λ t. []) a b u v → Loads (λ t. path ∷ []) (λ t. []) b c v w
    → LoadsPart whole (λ t. map (join dir) (drop (i + 1) names)) (λ t. []) (λ t. []) a c u w
names_on dir names i item name path whole a b c u v w less is same at first next =
    let rest = map (join dir) (drop (i + 1) names) in
    goes_on whole (λ t. map (join dir) (drop i names)) (λ t. []) (λ t. []) a b c u v w first
    (λ t. path ∷ []) (λ t. map (join dir) (drop (i + 1) names)) (λ t. []) (λ t. []) next
    (known_all b.contents (Splits v w (λ t. map (join dir) (drop i names)) (λ t. path ∷ []) (λ t. map (join dir) (drop (i + 1) names)) (λ t. []) (λ t. []) (λ t. []))
    (λ k known has. (ap (map (join dir)) (next_item names i item name less is same) ∙ ap (λ p. p ∷ rest) (sym at), refl)))

-- ---- if it isn't known which paths

pub looks_on : (paths dirs : Asked) (a b : FolderState) (x y : Looked) → Loads paths dirs a b x y → LooksOn a b x y
looks_on paths dirs a b x y loads = record {
  known = known_then a.contents (λ k. IsLookedOf k.now x → HasLooked k.now x y (paths k.now) [] (dirs k.now) []) (λ k. IsLookedOf k.now x → IsLookedOf k.now y)
      (λ k has is. (has is).known) loads.looks;
  calls = loads.calls;
  kept = loads.kept;
  reads = loads.reads;
}

pub looks_none : (s : FolderState) (l : Looked) → LooksOn s s l l
looks_none s l = looks_on (λ t. []) (λ t. []) s s l l (begins (λ t. []) (λ t. []) s l)

pub looks_more : (a b c : FolderState) (x y z : Looked) → LooksOn a b x y → LooksOn b c y z → LooksOn a c x z
looks_more a b c x y z first next = record {
  known = known_both a.contents (λ k. IsLookedOf k.now x → IsLookedOf k.now y) (λ k. IsLookedOf k.now y → IsLookedOf k.now z) (λ k. IsLookedOf k.now x → IsLookedOf k.now z)
      (λ k f g is. g (f is)) first.known (subst (λ o. IfKnown o (λ k. IsLookedOf k.now y → IsLookedOf k.now z)) first.reads.keeps.contents next.known);
  calls = lists_on x.seen.looked y.seen.looked z.seen.looked (keys_of x.lists) (keys_of y.lists) (keys_of z.lists) a b c first.calls next.calls;
  kept = λ q n e. next.kept q n (first.kept q n e);
  reads = read_on a b c first.reads next.reads;
}
