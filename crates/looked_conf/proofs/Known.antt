-- A view of a directory's tree, after more of it was looked at.
use Rattle.std.proofs.Common.{◌≡◌, ℕ, true, false, List, [], refl, ap, sym, subst, Option, Some, None, Result, Ok, Err}
use Rattle.std.specs.Option.{IsSomeAnd}
use Rattle.std.specs.Prelude.{IfOk, OnOk}
use Rattle.std.proofs.lemmas.Bool.{false≢true}
use Rattle.conf_views.proofs.Files.{file_seen, files_seen}
use Rattle.conf_views.specs.Files.{file_at, files}
use Rattle.conf_views.specs.Patterns.{results_listed, results_looked}
use Rattle.conf_views.specs.View.{IsSameView, LooksUp}
use Rattle.conf_views.specs.declared.fault.ViewFault.{ViewFault}
use Rattle.conf_views.specs.declared.fault.ViewFault.TheVariants as faults
use Rattle.path_walk.specs.declared.walk.Mode.TheVariants.{Plain}
use Rattle.root_folder.specs.Folder.{FolderContent, FolderState, KeepsFolder}
use Rattle.root_tree.specs.ReadTree.{ReadsOn}
use Rattle.root_tree.specs.declared.fault.TreeRead.{TreeRead}
use Rattle.root_tree.specs.declared.fault.TreeRead.TheVariants as reads
use Rattle.root_tree.proofs.Readings.{fails_on}
use Rattle.seen_tree.specs.Part.{looked_by}
use Rattle.seen_tree.specs.Seen.{IsFull}
use Rattle.tree_face.specs.Known.{IfKnown}
use Rattle.looked_tree.proofs.Loads.{are_now_seen, looks_more, looks_on}
use Rattle.looked_tree.specs.Looked.{Asked, HasLooked, IsLookedOf, Loads, Looked, LooksOn}
use Rattle.looked_conf.specs.View.{FailsBy, IsViewFault, IsViewOf, ViewFails, tree_of, view_state}

-- what was looked at of the known tree
abbrev HasLookedAt : Option FolderContent → Looked → Looked → Asked → Asked → Type 0
HasLookedAt known x y paths dirs = HasLooked (tree_of known) x y (paths (tree_of known)) [] (dirs (tree_of known)) []

now : (known : Option FolderContent) (paths dirs : Asked) (x y : Looked)
    → IfKnown known (λ c. IsLookedOf c.now x → HasLooked c.now x y (paths c.now) [] (dirs c.now) [])
    → IsSomeAnd known (λ c. IsLookedOf c.now x) → HasLookedAt known x y paths dirs
now None paths dirs x y looks is = absurd is
now (Some c) paths dirs x y looks is = looks is

still : (known : Option FolderContent) (x y : Looked) → IsSomeAnd known (λ c. IsLookedOf c.now x) → IsLookedOf (tree_of known) y → IsSomeAnd known (λ c. IsLookedOf c.now y)
still None x y is new = absurd is
still (Some c) x y is new = new

module _ (paths dirs : Asked) (a b : FolderState) (x y : Looked) (loads : Loads paths dirs a b x y) (is : IsViewOf a x) where
  has : HasLookedAt a.contents x y paths dirs
  has = now a.contents paths dirs x y loads.looks is

  pub knows_on : IsViewOf b y
  knows_on = subst (λ o. IsSomeAnd o (λ c. IsLookedOf c.now y)) (sym loads.reads.keeps.contents) (still a.contents x y is has.known)

  pub looks_up : LooksUp (paths (tree_of a.contents)) (dirs (tree_of a.contents)) (view_state a x) (view_state b y)
  looks_up = record { looked = λ partial. has.looked; listed = λ partial. has.listed }

pub same_view : (paths dirs : Asked) (a b : FolderState) (x y : Looked) → Loads paths dirs a b x y → IsSameView (view_state a x) (view_state b y)
same_view paths dirs a b x y loads = record { tree = ap tree_of loads.reads.keeps.contents; whole = refl }

pub same_kept : (a b : FolderState) (x y : Looked) → KeepsFolder a b → IsSameView (view_state a x) (view_state b y)
same_kept a b x y keeps = record { tree = ap tree_of keeps.contents; whole = refl }

-- ---- answers

pub if_ok_then : {A E : Type 0} (r : Result A E) (P Q : A → Type 0) → ((x : A) → P x → Q x) → IfOk r P → IfOk r Q
if_ok_then (Ok x) P Q f p = f x p
if_ok_then (Err e) P Q f p = tt

pub ok_all : {A E : Type 0} (r : Result A E) (P : Type 0) → P → OnOk r P
ok_all (Ok x) P h = h
ok_all (Err e) P h = tt

pub file_now : (text : List ℕ) (a b : FolderState) (x y : Looked) → Loads (λ t. looked_by t text Plain) (λ t. []) a b x y → IsViewOf a x
    → file_at y.seen.part text ≡ file_at (tree_of a.contents) text
file_now text a b x y loads is =
    let t = tree_of a.contents in
    let known = has (λ t. looked_by t text Plain) (λ t. []) a b x y loads is in
    file_seen t y.seen.part known.known.seen.whole known.known.seen.part text (are_now_seen t x y (looked_by t text Plain) [] known)

pub files_now : (file pattern : List ℕ) (a b : FolderState) (x y : Looked) → Loads (λ t. results_looked t file pattern) (λ t. results_listed t file pattern) a b x y → IsViewOf a x
    → files y.seen.part file pattern ≡ files (tree_of a.contents) file pattern
files_now file pattern a b x y loads is =
    let t = tree_of a.contents in
    let known = has (λ t. results_looked t file pattern) (λ t. results_listed t file pattern) a b x y loads is in
    files_seen t y.seen.part known.known.seen.whole known.known.seen.part file pattern (are_now_seen t x y (results_looked t file pattern) (results_listed t file pattern) known)

-- ---- what calls have done since a view

pub since_on : (paths dirs : Asked) (s a b : FolderState) (w x y : Looked) → LooksOn s a w x → Loads paths dirs a b x y → LooksOn s b w y
since_on paths dirs s a b w x y first next = looks_more s a b w x y first (looks_on paths dirs a b x y next)

fails_after : {A : Type 0} (why : TreeRead) (s a b : FolderState) (w x y : Looked) → LooksOn s a w x → ReadsOn {A = A} (Err why) a b → (why ≡ reads.TooLarge → IsFull y.seen)
    → FailsBy why s b y
fails_after {A} why s a b w x y first next full = record { reads = fails_on {A = A} s a b why first.reads next; full = full }

-- why the view doesn't answer
pub view_fails : {A : Type 0} (why : TreeRead) (fault : ViewFault) (last : Option TreeRead) (s a b : FolderState) (w x y : Looked) → IsViewFault why last fault
    → ReadsOn {A = A} (Err why) a b → (why ≡ reads.TooLarge → IsFull y.seen) → LooksOn s a w x → ViewFails fault last s b y
view_fails {A} (reads.Failed at) fault last s a b w x y is next full first =
    rw (is.0, is.1) (fails_after {A = A} (reads.Failed at) s a b w x y first next full)
view_fails {A} reads.TooLarge fault last s a b w x y is next full first = rw (is.0, is.1) (fails_after {A = A} reads.TooLarge s a b w x y first next full)
view_fails {A} reads.NoMemory fault last s a b w x y is next full first =
    let fails = fails_on {A = A} {B = A} s a b reads.NoMemory first.reads next in
    rw is record { keeps = fails.keeps; made = fails.made; no_fault = fails.failed }

-- a view of a whole tree always answers, or lacks memory
pub whole_fails : (fault : ViewFault) (last : Option TreeRead) (a b : FolderState) (x y : Looked) → (fault ≡ faults.Unseen → true ≡ false) → LooksOn a b x y
    → ViewFails fault last a b y
whole_fails faults.Unseen last a b x y whole looks = absurd (false≢true (sym (whole refl)))
whole_fails faults.NoMemory last a b x y whole looks = looks.reads

-- the fault that the view names
pub named_fault : (last : Option TreeRead) (why : TreeRead) (a b c : FolderState) (x y : Looked) → last ≡ Some why → c ≡ b → y ≡ x → ViewFails faults.Unseen last a b x
    → FailsBy why a c y
named_fault last why a b c x y is same part fails =
    rw (same, part) (subst (λ o. IsSomeAnd o (λ w. FailsBy w a b x)) is fails)
