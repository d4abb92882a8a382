-- In a whole tree each directory above a node has a node.
use Rattle.std.proofs.Common.{◌≡◌, ◌≤◌, ◌<◌, ◌||◌, ◌==◌, ℕ, zero, suc, Bool, true, false, List, [], ◌∷◌, ◌++◌, length, length-append, if◌then◌else◌, refl, sym, ap, subst, ◌∙◌, arith, Option, Some, None, unwrap_or}
use Rattle.std.proofs.lemmas.Bool.{and_parts, false≢true}
use Rattle.std.proofs.lemmas.Slice.Eq.{bytes_eq-Decides}
use Rattle.std.specs.List.{list_all, list_any}
use Rattle.std.specs.Option.{option_map_or}
use Rattle.std.specs.Str.{bytes_eq}
use Rattle.lib_types.proofs.SortedPairs.{by_test}
use Rattle.lib_types.specs.Name.{slash}
use Rattle.image_tree.proofs.Above.{found_passes}
use Rattle.image_tree.proofs.Below.{below_from, below_is, not_root}
use Rattle.image_tree.specs.Node.{is_dir}
use Rattle.image_tree.specs.Paths.{is_below, is_path, root}
use Rattle.image_tree.specs.Tree.{Nodes, has_below, node_at}
use Rattle.image_tree.specs.declared.node.Node.{Node}
use Rattle.image_tree.specs.declared.node.Node.TheVariants.{Dir, File, Link}
use Rattle.path_walk.specs.Names.{before_last, more_before, parent, unless_empty}
use Rattle.root_folder.specs.Found.{Found}
use Rattle.root_folder.specs.Whole.{IsWhole, has_dir}

-- ---- the directory of a path below another

abbrev after_slash : Option (List ℕ) → List ℕ
after_slash None = []
after_slash (Some front) = slash ∷ front

from_slash : (o : Option (List ℕ)) → more_before slash o ≡ Some (after_slash o)
from_slash None = refl
from_slash (Some front) = refl

before_joined : (q s : List ℕ) → before_last (q ++ slash ∷ s) ≡ Some (q ++ after_slash (before_last s))
before_joined [] s = from_slash (before_last s)
before_joined (b ∷ q) s = ap (more_before b) (before_joined q s)

shorter_by : (b : ℕ) (s : List ℕ) (o : Option (List ℕ)) → ((f : List ℕ) → o ≡ Some f → length f < length s) → (front : List ℕ) → more_before b o ≡ Some front → length front < length (b ∷ s)
shorter_by b s (Some f) less front h =
    let same : b ∷ f ≡ front = cc in
    let size : length (b ∷ f) ≡ length front = ap length same in
    let rest = less f refl in
    omega (arith, rest, size)
shorter_by b s None less front h = empty (b == slash) front h
  where
    empty : (d : Bool) (front : List ℕ) → (if d then Some [] else None) ≡ Some front → length front < length (b ∷ s)
    empty true [] e = omega arith
    empty true (x ∷ front) e = absurd (cc)
    empty false front e = absurd (cc)

shorter : (s front : List ℕ) → before_last s ≡ Some front → length front < length s
shorter [] front e = absurd (cc)
shorter (b ∷ s) front e = shorter_by b s (before_last s) (λ f is. shorter s f is) front e

parent_joined : (q s : List ℕ) → is_path q ≡ true → parent (q ++ slash ∷ s) ≡ q ++ after_slash (before_last s)
parent_joined [] s h = absurd (cc)
parent_joined (b ∷ q) s h = ap (λ o. unless_empty (unwrap_or o [])) (before_joined (b ∷ q) s)

-- ---- the node of a directory

is_dir_node : (found : Found) → option_map_or is_dir found false ≡ true → found ≡ Some Dir
is_dir_node None h = absurd (false≢true h)
is_dir_node (Some Dir) h = refl
is_dir_node (Some (File key id)) h = absurd (false≢true h)
is_dir_node (Some (Link target)) h = absurd (false≢true h)

member : {X : Type 0} (test : X → Bool) (xs : List X) → list_any test xs ≡ true → (x : X) × (test x ≡ true) × ((all : X → Bool) → list_all all xs ≡ true → all x ≡ true)
member test [] h = absurd (false≢true h)
member test (x ∷ xs) h = by_test (test x)
    (λ e. (x, e, λ all h. (and_parts (all x) (list_all all xs) h).0))
    (λ e. let more = member test xs (sym (ap (λ b. b || list_any test xs) e) ∙ h) in (more.0, more.1, λ all h. more.2 all (and_parts (all x) (list_all all xs) h).1))

module _ (t : Nodes) (whole : IsWhole t) (q : List ℕ) (proper : is_path q ≡ true) where
  node_of : (d : List ℕ) → bytes_eq d root ≡ false → has_dir t d ≡ true → node_at t d ≡ Some Dir
  node_of d other h = is_dir_node (node_at t d) (sym (ap (λ b. b || option_map_or is_dir (node_at t d) false) other) ∙ h)

  not_the_root : (f : List ℕ) → bytes_eq (q ++ slash ∷ f) root ≡ false
  not_the_root f = by_test (bytes_eq (q ++ slash ∷ f) root)
      (λ e. absurd (too_long q f proper ((bytes_eq-Decides (q ++ slash ∷ f) root).0 e)))
      (λ e. e)
    where
      too_long : (q f : List ℕ) → is_path q ≡ true → q ++ slash ∷ f ≡ root → ⊥
      too_long [] f h e = let z : false ≡ true = h in absurd (cc)
      too_long (b ∷ q) f h e =
          let size : length ((b ∷ q) ++ slash ∷ f) ≡ 1 = ap length e in
          let sum = length-append (b ∷ q) (slash ∷ f) in
          omega (arith, size, sum)

  -- if a path is below `q`, its directory is `q` or is below `q`
  step : (n : ℕ) (s : List ℕ) (o : Option (List ℕ)) → before_last s ≡ o → length (q ++ slash ∷ s) ≤ suc n
      → ((p : List ℕ) → length p ≤ n → has_dir t (parent p) ≡ true → is_below q p ≡ true → node_at t q ≡ Some Dir)
      → has_dir t (q ++ after_slash o) ≡ true → node_at t q ≡ Some Dir
  step n s None is le next dir = node_of q (not_root q proper) (subst (λ (z : List ℕ). has_dir t z ≡ true) (nothing_after q) dir)
    where
      nothing_after : (f : List ℕ) → f ++ [] ≡ f
      nothing_after [] = refl
      nothing_after (x ∷ f) = ap (λ l. x ∷ l) (nothing_after f)
  step n s (Some f) is le next dir =
      let d = q ++ slash ∷ f in
      let node : node_at t d ≡ Some Dir = node_of d (not_the_root f) dir in
      let less = shorter s f is in
      let size = length-append q (slash ∷ s) in
      let rest = length-append q (slash ∷ f) in
      next d (omega (arith, le, less, size, rest)) (found_passes (λ e. has_dir t (parent e.0)) t d Dir node whole.dirs) (below_from q d f proper refl)

  above : (n : ℕ) (p : List ℕ) → length p ≤ n → has_dir t (parent p) ≡ true → is_below q p ≡ true → node_at t q ≡ Some Dir
  above zero p le dir below =
      let cut = below_is q p proper below in
      let size : length p ≡ length (q ++ slash ∷ cut.0) = ap length cut.1 in
      let sum = length-append q (slash ∷ cut.0) in
      absurd (omega (arith, le, size, sum))
  above (suc n) p le dir below =
      let cut = below_is q p proper below in
      let size : length p ≡ length (q ++ slash ∷ cut.0) = ap length cut.1 in
      step n cut.0 (before_last cut.0) refl (omega (arith, le, size)) (above n)
      (subst (λ (z : List ℕ). has_dir t z ≡ true) (ap parent cut.1 ∙ parent_joined q cut.0 proper) dir)

  -- if a node is below `q`, the node at `q` is a directory
  pub dir_above : has_below t q ≡ true → node_at t q ≡ Some Dir
  dir_above h =
      let m = member (λ (e : List ℕ × Node). is_below q e.0) t h in
      above (length m.0.0) m.0.0 (omega arith) (m.2 (λ e. has_dir t (parent e.0)) whole.dirs) m.1
