-- What stays as links are put one after another.
use Rattle.std.proofs.Common.{◌≡◌, ℕ, Bool, true, false, not, ◌||◌, List, [], ◌∷◌, refl, ap, sym, subst, ◌∙◌, Option, None}
use Rattle.std.proofs.lemmas.Bool.{and_from, and_parts}
use Rattle.std.proofs.lemmas.Slice.Eq.{bytes_eq-Decides}
use Rattle.std.specs.List.{filter_map, list_all}
use Rattle.std.specs.Str.{bytes_eq}
use Rattle.lib_types.proofs.Bools.{not_true}
use Rattle.lib_types.proofs.SortedPairs.{by_test, sorted_put}
use Rattle.image_tree.proofs.Order.{path_total}
use Rattle.image_tree.specs.Tree.{Nodes, IsPathSorted, children_of, clashes, kind_at, node_at}
use Rattle.image_tree.specs.declared.node.Node.TheVariants.{Link}
use Rattle.image_tree.specs.declared.tree.Kind.TheVariants as kinds
use Rattle.soname_links.proofs.KindsAt.{dir_kept, is_open, open_kept, taken_kept}
use Rattle.soname_links.proofs.Linked.{files_give}
use Rattle.image_tree.proofs.OneMore.{put_here, put_other}
use Rattle.soname_links.specs.Apply.{are_clear}
use Rattle.library_files.specs.Places.{is_link_to}
use Rattle.soname_links.specs.Plan.{is_taken, with_link, with_links}
use Rattle.library_files.specs.Search.{file_in}
use Rattle.link_plan.specs.declared.kinds.Planned.{Planned}

-- ---- links that can be put one after another

abbrev pub are_open : Nodes → List Planned → Bool
are_open t plan = list_all (λ planned. is_open (node_at t planned.path)) plan

pub record IsReady (t : Nodes) (plan : List Planned) : Type 0 where
  pub sorted : IsPathSorted t
  pub free : are_open t plan ≡ true
  pub clear : are_clear t plan ≡ true

open_later : (t : Nodes) (path file : List ℕ) (plan : List Planned) → are_open t plan ≡ true → are_open (with_link t (record { place = 0; soname = []; file = file; path = path })) plan ≡ true
open_later t path file [] all = refl
open_later t path file (next ∷ plan) all =
    let parts = and_parts (is_open (node_at t next.path)) (are_open t plan) all in
    and_from _ _ (open_kept t path file next.path parts.0) (open_later t path file plan parts.1)

module _ (t : Nodes) (planned : Planned) (plan : List Planned) (ready : IsReady t (planned ∷ plan)) where
  free_here : is_open (node_at t planned.path) ≡ true
  free_here = (and_parts _ (are_open t plan) ready.free).0

  clear_here : clashes t planned.path (Link planned.file) ≡ false
  clear_here = not_true _ (and_parts (not (clashes t planned.path (Link planned.file))) _ ready.clear).0

  ready_later : IsReady (with_link t planned) plan
  ready_later = record {
    sorted = sorted_put path_total planned.path t (Link planned.file) ready.sorted;
    free = open_later t planned.path planned.file plan (and_parts _ (are_open t plan) ready.free).1;
    clear = (and_parts (not (clashes t planned.path (Link planned.file))) _ ready.clear).1;
  }

pub dirs_stay : (plan : List Planned) (t : Nodes) → IsReady t plan → (q : List ℕ) → kind_at t q ≡ kinds.Dir → kind_at (with_links t plan) q ≡ kinds.Dir
dirs_stay [] t ready q h = h
dirs_stay (planned ∷ plan) t ready q h =
    dirs_stay plan (with_link t planned) (ready_later t planned plan ready) q
    (dir_kept t planned.path planned.file (free_here t planned plan ready) (clear_here t planned plan ready) q h)

pub taken_stay : (plan : List Planned) (t : Nodes) → IsReady t plan → (q : List ℕ) → is_taken (kind_at t q) ≡ true → is_taken (kind_at (with_links t plan) q) ≡ true
taken_stay [] t ready q h = h
taken_stay (planned ∷ plan) t ready q h =
    taken_stay plan (with_link t planned) (ready_later t planned plan ready) q
    (taken_kept t planned.path planned.file (free_here t planned plan ready) (clear_here t planned plan ready) q h)

module _ {Y : Type 0} (f : List ℕ → Option (List ℕ) → Option Y) (nothing : (name : List ℕ) → f name None ≡ None) (d : List ℕ) where
  abbrev gives : Nodes → List Y
  gives s = filter_map (λ name. f name (file_in s d name)) (children_of s d)

  pub files_stay : (plan : List Planned) (t : Nodes) → IsReady t plan → kind_at t d ≡ kinds.Dir → gives (with_links t plan) ≡ gives t
  files_stay [] t ready dir = refl
  files_stay (planned ∷ plan) t ready dir =
      let free = free_here t planned plan ready in
      let clear = clear_here t planned plan ready in
      files_stay plan (with_link t planned) (ready_later t planned plan ready) (dir_kept t planned.path planned.file free clear d dir)
      ∙ files_give t planned.path planned.file free clear f nothing ready.sorted d dir

-- ---- the link at a path

abbrev pub is_same_link : List ℕ → List ℕ → Planned → Bool
is_same_link path file planned = not (bytes_eq path planned.path) || bytes_eq planned.file file

-- if each link of the plan at this path has this text, a link there with it stays
pub link_stays : (path file : List ℕ) (plan : List Planned) (t : Nodes) → list_all (is_same_link path file) plan ≡ true → is_link_to file (node_at t path) ≡ true
    → is_link_to file (node_at (with_links t plan) path) ≡ true
link_stays path file [] t same h = h
link_stays path file (planned ∷ plan) t same h =
    let parts = and_parts (is_same_link path file planned) (list_all (is_same_link path file) plan) same in
    link_stays path file plan (with_link t planned) parts.1
    (by_test (bytes_eq path planned.path)
    (λ e.
    let here : planned.path ≡ path = sym ((bytes_eq-Decides path planned.path).0 e) in
    let text : bytes_eq planned.file file ≡ true = sym (ap (λ b. not b || bytes_eq planned.file file) e) ∙ parts.0 in
    subst (λ (q : List ℕ). is_link_to file (node_at (with_link t planned) q) ≡ true) here (ap (is_link_to file) (put_here planned.path (Link planned.file) t) ∙ text))
    (λ e. ap (is_link_to file) (put_other planned.path (Link planned.file) path e t) ∙ h))

all_more : {X : Type 0} (p q : X → Bool) → ((x : X) → p x ≡ true → q x ≡ true) → (xs : List X) → list_all p xs ≡ true → list_all q xs ≡ true
all_more p q more [] all = refl
all_more p q more (x ∷ xs) all = let parts = and_parts (p x) (list_all p xs) all in and_from _ _ (more x parts.0) (all_more p q more xs parts.1)

-- links of a plan at one path have one text
abbrev pub are_same : List Planned → Planned → Bool
are_same plan planned = list_all (is_same_link planned.path planned.file) plan

-- then each link of the plan is there once all are put
pub links_there : (plan : List Planned) (t : Nodes) → list_all (are_same plan) plan ≡ true
    → list_all (λ planned. is_link_to planned.file (node_at (with_links t plan) planned.path)) plan ≡ true
links_there [] t same = refl
links_there (planned ∷ plan) t same =
    let parts = and_parts (are_same (planned ∷ plan) planned) (list_all (are_same (planned ∷ plan)) plan) same in
    let rest = all_more (are_same (planned ∷ plan)) (are_same plan) (λ x all. (and_parts (is_same_link x.path x.file planned) (are_same plan x) all).1) plan parts.1 in
    let here = ap (is_link_to planned.file) (put_here planned.path (Link planned.file) t) ∙ (bytes_eq-Decides planned.file planned.file).1 refl in
    and_from _ _ (link_stays planned.path planned.file plan (with_link t planned) (and_parts (is_same_link planned.path planned.file planned) _ parts.0).1 here)
    (links_there plan (with_link t planned) rest)
