-- A tree with one link more, where no file or directory was: the kinds of its paths.
use Rattle.std.proofs.Common.{◌≡◌, ℕ, Bool, true, false, cond, ◌&&◌, ◌||◌, List, refl, ap, sym, subst, ◌∙◌, Option, Some, None}
use Rattle.std.proofs.lemmas.Slice.Eq.{bytes_eq-Decides}
use Rattle.std.specs.Str.{bytes_eq}
use Rattle.lib_types.proofs.SortedPairs.{by_test}
use Rattle.name_order.specs.LibraryName.{is_library_name}
use Rattle.path_walk.proofs.KindsAt.{at_none, at_path, at_root}
use Rattle.image_tree.proofs.Above.{clash_above, clash_below}
use Rattle.image_tree.specs.Index.{has_file_above}
use Rattle.image_tree.specs.Node.{is_dir}
use Rattle.image_tree.specs.Paths.{is_below, is_path, join, root}
use Rattle.image_tree.specs.Tree as tree
use Rattle.image_tree.specs.Tree.{Nodes, clashes, has_below, kind_at, kind_there, node_at}
use Rattle.image_tree.specs.declared.node.Node.{Node}
use Rattle.image_tree.specs.declared.node.Node.TheVariants as node
use Rattle.image_tree.specs.declared.tree.Kind.{Kind}
use Rattle.image_tree.specs.declared.tree.Kind.TheVariants.{Absent, Dir, File, Link}
use Rattle.image_tree.proofs.OneMore.{put_here, put_other}
use Rattle.soname_links.proofs.Put.{any_put}
use Rattle.soname_links.specs.Plan.{is_taken}
use Rattle.path_walk.specs.Files.{is_file}
use Rattle.library_files.specs.Children.{is_file_node}
use Rattle.library_files.specs.Search.{file_in}

-- no node, or a link
abbrev pub is_open : Option Node → Bool
is_open None = true
is_open (Some (node.Link target)) = true
is_open (Some node.Dir) = false
is_open (Some (node.File key id)) = false

pub no_file : (o : Option Node) → is_open o ≡ true → is_file_node o ≡ false
no_file None h = refl
no_file (Some (node.Link target)) h = refl
no_file (Some node.Dir) h = absurd (cc)
no_file (Some (node.File key id)) h = absurd (cc)

by_node : (o : Option Node) (below : Bool) → is_file (kind_there o below) ≡ is_file_node o
by_node None true = refl
by_node None false = refl
by_node (Some (node.Link target)) below = refl
by_node (Some node.Dir) below = refl
by_node (Some (node.File key id)) below = refl

abbrev pub below_root : List ℕ → Bool → Bool
below_root q b = cond (bytes_eq q root) false (cond (is_path q) b false)

file_at_node : (t : Nodes) (q : List ℕ) → is_file (kind_at t q) ≡ below_root q (is_file_node (node_at t q))
file_at_node t q =
    let there = is_file_node (node_at t q) in
    by_test (bytes_eq q root)
    (λ e. ap is_file (at_root t q e) ∙ sym (ap (λ b. cond b false (cond (is_path q) there false)) e))
    (λ e.
    let left = ap (λ b. cond b false (cond (is_path q) there false)) e in
    by_test (is_path q)
    (λ p. ap is_file (at_path t q e p) ∙ by_node (node_at t q) (has_below t q) ∙ sym (left ∙ ap (λ b. cond b there false) p))
    (λ p. ap is_file (at_none t q e p) ∙ sym (left ∙ ap (λ b. cond b there false) p)))

by_parts : (r p b : Bool) → cond r false (cond p b false) ≡ true → (p ≡ true) × (b ≡ true)
by_parts false true true h = (refl, refl)
by_parts false true false h = absurd (cc)
by_parts false false b h = absurd (cc)
by_parts true p b h = absurd (cc)

-- a file has a path, and a node
pub file_node : (t : Nodes) (q : List ℕ) → is_file (kind_at t q) ≡ true → (is_path q ≡ true) × (is_file_node (node_at t q) ≡ true)
file_node t q e = by_parts (bytes_eq q root) (is_path q) (is_file_node (node_at t q)) (sym (file_at_node t q) ∙ e)

pub some_file : (o : Option Node) → is_file_node o ≡ true → (n : Node) × (o ≡ Some n) × (is_dir n ≡ false)
some_file None h = absurd (cc)
some_file (Some (node.Link target)) h = absurd (cc)
some_file (Some node.Dir) h = absurd (cc)
some_file (Some (node.File key id)) h = (node.File key id, refl, refl)

there_kept : (o : Option Node) (b c : Bool) → kind_there o b ≡ Dir → kind_there o (c || b) ≡ Dir
there_kept (Some n) b c h = h
there_kept None true true h = refl
there_kept None true false h = refl
there_kept None false c h = absurd (cc)

open_there : (o : Option Node) → is_open o ≡ true → kind_there o false ≡ Dir → ⊥
open_there None o h = cc
open_there (Some (node.Link target)) o h = cc
open_there (Some node.Dir) o h = cc
open_there (Some (node.File key id)) o h = cc

pub open_free : (t : Nodes) (q : List ℕ) → is_path q ≡ true → is_taken (kind_at t q) ≡ false → is_open (node_at t q) ≡ true
open_free t q proper free = by_test (bytes_eq q root)
    (λ e. let taken : is_taken (kind_at t q) ≡ true = ap is_taken (at_root t q e) in absurd (cc))
    (λ e. untaken (node_at t q) (has_below t q) (sym (ap is_taken (at_path t q e proper)) ∙ free))
  where
    untaken : (o : Option Node) (b : Bool) → is_taken (kind_there o b) ≡ false → is_open o ≡ true
    untaken None b h = refl
    untaken (Some (node.Link target)) b h = refl
    untaken (Some node.Dir) b h = absurd (cc)
    untaken (Some (node.File key id)) b h = absurd (cc)

-- ---- one link more

module _ (t : Nodes) (path file : List ℕ) where
  abbrev new : Nodes
  new = tree.put t path (node.Link file)

  pub open_kept : (q : List ℕ) → is_open (node_at t q) ≡ true → is_open (node_at (tree.put t path (node.Link file)) q) ≡ true
  open_kept q h = by_test (bytes_eq q path)
      (λ e.
      let same : path ≡ q = sym ((bytes_eq-Decides q path).0 e) in
      subst (λ (z : List ℕ). is_open (node_at new z) ≡ true) same (ap is_open (put_here path (node.Link file) t)))
      (λ e. ap is_open (put_other path (node.Link file) q e t) ∙ h)

  module _ (free : is_open (node_at t path) ≡ true) where
    pub file_same : (q : List ℕ) → is_file (kind_at (tree.put t path (node.Link file)) q) ≡ is_file (kind_at t q)
    file_same q =
        file_at_node new q ∙ ap (below_root q) (by_test (bytes_eq q path)
        (λ e.
        let same : path ≡ q = sym ((bytes_eq-Decides q path).0 e) in
        subst (λ (z : List ℕ). is_file_node (node_at new z) ≡ is_file_node (node_at t z)) same (ap is_file_node (put_here path (node.Link file) t) ∙ sym (no_file _ free)))
        (λ e. ap is_file_node (put_other path (node.Link file) q e t))) ∙ sym (file_at_node t q)

    pub file_in_same : (d name : List ℕ) → file_in (tree.put t path (node.Link file)) d name ≡ file_in t d name
    file_in_same d name = ap (λ b. cond (is_library_name name && b) (Some (join d name)) None) (file_same (join d name))

    module _ (clear : clashes t path (node.Link file) ≡ false) where
      pub none_above : has_file_above t path ≡ false
      none_above = by_test (has_file_above t path)
          (λ e. let z : true ≡ false = sym (clash_above t path (node.Link file) e) ∙ clear in absurd (cc))
          (λ e. e)

      none_below : has_below t path ≡ false
      none_below = sym (clash_below t path (node.Link file) none_above refl) ∙ clear

      pub dir_kept : (q : List ℕ) → kind_at t q ≡ Dir → kind_at (tree.put t path (node.Link file)) q ≡ Dir
      dir_kept q h = by_test (bytes_eq q root)
          (λ e. at_root new q e)
          (λ e. by_test (is_path q)
          (λ p.
          let there : kind_there (node_at t q) (has_below t q) ≡ Dir = sym (at_path t q e p) ∙ h in
          by_test (bytes_eq q path)
          (λ f.
          let same : q ≡ path = (bytes_eq-Decides q path).0 f in
          let none : has_below t q ≡ false = subst (λ (z : List ℕ). has_below t z ≡ false) (sym same) none_below in
          let o : is_open (node_at t q) ≡ true = subst (λ (z : List ℕ). is_open (node_at t z) ≡ true) (sym same) free in
          absurd (open_there (node_at t q) o (ap (kind_there (node_at t q)) (sym none) ∙ there)))
          (λ f.
          at_path new q e p ∙ (ap (λ o. kind_there o (has_below new q)) (put_other path (node.Link file) q f t)
          ∙ ap (kind_there (node_at t q)) (any_put path (node.Link file) (λ z. is_below q z) t) ∙ there_kept (node_at t q) (has_below t q) (is_below q path) there)))
          (λ p. let z : Absent ≡ Dir = sym (at_none t q e p) ∙ h in absurd (cc)))

      pub taken_kept : (q : List ℕ) → is_taken (kind_at t q) ≡ true → is_taken (kind_at (tree.put t path (node.Link file)) q) ≡ true
      taken_kept q h = elim (kind_at t q) as (λ k. kind_at t q ≡ k → is_taken k ≡ true → is_taken (kind_at new q) ≡ true) [
        | Dir ↦ λ e i. ap is_taken (dir_kept q e)
        | File ↦ λ e i. file_taken (kind_at new q) (file_same q ∙ ap is_file e)
        | Absent ↦ λ e i. absurd (cc)
        | Link ↦ λ e i. absurd (cc)
      ] refl h
        where
          file_taken : (k : Kind) → is_file k ≡ true → is_taken k ≡ true
          file_taken File i = refl
          file_taken Dir i = refl
          file_taken Absent i = absurd (cc)
          file_taken Link i = absurd (cc)
