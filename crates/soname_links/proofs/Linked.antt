-- A tree with one link more, where no file or directory was: the files with library names in a directory.
use Rattle.std.proofs.Common.{◌≡◌, ⊎_elim, get_or, ℕ, true, false, cond, not, ◌&&◌, List, ◌∷◌, ◌++◌, append_assoc, length, drop, ap, sym, subst, ◌∙◌, Option, Some, None}
use Rattle.std.proofs.lemmas.Bool.{cases_lt, eqb-true}
use Rattle.std.proofs.lemmas.List.{take_all}
use Rattle.std.proofs.lemmas.List.Sums.{passes_at_first, split_at_first}
use Rattle.std.proofs.lemmas.Slice.Eq.{bytes_eq-Decides}
use Rattle.std.specs.List.{after_first, dedup, filter_map, position_or_len}
use Rattle.std.specs.Str.{bytes_eq}
use Rattle.lib_types.proofs.Bools.{and_false, not_false}
use Rattle.lib_types.proofs.SortedPairs.{by_test, sorted_put}
use Rattle.lib_types.specs.Name.{slash}
use Rattle.name_order.specs.LibraryName.{is_library_name}
use Rattle.image_tree.proofs.Below.{below_from}
use Rattle.image_tree.proofs.Order.{path_total}
use Rattle.image_tree.proofs.Rising.{below_rest, children_sorted}
use Rattle.image_tree.specs.Index.{has_file_above}
use Rattle.image_tree.specs.Paths.{folder, is_below, is_slash, join, name_after}
use Rattle.image_tree.specs.Tree as tree
use Rattle.image_tree.specs.Tree.{Nodes, IsPathSorted, children_of, clashes, kind_at, names_below, node_at, of_dir}
use Rattle.image_tree.specs.declared.node.Node.TheVariants as node
use Rattle.image_tree.specs.declared.tree.Kind.TheVariants.{Dir}
use Rattle.string_pool.proofs.Members.{AreSorted, left_out, same_left}
use Rattle.string_pool.proofs.Ordered.{filtered_same}
use Rattle.soname_links.proofs.Put.{above_found, is_other, names_same, others_same}
use Rattle.path_walk.specs.Files.{is_file}
use Rattle.library_files.specs.Children.{is_file_node}
use Rattle.library_files.specs.Search.{file_in}
use Rattle.soname_links.proofs.KindsAt.{dir_kept, file_in_same, file_node, is_open, no_file, none_above, some_file}

-- ---- the names in a directory

module _ (t : Nodes) (path file : List ℕ) (free : is_open (node_at t path) ≡ true) (clear : clashes t path (node.Link file) ≡ false) where
  abbrev new : Nodes
  new = tree.put t path (node.Link file)

  module _ (d : List ℕ) (below : is_below d path ≡ true) where
    abbrev next : List ℕ
    next = name_after (length (folder d)) path

    ends : path ≡ join d next → is_file (kind_at t (join d next)) ≡ true → ⊥
    ends whole e =
        let there = (file_node t (join d next) e).1 in
        let none : is_file_node (node_at t (join d next)) ≡ false = subst (λ (z : List ℕ). is_file_node (node_at t z) ≡ false) whole (no_file _ free) in
        cc

    goes_on : (more : List ℕ) → path ≡ join d next ++ slash ∷ more → is_file (kind_at t (join d next)) ≡ true → ⊥
    goes_on more whole e =
        let q = join d next in
        let parts = file_node t q e in
        let found = some_file (node_at t q) parts.1 in
        let above : has_file_above t path ≡ true = above_found path q found.0 t found.1 (below_from q path more parts.0 whole) found.2 in
        let z : true ≡ false = sym above ∙ none_above t path file free clear in absurd (cc)

    -- the name with which the path goes on is not that of a file
    no_file_next : is_file (kind_at t (join d next)) ≡ true → ⊥
    no_file_next e =
        let rest = drop (length (folder d)) path in
        let whole : path ≡ folder d ++ rest = below_rest d path below in
        ⊎_elim
        (λ lt.
        let at_slash : get_or rest (position_or_len is_slash rest) slash ≡ slash = eqb-true _ slash (passes_at_first is_slash rest slash lt) in
        let parted : rest ≡ next ++ slash ∷ after_first is_slash rest =
        split_at_first is_slash rest slash lt ∙ ap (λ b. next ++ b ∷ after_first is_slash rest) at_slash in
        goes_on (after_first is_slash rest) (whole ∙ ap (λ z. folder d ++ z) parted ∙ sym (append_assoc (folder d) next _)) e)
        (λ ge. ends (whole ∙ ap (λ z. folder d ++ z) (sym (take_all (position_or_len is_slash rest) rest ge))) e)
        (cases_lt (position_or_len is_slash rest) (length rest))

    pub on_the_way : is_file (kind_at t (join d (name_after (length (folder d)) path))) ≡ false
    on_the_way = by_test (is_file (kind_at t (join d next))) (λ e. absurd (no_file_next e)) (λ e. e)

  module _ {Y : Type 0} (f : List ℕ → Option (List ℕ) → Option Y) (nothing : (name : List ℕ) → f name None ≡ None) (sorted : IsPathSorted t) (d : List ℕ) (dir : kind_at t d ≡ Dir) where
    abbrev give : Nodes → List ℕ → Option Y
    give s name = f name (file_in s d name)

    children_are : (s : Nodes) → kind_at s d ≡ Dir → children_of s d ≡ dedup bytes_eq (names_below s d)
    children_are s k = ap (λ kind. of_dir kind (dedup bytes_eq (names_below s d))) k

    each_once : (s : Nodes) → IsPathSorted s → kind_at s d ≡ Dir → AreSorted (dedup bytes_eq (names_below s d))
    each_once s r k = subst (λ (names : List (List ℕ)). AreSorted names) (children_are s k) (children_sorted s d r)

    same_kind : kind_at new d ≡ Dir
    same_kind = dir_kept t path file free clear d dir

    gives_nothing : is_below d path ≡ true → (name : List ℕ) → is_other d (name_after (length (folder d)) path) name ≡ false → give t name ≡ None
    gives_nothing below name same =
        let here : name ≡ name_after (length (folder d)) path = (bytes_eq-Decides name _).0 (not_false _ same) in
        let none : is_file (kind_at t (join d name)) ≡ false = subst (λ (z : List ℕ). is_file (kind_at t (join d z)) ≡ false) (sym here) (on_the_way d below) in
        ap (λ b. f name (cond (is_library_name name && b) (Some (join d name)) None)) none
        ∙ ap (λ b. f name (cond b (Some (join d name)) None)) (and_false (is_library_name name)) ∙ nothing name

    names_give : filter_map (give t) (dedup bytes_eq (names_below new d)) ≡ filter_map (give t) (dedup bytes_eq (names_below t d))
    names_give = by_test (is_below d path)
        (λ b.
        let other = is_other d (name_after (length (folder d)) path) in
        let none = gives_nothing b in
        sym (left_out other (give t) none (dedup bytes_eq (names_below new d)))
        ∙ ap (filter_map (give t)) (same_left other (names_below t d) (names_below new d) (each_once t sorted dir)
        (each_once new (sorted_put path_total path t (node.Link file) sorted) same_kind) (others_same t path (node.Link file) d))
        ∙ left_out other (give t) none (dedup bytes_eq (names_below t d)))
        (λ b. ap (λ names. filter_map (give t) (dedup bytes_eq names)) (names_same t path (node.Link file) d b))

    -- what the files with library names in the directory give is the same
    pub files_give : filter_map (λ name. f name (file_in (tree.put t path (node.Link file)) d name)) (children_of (tree.put t path (node.Link file)) d)
        ≡ filter_map (λ name. f name (file_in t d name)) (children_of t d)
    files_give =
        filtered_same (give new) (give t) (λ name. ap (f name) (file_in_same t path file free d name)) (children_of new d)
        ∙ ap (filter_map (give t)) (children_are new same_kind) ∙ names_give ∙ sym (ap (filter_map (give t)) (children_are t dir))
