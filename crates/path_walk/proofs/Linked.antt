-- The walk to a link in a directory, and then along the link's target.
use Rattle.std.proofs.Common.{◌≡◌, ◌⊎◌, inl, inr, ℕ, true, false, cond, not, ◌&&◌, ◌==◌, ◌-◌, nat_eq, nat_le, List, [], ◌∷◌, ◌++◌, append_assoc, codes, length, filter, refl, ap, sym, ◌∙◌, Option, Some, Ok, arith}
use Rattle.std.proofs.lemmas.Bool.{and_from, and_parts, or_parts}
use Rattle.std.proofs.lemmas.Bool.Decides.{nat_tests}
use Rattle.std.proofs.lemmas.List.{append-nil}
use Rattle.std.proofs.lemmas.List.Elements.{All-cons, All-nil}
use Rattle.std.proofs.lemmas.List.Folds.{list_all-append}
use Rattle.std.proofs.lemmas.List.Splits.{join_with_byte-slice_split, length-slice_split, slice_split-cons_yes, slice_split_none}
use Rattle.std.proofs.lemmas.Slice.Eq.{bytes_eq-Decides}
use Rattle.std.specs.List.{All, join_with_byte, list_all, list_any, slice_split, starts_with}
use Rattle.std.specs.Str.{bytes_eq}
use Rattle.lib_types.proofs.Bools.{not_true}
use Rattle.lib_types.proofs.SortedPairs.{by_test}
use Rattle.lib_types.specs.Name.{are_dots, have_no_slash, is_name, slash}
use Rattle.image_tree.proofs.Above.{found_entry}
use Rattle.image_tree.proofs.Below.{below_from, not_root}
use Rattle.image_tree.proofs.Prefixes.{parts_joined, path_above}
use Rattle.image_tree.specs.Paths.{are_names, components, folder, is_kept, is_path, is_slash, root, stem, join}
use Rattle.image_tree.specs.Tree.{Nodes, IsTree, kind_at, kind_of, node_at}
use Rattle.image_tree.specs.declared.node.Id.{Id}
use Rattle.image_tree.specs.declared.node.Node.{Node}
use Rattle.image_tree.specs.declared.node.Node.TheVariants as node
use Rattle.image_tree.specs.declared.path.TheConstants.{PATH_MAX}
use Rattle.image_tree.specs.declared.tree.Kind.TheVariants as kinds
use Rattle.path_walk.proofs.Joining.{names_joined}
use Rattle.path_walk.proofs.KindsAt.{at_none, dir_above, kind_of_node}
use Rattle.path_walk.specs.Names.{parent}
use Rattle.path_walk.specs.Walk.{Ends, Follows, at_child, at_file, at_link, resolution, start_of, steps, target_at, target_in, walk}
use Rattle.path_walk.specs.declared.walk.Mode.{Mode}
use Rattle.path_walk.specs.declared.walk.Mode.TheVariants.{Full}
use Rattle.path_walk.specs.declared.walk.TheConstants.{LINKS_MAX}

-- ---- names

no_slash : (name : List ℕ) → have_no_slash name ≡ true → All (λ b. is_slash b ≡ false) name
no_slash [] h = All-nil (λ b. is_slash b ≡ false)
no_slash (b ∷ name) h =
    let parts = and_parts (not (b == slash) && not (b == 0)) (have_no_slash name) h in
    All-cons (λ b. is_slash b ≡ false) b name (not_true (b == slash) (and_parts _ _ parts.0).0) (no_slash name parts.1)

pub name_alone : (name : List ℕ) → is_name name ≡ true → slice_split is_slash name ≡ name ∷ []
name_alone name h = slice_split_none is_slash name (no_slash name (and_parts _ _ (and_parts _ _ h).0).1)

pub no_dots : (name : List ℕ) → is_name name ≡ true → (bytes_eq name (codes ".") ≡ false) × (bytes_eq name (codes "..") ≡ false)
no_dots name h = or_parts _ _ (not_true (are_dots name) (and_parts _ _ (and_parts _ _ (and_parts _ _ h).0).0).1)

name_kept : (name : List ℕ) → is_name name ≡ true → is_kept name ≡ true
name_kept [] h = absurd (cc)
name_kept (b ∷ name) h =
    let some : (length (b ∷ name) == 0) ≡ false = grind (arith, nat_tests) in
    rw (some, (no_dots (b ∷ name) h).0) refl

names_kept : (names : List (List ℕ)) → list_all is_name names ≡ true → filter is_kept names ≡ names
names_kept [] all = refl
names_kept (name ∷ names) all =
    ap (λ k. cond k (name ∷ filter is_kept names) (filter is_kept names)) (name_kept name (and_parts _ _ all).0)
    ∙ ap (λ z. name ∷ z) (names_kept names (and_parts _ _ all).1)

pub name_is_component : (name : List ℕ) → is_name name ≡ true → components name ≡ name ∷ []
name_is_component name h = ap (filter is_kept) (name_alone name h) ∙ names_kept (name ∷ []) (and_from _ _ h refl)

-- ---- the paths of directories

-- a directory is the root, or has a path
abbrev pub IsFolder : List ℕ → Type 0
IsFolder p = (p ≡ root) ⊎ ((bytes_eq p root ≡ false) × (is_path p ≡ true))

pub folder_of_dir : (t : Nodes) (p : List ℕ) → kind_at t p ≡ kinds.Dir → IsFolder p
folder_of_dir t p h = by_test (bytes_eq p root)
    (λ e. inl ((bytes_eq-Decides p root).0 e))
    (λ e. by_test (is_path p)
    (λ f. inr (e, f))
    (λ f. let z : kinds.Absent ≡ kinds.Dir = sym (at_none t p e f) ∙ h in absurd (cc)))

pub join_below : (p name : List ℕ) → bytes_eq p root ≡ false → join p name ≡ p ++ slash ∷ name
join_below p name e = ap (λ b. (cond b [] p ++ root) ++ name) e ∙ append_assoc p root name

pub some_join : (s name : List ℕ) → (s ++ root) ++ name ≡ [] → ⊥
some_join [] name e = cc
some_join (x ∷ s) name e = cc

path_names : (rest : List ℕ) → is_path (slash ∷ rest) ≡ true → components (slash ∷ rest) ≡ slice_split is_slash rest
path_names rest proper =
    ap (filter is_kept) (slice_split-cons_yes is_slash slash rest refl)
    ∙ names_kept (slice_split is_slash rest) (and_parts _ _ proper).1

first_slash : (x : ℕ) (rest : List ℕ) → is_path (x ∷ rest) ≡ true → x ≡ slash
first_slash x rest h =
    let parts = and_parts (nat_le (length (x ∷ rest)) PATH_MAX && starts_with nat_eq (x ∷ rest) root) (are_names rest) h in
    let begins : starts_with nat_eq (x ∷ rest) root ≡ true = (and_parts (nat_le (length (x ∷ rest)) PATH_MAX) (starts_with nat_eq (x ∷ rest) root) parts.0).1 in
    let starts : nat_eq 47 x ≡ true = (and_parts (nat_eq 47 x) _ begins).0 in
    grind (arith, nat_tests)

-- ---- the walk down

module _ (t : Nodes) (mode : Mode) where
  child_step : (p name : List ℕ) (rest : List (List ℕ)) → is_name name ≡ true → steps t mode (name ∷ rest) p
      ≡ at_child (kind_at t (join p name)) (at_link mode name (target_at t (join p name)) rest p) (at_file rest (join p name)) (steps t mode rest (join p name))
  child_step p name rest h =
      ap (λ b. cond b (steps t mode rest (parent p))
      (at_child (kind_at t (join p name)) (at_link mode name (target_at t (join p name)) rest p) (at_file rest (join p name)) (steps t mode rest (join p name))))
      (no_dots name h).1

  down_one : (p name : List ℕ) (rest : List (List ℕ)) → is_name name ≡ true → kind_at t (join p name) ≡ kinds.Dir → steps t mode (name ∷ rest) p ≡ steps t mode rest (join p name)
  down_one p name rest h d =
      child_step p name rest h
      ∙ ap (λ k. at_child k (at_link mode name (target_at t (join p name)) rest p) (at_file rest (join p name)) (steps t mode rest (join p name))) d

  module _ (tree : IsTree t) (more : List (List ℕ)) where
    -- the walk to a directory goes through directories
    down : (p name : List ℕ) (names : List (List ℕ)) → list_all is_name (name ∷ names) ≡ true → is_path (join p (join_with_byte slash (name ∷ names))) ≡ true
        → kind_at t (join p (join_with_byte slash (name ∷ names))) ≡ kinds.Dir
        → steps t mode ((name ∷ names) ++ more) p ≡ steps t mode more (join p (join_with_byte slash (name ∷ names)))
    down p name [] all proper d = down_one p name more (and_parts _ _ all).0 d
    down p name (next ∷ names) all proper d =
        let rest = join_with_byte slash (next ∷ names) in
        let q = join p name in
        let whole : join p (name ++ slash ∷ rest) ≡ q ++ slash ∷ rest = sym (append_assoc (folder p) name (slash ∷ rest)) in
        let above : is_path q ≡ true = path_above q rest (some_join (stem p) name) (sym (ap is_path whole) ∙ proper) in
        let same : join q rest ≡ join p (name ++ slash ∷ rest) = join_below q rest (not_root q above) ∙ sym whole in
        let dir : kind_at t q ≡ kinds.Dir = dir_above t tree q (join p (name ++ slash ∷ rest)) above proper (below_from q (join p (name ++ slash ∷ rest)) rest above whole) d in
        down_one p name ((next ∷ names) ++ more) (and_parts _ _ all).0 dir
        ∙ down q next names (and_parts _ _ all).1 (ap is_path same ∙ proper) (ap (kind_at t) same ∙ d)
        ∙ ap (steps t mode more) same

    by_text : (text : List ℕ) (names : List (List ℕ)) → slice_split is_slash text ≡ names → list_all is_name names ≡ true → is_path (join root text) ≡ true → kind_at t (join root text) ≡ kinds.Dir
        → steps t mode (names ++ more) root ≡ steps t mode more (join root text)
    by_text text [] e all proper d =
        let size = length-slice_split is_slash text in
        let none : length (slice_split is_slash text) ≡ 0 = ap length e in absurd (omega arith)
    by_text text (name ∷ names) e all proper d =
        let same : join_with_byte slash (name ∷ names) ≡ text = sym (ap (join_with_byte slash) e) ∙ join_with_byte-slice_split slash text in
        down root name names all (ap (λ z. is_path (join root z)) same ∙ proper) (ap (λ z. kind_at t (join root z)) same ∙ d)
        ∙ ap (λ z. steps t mode more (join root z)) same

    to_path : (p : List ℕ) → is_path p ≡ true → kind_at t p ≡ kinds.Dir → steps t mode (components p ++ more) root ≡ steps t mode more p
    to_path [] proper d = absurd (cc)
    to_path (x ∷ rest) proper d =
        let begins : x ∷ rest ≡ slash ∷ rest = ap (λ b. b ∷ rest) (first_slash x rest proper) in
        let path : is_path (slash ∷ rest) ≡ true = sym (ap is_path begins) ∙ proper in
        ap (λ z. steps t mode (components z ++ more) root) begins
        ∙ ap (λ names. steps t mode (names ++ more) root) (path_names rest path)
        ∙ by_text rest (slice_split is_slash rest) refl (and_parts _ _ path).1 path (sym (ap (kind_at t) begins) ∙ d)
        ∙ ap (steps t mode more) (sym begins)

    to_folder : (p : List ℕ) → IsFolder p → kind_at t p ≡ kinds.Dir → steps t mode (components (stem p) ++ more) root ≡ steps t mode more p
    to_folder p (inl e) d = ap (λ z. steps t mode (components (stem z) ++ more) root) e ∙ ap (steps t mode more) (sym e)
    to_folder p (inr below) d = ap (λ b. steps t mode (components (cond b [] p) ++ more) root) below.0 ∙ to_path p below.1 d

    -- the walk by the path of a directory ends there
    pub to_dir : (p : List ℕ) → kind_at t p ≡ kinds.Dir → steps t mode (components (stem p) ++ more) root ≡ steps t mode more p
    to_dir p d = to_folder p (folder_of_dir t p d) d

-- ---- what a target names beside the link

turned : (b : ℕ) → (b == slash) ≡ false → nat_eq slash b ≡ false
turned b h = grind (arith, nat_tests)

not_rooted : (name : List ℕ) → is_name name ≡ true → starts_with nat_eq name root ≡ false
not_rooted [] h = absurd (cc)
not_rooted (b ∷ name) h =
    let parts = and_parts (not (b == slash) && not (b == 0)) (have_no_slash name) (and_parts _ _ (and_parts _ _ h).0).1 in
    ap (λ c. c && starts_with nat_eq name []) (turned b (not_true (b == slash) (and_parts _ _ parts.0).0))

none_is_slash : (name : List ℕ) → list_any is_slash name ≡ false → All (λ b. is_slash b ≡ false) name
none_is_slash [] h = All-nil (λ b. is_slash b ≡ false)
none_is_slash (b ∷ name) h =
    let parts = or_parts (is_slash b) (list_any is_slash name) h in
    All-cons (λ b. is_slash b ≡ false) b name parts.0 (none_is_slash name parts.1)

-- the text after the last slash of a path is a name
last_name : (s name : List ℕ) → slice_split is_slash name ≡ name ∷ [] → is_path ((s ++ root) ++ name) ≡ true → is_name name ≡ true
last_name [] name alone h = (and_parts _ _ (sym (ap (list_all is_name) alone) ∙ (and_parts _ _ h).1)).0
last_name (x ∷ s) name alone h =
    let names = sym (ap (list_all is_name) (ap (slice_split is_slash) (append_assoc s root name) ∙ parts_joined s name)) ∙ (and_parts _ _ h).1 in
    let both = and_parts _ _ (sym (list_all-append is_name (slice_split is_slash s) (slice_split is_slash name)) ∙ names) in
    (and_parts _ _ (sym (ap (list_all is_name) alone) ∙ both.1)).0

module _ (t : Nodes) (p name : List ℕ) (free : list_any is_slash name ≡ false) (proper : is_path (join p name) ≡ true) where
  named : is_name name ≡ true
  named = last_name (stem p) name (slice_split_none is_slash name (none_is_slash name free)) proper

  -- the walk by one name
  one_name : (n : Node) → node_at t (join p name) ≡ Some n
      → steps t Full (components name) (start_of name p) ≡ at_child (kind_of n) (Follows (components (target_in (Some n))) (start_of (target_in (Some n)) p)) (Ends (Ok (join p name))) (Ends (Ok (join p name)))
  one_name n e =
      let q = join p name in
      ap (steps t Full (components name)) (ap (λ b. cond b root p) (not_rooted name named))
      ∙ ap (λ names. steps t Full names p) (name_is_component name named)
      ∙ child_step t Full p name [] named
      ∙ ap (λ k. at_child k (at_link Full name (target_at t q) [] p) (at_file [] q) (steps t Full [] q)) (kind_of_node t q n proper e)
      ∙ ap (λ o. at_child (kind_of n) (at_link Full name (target_in o) [] p) (Ends (Ok q)) (Ends (Ok q))) e
      ∙ ap (λ names. at_child (kind_of n) (Follows names (start_of (target_in (Some n)) p)) (Ends (Ok q)) (Ends (Ok q))) (append-nil (components (target_in (Some n))))

  pub file_next_to : (key : List ℕ) (id : Option Id) → node_at t (join p name) ≡ Some (node.File key id)
      → (steps t Full (components name) (start_of name p) ≡ Ends (Ok (join p name))) × (kind_at t (join p name) ≡ kinds.File)
  file_next_to key id e = (one_name (node.File key id) e, kind_of_node t (join p name) (node.File key id) proper e)

  pub link_next_to : (target : List ℕ) → node_at t (join p name) ≡ Some (node.Link target) → steps t Full (components name) (start_of name p) ≡ Follows (components target) (start_of target p)
  link_next_to target e = one_name (node.Link target) e

-- ---- the link

module _ (t : Nodes) (tree : IsTree t) (p name target : List ℕ) (d : kind_at t p ≡ kinds.Dir) (named : is_name name ≡ true) (link : node_at t (join p name) ≡ Some (node.Link target)) where
  joined_names : components (join p name) ≡ components (stem p) ++ name ∷ []
  joined_names =
      ap components (append_assoc (stem p) root name) ∙ names_joined (stem p) name ∙ ap (λ names. components (stem p) ++ names) (name_is_component name named)

  at_the_link : steps t Full (name ∷ []) p ≡ Follows (components target) (start_of target p)
  at_the_link =
      let q = join p name in
      let proper : is_path q ≡ true = (and_parts _ _ (found_entry t q (node.Link target) tree.entries link)).0 in
      child_step t Full p name [] named
      ∙ ap (λ k. at_child k (at_link Full name (target_at t q) [] p) (at_file [] q) (steps t Full [] q)) (kind_of_node t q (node.Link target) proper link)
      ∙ ap (λ o. at_link Full name (target_in o) [] p) link
      ∙ ap (λ names. Follows names (start_of target p)) (append-nil (components target))

  -- the walk to a link in a directory goes on along the link's target, with one link less
  pub from_link : resolution t (join p name) Full ≡ walk t Full (LINKS_MAX - 1) (steps t Full (components target) (start_of target p))
  unfolding resolution
  from_link =
      ap (λ names. walk t Full LINKS_MAX (steps t Full names root)) joined_names
      ∙ ap (walk t Full LINKS_MAX) (to_dir t Full tree (name ∷ []) p d ∙ at_the_link)
