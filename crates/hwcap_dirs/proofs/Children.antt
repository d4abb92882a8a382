-- The children of a directory have valid names.
use Rattle.std.proofs.Common.{◌≡◌, ◌<◌, ℕ, true, List, [], ◌∷◌, ◌++◌, append_assoc, length, drop, refl, ap, sym, subst, ◌∙◌, Some, None}
use Rattle.std.proofs.lemmas.Bool.{and_from, and_parts}
use Rattle.std.proofs.lemmas.List.Folds.{list_all-append}
use Rattle.std.specs.List.{before_first, dedup, dedup_from, list_all, position, slice_split}
use Rattle.std.specs.Option.{IfSome}
use Rattle.std.specs.Str.{bytes_eq}
use Rattle.lib_types.proofs.Parting.{cut_at, cut_not_found}
use Rattle.lib_types.proofs.SortedPairs.{by_test}
use Rattle.lib_types.specs.Name.{is_name, slash}
use Rattle.image_tree.proofs.Prefixes.{parts_joined}
use Rattle.lib_types.proofs.Ends.{before_none, before_position}
use Rattle.tree_face.proofs.Pairs.{position_within}
use Rattle.image_tree.proofs.Rising.{below_rest}
use Rattle.image_tree.specs.Paths.{are_names, folder, is_below, is_path, is_slash, name_after, root, stem}
use Rattle.image_tree.specs.Tree.{Nodes, children_of, is_entry, kind_at, names_below, of_dir}
use Rattle.image_tree.specs.declared.tree.Kind.{Kind}
use Rattle.image_tree.specs.declared.tree.Kind.TheVariants.{Absent, Dir, File, Link}

-- ---- the next name of a path

first_name : (bytes : List ℕ) → are_names bytes ≡ true → is_name (before_first is_slash bytes) ≡ true
first_name bytes all = elim (position is_slash bytes) as (λ o. position is_slash bytes ≡ o → is_name (before_first is_slash bytes) ≡ true) [
  | None ↦ λ e.
      let one : are_names bytes ≡ list_all is_name (bytes ∷ []) = ap (list_all is_name) (cut_not_found is_slash bytes e) in
      subst (λ (z : List ℕ). is_name z ≡ true) (before_none is_slash bytes e) (and_parts _ _ (sym one ∙ all)).0
  | Some n ↦ λ e.
      let within : n < length bytes = subst (λ o. IfSome o (λ i. i < length bytes)) e (position_within is_slash bytes) in
      subst (λ (z : List ℕ). is_name z ≡ true) (before_position is_slash bytes n e) (and_parts _ _ (sym (ap (list_all is_name) (cut_at is_slash bytes n within e)) ∙ all)).0
] refl

rest_named : (front rest : List ℕ) → are_names (drop 1 (front ++ slash ∷ rest)) ≡ true → are_names rest ≡ true
rest_named [] rest h = h
rest_named (x ∷ front) rest h =
    (and_parts _ _ (sym (list_all-append is_name (slice_split is_slash front) (slice_split is_slash rest)) ∙ sym (ap (list_all is_name) (parts_joined front rest)) ∙ h)).1

name_of_entry : (p q : List ℕ) → is_path q ≡ true → is_below p q ≡ true → is_name (name_after (length (folder p)) q) ≡ true
name_of_entry p q proper below =
    let rest = drop (length (folder p)) q in
    let whole : q ≡ stem p ++ slash ∷ rest = below_rest p q below ∙ append_assoc (stem p) root rest in
    first_name rest (rest_named (stem p) rest (sym (ap (λ z. are_names (drop 1 z)) whole) ∙ (and_parts _ _ proper).1))

-- ---- the children

below_named : (p : List ℕ) (t : Nodes) → list_all is_entry t ≡ true → list_all is_name (names_below t p) ≡ true
below_named p [] all = refl
below_named p (e ∷ t) all =
    let parts = and_parts (is_entry e) (list_all is_entry t) all in
    by_test (is_below p e.0)
    (λ h. rw h (and_from _ _ (name_of_entry p e.0 (and_parts _ _ parts.0).0 h) (below_named p t parts.1)))
    (λ h. rw h (below_named p t parts.1))

once_named : (name : List ℕ) (names : List (List ℕ)) → is_name name ≡ true → list_all is_name names ≡ true → list_all is_name (dedup_from bytes_eq name names) ≡ true
once_named name [] h all = and_from _ _ h refl
once_named name (next ∷ names) h all = by_test (bytes_eq next name)
    (λ same. rw same (once_named name names h (and_parts _ _ all).1))
    (λ other. rw other (and_from _ _ h (once_named next names (and_parts _ _ all).0 (and_parts _ _ all).1)))

each_named : (names : List (List ℕ)) → list_all is_name names ≡ true → list_all is_name (dedup bytes_eq names) ≡ true
each_named [] all = refl
each_named (name ∷ names) all = once_named name names (and_parts _ _ all).0 (and_parts _ _ all).1

of_dir_named : (kind : Kind) (names : List (List ℕ)) → list_all is_name names ≡ true → list_all is_name (of_dir kind names) ≡ true
of_dir_named Dir names all = all
of_dir_named Absent names all = refl
of_dir_named File names all = refl
of_dir_named Link names all = refl

pub children_named : (t : Nodes) (p : List ℕ) → list_all is_entry t ≡ true → list_all is_name (children_of t p) ≡ true
children_named t p all = of_dir_named (kind_at t p) (dedup bytes_eq (names_below t p)) (each_named (names_below t p) (below_named p t all))
