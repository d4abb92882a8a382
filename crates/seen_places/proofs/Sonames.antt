-- A library name that a search directory lacks has no node there, in the tree and in the part: it need not be looked up.
use Rattle.std.proofs.Common.{◌≡◌, ℕ, Bool, true, false, ◌&&◌, ◌||◌, List, [], ◌∷◌, filter, length, refl, ap, sym, ◌∙◌, Option, Some, None}
use Rattle.std.proofs.lemmas.Bool.{and_from, and_parts, false≢true}
use Rattle.std.proofs.lemmas.Bool.Decides.{Decides-eqb}
use Rattle.std.proofs.lemmas.List.{drop_at}
use Rattle.std.proofs.lemmas.Slice.Eq.{bytes_eq-Decides, starts_is}
use Rattle.std.specs.List.{dedup, list_any}
use Rattle.std.specs.Str.{bytes_eq}
use Rattle.image_tree.proofs.Above.{found_any}
use Rattle.image_tree.proofs.Rising.{first_name}
use Rattle.image_tree.specs.Paths.{folder, is_below, join, name_after}
use Rattle.image_tree.specs.Tree.{Nodes, children_of, kind_at, names_below, node_at, of_dir}
use Rattle.image_tree.specs.declared.node.Node.{Node}
use Rattle.image_tree.specs.declared.tree.Kind.TheVariants as kinds
use Rattle.lib_types.proofs.SortedPairs.{by_test}
use Rattle.lib_types.specs.Name.{have_no_slash, is_name}
use Rattle.name_order.specs.LibraryName.{is_library_name}
use Rattle.string_pool.proofs.Members.{dedup_in, is_in, kept_in}
use Rattle.seen_tree.specs.Part.{AreSeen, IsPart, IsSeen, listed}
use Rattle.seen_places.proofs.Each.{seen_at}
use Rattle.path_walk.proofs.Last.{first_alone}

module _ (t : Nodes) (d : List ℕ) (dir : kind_at t d ≡ kinds.Dir) (z : List ℕ) (named : is_name z ≡ true) where
  -- the path continues from the directory by the name
  abbrev goes_by : List ℕ → Bool
  goes_by p = is_below d p && bytes_eq z (name_after (length (folder d)) p)

  in_below : (nodes : Nodes) → is_in (names_below nodes d) z ≡ list_any (λ e. goes_by e.0) nodes
  in_below [] = refl
  in_below (e ∷ nodes) = by_test (is_below d e.0)
      (λ b. rw b (ap (λ c. bytes_eq z (name_after (length (folder d)) e.0) || c) (in_below nodes)))
      (λ b. rw b (in_below nodes))

  goes_itself : goes_by (join d z) ≡ true
  goes_itself =
      let flat : have_no_slash z ≡ true = (and_parts _ _ (and_parts _ _ named).0).1 in
      let name : z ≡ name_after (length (folder d)) (join d z) = sym (ap first_name (drop_at (folder d) z (length (folder d)) refl) ∙ first_alone z flat) in
      and_from _ _ ((starts_is Decides-eqb (join d z) (folder d) (is_below d (join d z)) refl).1 z refl) ((bytes_eq-Decides z _).1 name)

  -- a name with a node is in the directory
  pub child_of_node : (n : Node) → node_at t (join d z) ≡ Some n → is_in (children_of t d) z ≡ true
  child_of_node n e =
      ap (λ kind. is_in (of_dir kind (dedup bytes_eq (names_below t d))) z) dir ∙ dedup_in (bytes_eq z) (names_below t d) ∙ in_below t
      ∙ found_any (λ (f : List ℕ × Node). goes_by f.0) t (join d z) n e goes_itself

  pub no_node : is_in (children_of t d) z ≡ false → node_at t (join d z) ≡ None
  no_node none = by (node_at t (join d z)) refl
    where
      by : (o : Option Node) → node_at t (join d z) ≡ o → o ≡ None
      by None e = refl
      by (Some n) e = absurd (false≢true (sym none ∙ child_of_node n e))

module _ (t part : Nodes) (is : IsPart t part) (d : List ℕ) (dir : kind_at t d ≡ kinds.Dir) (all : AreSeen t part (listed is_library_name t d)) where
  both_none : (q : List ℕ) (o : Option Node) → node_at part q ≡ o → node_at t q ≡ None → o ≡ None
  both_none q None e none = refl
  both_none q (Some n) e none = let z : Some n ≡ None = sym (is.nodes q n e) ∙ none in absurd (cc)

  -- if the library names of a directory were seen, so was each library name
  pub soname_seen : (soname : List ℕ) → is_name soname ≡ true → is_library_name soname ≡ true → IsSeen t part (join d soname)
  soname_seen soname named library = by_test (is_in (children_of t d) soname)
      (λ e. seen_at t part d soname (filter is_library_name (children_of t d)) all.1 (kept_in is_library_name soname (children_of t d) ∙ and_from _ _ library e))
      (λ e.
      let none : node_at t (join d soname) ≡ None = no_node t d dir soname named e in
      both_none (join d soname) (node_at part (join d soname)) refl none ∙ sym none)
