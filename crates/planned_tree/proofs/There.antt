-- A name is in a directory exactly if something is at its path.
use Rattle.std.proofs.Common.{◌≡◌, ◌⊎◌, inl, inr, ⊎_elim, get_or, ℕ, Bool, true, false, cond, not, ◌&&◌, ◌||◌, ◌==◌, List, [], ◌∷◌, ◌++◌, append_assoc, length, drop, refl, ap, sym, ◌∙◌, Option, Some, None}
use Rattle.std.proofs.Math.Bool.{or-true}
use Rattle.std.proofs.lemmas.Bool.{and_from, and_parts, cases_lt, eqb-true, or_parts}
use Rattle.std.proofs.lemmas.Bool.Decides.{Decides-eqb}
use Rattle.std.proofs.lemmas.Cmp.{nat_list_eq_equiv, tied_itself}
use Rattle.std.proofs.lemmas.List.{drop_at, take_all}
use Rattle.std.proofs.lemmas.List.Kept.{Contains-dedup, Contains-from_dedup}
use Rattle.std.proofs.lemmas.List.Sums.{passes_at_first, split_at_first}
use Rattle.std.proofs.lemmas.Map.Views.{Contains-from_any, list_any-from_Contains}
use Rattle.std.proofs.lemmas.Slice.Eq.{bytes_eq-Decides, starts_is}
use Rattle.std.specs.BTreeMap.{is_at}
use Rattle.std.specs.List.{after_first, before_first, dedup, list_all, list_any, position_or_len}
use Rattle.std.specs.Ordering.{is_eq}
use Rattle.std.specs.Str.{bytes_eq}
use Rattle.lib_types.proofs.Bools.{not_true}
use Rattle.lib_types.proofs.SortedPairs.{by_test}
use Rattle.lib_types.specs.Name.{have_no_slash, is_name, slash}
use Rattle.path_walk.proofs.KindsAt.{at_none, at_path, at_root}
use Rattle.path_walk.proofs.Linked.{some_join}
use Rattle.path_walk.specs.Names.{last}
use Rattle.image_tree.proofs.Above.{found_any}
use Rattle.image_tree.proofs.Below.{below_from, below_is}
use Rattle.image_tree.proofs.Order.{path_total}
use Rattle.image_tree.proofs.Prefixes.{path_above}
use Rattle.image_tree.proofs.Rising.{below_rest, first_name, name_ended, name_goes_on}
use Rattle.image_tree.specs.Paths.{folder, is_below, is_path, is_slash, join, name_after, path_cmp, root, stem}
use Rattle.image_tree.specs.Tree.{Nodes, children_of, has_below, is_entry, kind_at, kind_there, names_below, node_at, of_dir}
use Rattle.image_tree.specs.declared.node.Node.{Node}
use Rattle.image_tree.specs.declared.node.Node.TheVariants as node
use Rattle.image_tree.specs.declared.tree.Kind.TheVariants as kinds
use Rattle.path_walk.proofs.Last.{last_joined, first_alone}
use Rattle.string_pool.proofs.Members.{is_in}
use Rattle.lib_types.proofs.SameTexts.{exact}
use Rattle.soname_links.proofs.Joined.{no_slash_in}

-- ---- the first name of a text

first_more : (name more : List ℕ) → have_no_slash name ≡ true → first_name (name ++ slash ∷ more) ≡ name
first_more [] more h = name_ended slash more refl
first_more (b ∷ name) more h =
    let parts = and_parts (not (b == slash) && not (b == 0)) (have_no_slash name) h in
    name_goes_on b (name ++ slash ∷ more) (not_true (b == slash) (and_parts _ _ parts.0).0) ∙ ap (λ z. b ∷ z) (first_more name more parts.1)

-- ---- names, each once

from_once : (z : List ℕ) (names : List (List ℕ)) → is_in (dedup bytes_eq names) z ≡ true → is_in names z ≡ true
from_once z names h = list_any-from_Contains nat_list_eq_equiv z names (Contains-from_dedup bytes_eq names z (Contains-from_any exact z (dedup bytes_eq names) h))

once : (z : List ℕ) (names : List (List ℕ)) → is_in names z ≡ true → is_in (dedup bytes_eq names) z ≡ true
once z names h = list_any-from_Contains nat_list_eq_equiv z (dedup bytes_eq names) (Contains-dedup nat_list_eq_equiv exact names z (Contains-from_any exact z names h))

module _ (d z : List ℕ) where
  -- the path goes on from the directory by the name
  abbrev goes_by : List ℕ → Bool
  goes_by p = is_below d p && bytes_eq z (name_after (length (folder d)) p)

  in_below : (t : Nodes) → is_in (names_below t d) z ≡ list_any (λ e. goes_by e.0) t
  in_below [] = refl
  in_below (e ∷ t) = by_test (is_below d e.0)
      (λ b. rw b (ap (λ c. bytes_eq z (name_after (length (folder d)) e.0) || c) (in_below t)))
      (λ b. rw b (in_below t))

  -- ---- from a path to what is at the name's

  to_name : (p : List ℕ) → goes_by p ≡ true → (p ≡ join d z) ⊎ ((more : List ℕ) × (p ≡ join d z ++ slash ∷ more))
  to_name p h =
      let parts = and_parts (is_below d p) (bytes_eq z (name_after (length (folder d)) p)) h in
      let rest = drop (length (folder d)) p in
      let whole : p ≡ folder d ++ rest = below_rest d p parts.0 in
      let here : before_first is_slash rest ≡ z = sym (exact z (before_first is_slash rest) parts.1) in
      ⊎_elim
      (λ lt.
      let at_slash : get_or rest (position_or_len is_slash rest) slash ≡ slash = eqb-true _ slash (passes_at_first is_slash rest slash lt) in
      let parted : rest ≡ z ++ slash ∷ after_first is_slash rest =
      split_at_first is_slash rest slash lt ∙ ap (λ b. before_first is_slash rest ++ b ∷ after_first is_slash rest) at_slash
      ∙ ap (λ name. name ++ slash ∷ after_first is_slash rest) here in
      inr (after_first is_slash rest, whole ∙ ap (λ x. folder d ++ x) parted ∙ sym (append_assoc (folder d) z _)))
      (λ ge. inl (whole ∙ ap (λ x. folder d ++ x) (sym (take_all (position_or_len is_slash rest) rest ge) ∙ here)))
      (cases_lt (position_or_len is_slash rest) (length rest))

  abbrev IsNothing : Nodes → Type 0
  IsNothing t = (node_at t (join d z) ≡ None) × (has_below t (join d z) ≡ false)

  later_none : (q : List ℕ) (e : List ℕ × Node) (t : Nodes) → node_at (e ∷ t) q ≡ None → node_at t q ≡ None
  later_none q e t h = by_test (is_at (path_cmp q) e.0)
      (λ a. let z : Some e.1 ≡ None = sym (ap (λ b. cond b (Some e.1) (node_at t q)) a) ∙ h in absurd (cc))
      (λ a. sym (ap (λ b. cond b (Some e.1) (node_at t q)) a) ∙ h)

  not_nothing : (e : List ℕ × Node) (t : Nodes) → is_path e.0 ≡ true → (is_path (join d z) ≡ true → IsNothing (e ∷ t))
      → (e.0 ≡ join d z) ⊎ ((more : List ℕ) × (e.0 ≡ join d z ++ slash ∷ more)) → ⊥
  not_nothing e t proper none (inl same) =
      let q = join d z in
      let nothing = (none (sym (ap is_path same) ∙ proper)).0 in
      let found : is_at (path_cmp q) e.0 ≡ true = ap (is_at (path_cmp q)) same ∙ ap is_eq (tied_itself path_total q) in
      let some : Some e.1 ≡ None = sym (ap (λ b. cond b (Some e.1) (node_at t q)) found) ∙ nothing in
      cc
  not_nothing e t proper none (inr (more, whole)) =
      let q = join d z in
      let above : is_path q ≡ true = path_above q more (some_join (stem d) z) (sym (ap is_path whole) ∙ proper) in
      let nothing = (none above).1 in
      let below : has_below (e ∷ t) q ≡ true = ap (λ b. b || has_below t q) (below_from q e.0 more above whole) in
      cc

  none_goes : (t : Nodes) → list_all is_entry t ≡ true → (is_path (join d z) ≡ true → IsNothing t) → list_any (λ e. goes_by e.0) t ≡ true → ⊥
  none_goes [] all none h = absurd (cc)
  none_goes (e ∷ t) all none h =
      let parts = and_parts (is_entry e) (list_all is_entry t) all in
      by_test (goes_by e.0)
      (λ g. not_nothing e t (and_parts _ _ parts.0).0 none (to_name e.0 g))
      (λ g.
      none_goes t parts.1 (λ p. (later_none (join d z) e t (none p).0, (or_parts (is_below (join d z) e.0) _ (none p).1).1))
      (sym (ap (λ b. b || list_any (λ e. goes_by e.0) t) g) ∙ h))

  -- ---- from the name's path to those that go by it

  module _ (named : is_name z ≡ true) where
    goes : (p rest : List ℕ) → p ≡ folder d ++ rest → first_name rest ≡ z → goes_by p ≡ true
    goes p rest whole first =
        let name : z ≡ name_after (length (folder d)) p = sym (ap (λ x. first_name (drop (length (folder d)) x)) whole ∙ ap first_name (drop_at (folder d) rest (length (folder d)) refl) ∙ first) in
        and_from _ _ ((starts_is Decides-eqb p (folder d) (is_below d p) refl).1 rest whole) ((bytes_eq-Decides z _).1 name)

    goes_below : (p : List ℕ) → is_path (join d z) ≡ true → is_below (join d z) p ≡ true → goes_by p ≡ true
    goes_below p proper below =
        let cut = below_is (join d z) p proper below in
        goes p (z ++ slash ∷ cut.0) (cut.1 ∙ append_assoc (folder d) z (slash ∷ cut.0)) (first_more z cut.0 (no_slash_in z named))

    any_goes : (t : Nodes) → is_path (join d z) ≡ true → has_below t (join d z) ≡ true → list_any (λ e. goes_by e.0) t ≡ true
    any_goes [] proper h = absurd (cc)
    any_goes (e ∷ t) proper h = by_test (is_below (join d z) e.0)
        (λ b. ap (λ x. x || list_any (λ e. goes_by e.0) t) (goes_below e.0 proper b))
        (λ b. ap (λ x. goes_by e.0 || x) (any_goes t proper (sym (ap (λ x. x || has_below t (join d z)) b) ∙ h)) ∙ or-true (goes_by e.0))

    not_the_root : bytes_eq (join d z) root ≡ true → ⊥
    not_the_root e =
        let empty : z ≡ [] = sym (last_joined d z named) ∙ ap last (exact (join d z) root e) in
        let unnamed : is_name z ≡ false = ap is_name empty in
        cc

module _ (t : Nodes) (entries : list_all is_entry t ≡ true) (d : List ℕ) (dir : kind_at t d ≡ kinds.Dir) (z : List ℕ) where
  children_are : children_of t d ≡ dedup bytes_eq (names_below t d)
  children_are = ap (λ kind. of_dir kind (dedup bytes_eq (names_below t d))) dir

  absent_nothing : kind_at t (join d z) ≡ kinds.Absent → is_path (join d z) ≡ true → IsNothing d z t
  absent_nothing absent proper = by_test (bytes_eq (join d z) root)
      (λ e. let z : kinds.Dir ≡ kinds.Absent = sym (at_root t (join d z) e) ∙ absent in absurd (cc))
      (λ e. by (node_at t (join d z)) (has_below t (join d z)) (sym (at_path t (join d z) e proper) ∙ absent))
    where
      by : (o : Option Node) (b : Bool) → kind_there o b ≡ kinds.Absent → (o ≡ None) × (b ≡ false)
      by None false h = (refl, refl)
      by None true h = absurd (cc)
      by (Some node.Dir) b h = absurd (cc)
      by (Some (node.File key id)) b h = absurd (cc)
      by (Some (node.Link target)) b h = absurd (cc)

  -- something is at the path of a child
  pub child_there : is_in (children_of t d) z ≡ true → kind_at t (join d z) ≡ kinds.Absent → ⊥
  child_there h absent =
      let names : is_in (dedup bytes_eq (names_below t d)) z ≡ true = sym (ap (λ names. is_in names z) children_are) ∙ h in
      none_goes d z t entries (absent_nothing absent) (sym (in_below d z t) ∙ from_once z (names_below t d) names)

  -- a name is a child if something is at its path
  pub there_child : is_name z ≡ true → (kind_at t (join d z) ≡ kinds.Absent → ⊥) → is_in (children_of t d) z ≡ true
  there_child named there =
      let goes : list_any (λ e. goes_by d z e.0) t ≡ true = by_test (bytes_eq (join d z) root)
      (λ e. absurd (not_the_root d z named e))
      (λ e. by_test (is_path (join d z))
      (λ proper. by proper (node_at t (join d z)) refl (has_below t (join d z)) refl (λ h. there (at_path t (join d z) e proper ∙ h)))
      (λ f. absurd (there (at_none t (join d z) e f)))) in
      ap (λ names. is_in names z) children_are ∙ once z (names_below t d) (in_below d z t ∙ goes)
    where
      by : is_path (join d z) ≡ true → (o : Option Node) → node_at t (join d z) ≡ o → (b : Bool) → has_below t (join d z) ≡ b
          → (kind_there (node_at t (join d z)) (has_below t (join d z)) ≡ kinds.Absent → ⊥) → list_any (λ e. goes_by d z e.0) t ≡ true
      by proper (Some n) e b h some = found_any (λ e. goes_by d z e.0) t (join d z) n e (goes d z named (join d z) z refl (first_alone z (no_slash_in z named)))
      by proper None e true h some = any_goes d z named t proper h
      by proper None e false h some = absurd (some (ap (λ o. kind_there o (has_below t (join d z))) e ∙ ap (kind_there None) h))
