-- Each file is loaded once and is a node of the tree.
use Rattle.std.proofs.Common.{◌≡◌, ◌≤◌, ◌<◌, ◌+◌, ◌||◌, ℕ, suc, true, false, not, List, [], ◌∷◌, ◌++◌, length, Option, Some, None, IfSome, refl, sym, ap, subst, ◌∙◌, arith}
use Rattle.std.proofs.lemmas.Cmp.{nat_list_eq_equiv, tied_itself}
use Rattle.std.proofs.lemmas.List.{length-append}
use Rattle.std.proofs.lemmas.Map.Keys.{IsDistinct-push}
use Rattle.std.proofs.lemmas.Map.Steps.{length-le_from_keys}
use Rattle.std.proofs.lemmas.Slice.Eq.{bytes_eq-Decides}
use Rattle.std.specs.BTreeMap.{is_at}
use Rattle.std.specs.Cmp.{Equal-is}
use Rattle.std.specs.Map.{lookup}
use Rattle.std.specs.Option.{IsSome, is_some}
use Rattle.std.specs.Str.{bytes_eq}
use Rattle.lib_types.proofs.SortedPairs.{by_test}
use Rattle.lib_types.specs.declared.abi.Abi.{Abi}
use Rattle.image_tree.proofs.Below.{exact}
use Rattle.image_tree.proofs.Order.{path_total}
use Rattle.image_tree.specs.declared.node.Node.{Node}
use Rattle.tree_face.specs.Known.{IfKnown}
use Rattle.image_tree.specs.Paths.{path_cmp}
use Rattle.tree_face.specs.Store.{Contents}
use Rattle.image_tree.specs.Tree.{Nodes, node_at}
use Rattle.rpath_search.specs.Search.{is_library_at}
use Rattle.ldd_resolve.specs.declared.loading.Loading.{Loading}
use Rattle.rpath_search.specs.declared.search.LoadedFiles.{LoadedFiles}
use Rattle.rpath_search.specs.Searching.{AreKnown, is_among, is_outsider}
use Rattle.ldd_resolve.specs.Loading.{Grows, IsSound}
use Rattle.ldd_resolve.specs.Requests.{IsEven}
use Rattle.ldd_resolve.proofs.MatchesKept.{among_one}

-- ---- the number of loaded files

-- looking up a path's node is a lookup by the path's bytes
same_lookup : (t : Nodes) (q : List ℕ) → node_at t q ≡ lookup (bytes_eq q) t
same_lookup [] q = refl
same_lookup (e ∷ t) q = by_test (is_at (path_cmp q) e.0)
    (λ here.
    let same : q ≡ e.0 = exact q e.0 ((Equal-is (path_cmp q e.0)).0 here) in
    let there : bytes_eq q e.0 ≡ true = (bytes_eq-Decides q e.0).1 same in
    rw (here, there) refl)
    (λ other. by_test (bytes_eq q e.0)
    (λ there.
    let same : q ≡ e.0 = (bytes_eq-Decides q e.0).0 there in
    absurd (let here : is_at (path_cmp q) e.0 ≡ true = subst (λ p. is_at (path_cmp q) p ≡ true) same (at_itself q) in cc))
    (λ none. rw (other, none) (same_lookup t q)))
  where
    at_itself : (q : List ℕ) → is_at (path_cmp q) q ≡ true
    at_itself q = (Equal-is (path_cmp q q)).1 (tied_itself path_total q)

node_found : (o : Option Node) → is_some o ≡ true → IsSome o
node_found None none = absurd (cc)
node_found (Some n) there = refl

-- there are at most as many loaded files as nodes
pub files_few : (known : Option Contents) (t : Nodes) (abi : Abi) (s : Loading) → IsSound known t abi s → length s.places.loaded ≤ length t
files_few known t abi s sound =
    length-le_from_keys nat_list_eq_equiv s.places.loaded t sound.distinct
    (λ q there. node_found (lookup (bytes_eq q) t) (ap is_some (sym (same_lookup t q)) ∙ sound.nodes q there))

-- ---- one more file

module _ (t : Nodes) (abi : Abi) (s : Loading) (real : List ℕ) (new : is_among s.places.loaded real ≡ false) where
  abbrev more : LoadedFiles
  more = record s.places { loaded = s.places.loaded ++ real ∷ [] }

  -- the program is already loaded, so the new file is a different one
  other_file : (outsider : Option (List ℕ)) → IfSome outsider (λ o. is_among s.places.loaded o ≡ true) → is_outsider outsider real ≡ false
  other_file None there = refl
  other_file (Some o) there = by_test (bytes_eq real o)
      (λ same. absurd (let loaded : is_among s.places.loaded real ≡ true = subst (λ y. is_among s.places.loaded y ≡ true) (sym ((bytes_eq-Decides real o).0 same)) there in cc))
      (λ other. other)

  -- a fact that holds for each loaded file and for the new one
  each_of : (P : List ℕ → Type 0) → ((x : List ℕ) → is_among s.places.loaded x ≡ true → P x) → P real → (x : List ℕ) → is_among more.loaded x ≡ true → P x
  each_of P old here x there = by_test (is_among s.places.loaded x)
      (λ before. old x before)
      (λ later.
      let last : bytes_eq x real ≡ true = sym (ap (λ b. b || bytes_eq x real) later) ∙ sym (among_one s.places.loaded real x) ∙ there in
      subst P (sym ((bytes_eq-Decides x real).0 last)) here)

  pub sound_more : (known : Option Contents) (s2 : Loading) → IsSound known t abi s → s2.places ≡ more → length s2.members.items ≡ length s.members.items + 1 → is_some (node_at t real) ≡ true →
      IfKnown known (λ held. is_library_at held t abi real ≡ true) → IsSound known t abi s2
  sound_more known s2 sound places members node library = rw places (record {
    libraries = libraries known sound.libraries library;
    outsider = outsider s.places.outsider sound.outsider;
    distinct = IsDistinct-push nat_list_eq_equiv s.places.loaded real sound.distinct new;
    nodes = each_of (λ x. is_some (node_at t x) ≡ true) sound.nodes node;
    members = members ∙ ap (λ n. n + 1) sound.members ∙ sym (length-append s.places.loaded (real ∷ []));
  })
    where
      libraries : (k : Option Contents) → IfKnown k (λ held. AreKnown held t abi s.places) → IfKnown k (λ held. is_library_at held t abi real ≡ true) → IfKnown k (λ held. AreKnown held t abi more)
      libraries None old here = tt
      libraries (Some held) old here = each_of (λ x. is_library_at held t abi x ≡ not (is_outsider s.places.outsider x)) old (here ∙ ap not (sym (other_file s.places.outsider sound.outsider)))

      outsider : (o : Option (List ℕ)) → IfSome o (λ real. is_among s.places.loaded real ≡ true) → IfSome o (λ real. is_among more.loaded real ≡ true)
      outsider None there = tt
      outsider (Some o) there = among_one s.places.loaded real o ∙ ap (λ b. b || bytes_eq o real) there

pub sound_same : (known : Option Contents) (t : Nodes) (abi : Abi) (s s2 : Loading) → IsSound known t abi s → s2.places ≡ s.places → length s2.members.items ≡ length s.members.items → IsSound known t abi s2
sound_same known t abi s s2 sound places members = record {
  libraries = rw places sound.libraries;
  outsider = rw places sound.outsider;
  distinct = rw places sound.distinct;
  nodes = rw places sound.nodes;
  members = members ∙ sound.members ∙ sym (ap (λ p. length p.loaded) places);
}

pub grows_then : (a b c : Loading) → Grows a b → Grows b c → Grows a c
grows_then a b c first next = record {
  more = first.more + next.more;
  loaders = omega (arith, first.loaders, next.loaders);
  places = omega (arith, first.places, next.places);
  pending = omega (arith, first.pending, next.pending);
}

pub grows_none : (a : Loading) → Grows a a
grows_none a = record { more = 0; loaders = omega arith; places = omega arith; pending = omega arith }

-- ---- the next object

module _ (s s2 : Loading) (n : ℕ) (needed : List (List ℕ)) (even : IsEven s n) (queue : s.pending.items ≡ needed ∷ s2.pending.items) where
  one_fewer : length s.pending.items ≡ suc (length s2.pending.items)
  one_fewer = ap length queue

  pub turn_within : (known : Option Contents) (t : Nodes) (abi : Abi) → IsSound known t abi s → n < length t
  turn_within known t abi sound =
      let few = files_few known t abi s sound in
      let links = even.places in
      let pending = even.pending in
      let fewer = one_fewer in
      omega (arith, few, links, pending, fewer)

  pub even_then : (s3 : Loading) → s2.loaders ≡ s.loaders → s2.places ≡ s.places → Grows s2 s3 → IsEven s3 (n + 1)
  even_then s3 links places grows =
      let l : length s2.loaders ≡ length s.loaders = ap length links in
      let p : length s2.places.loaded ≡ length s.places.loaded = ap (λ x. length x.loaded) places in
      let fewer = one_fewer in
      record {
        places = omega (arith, even.places, grows.loaders, grows.places, l, p);
        pending = omega (arith, even.pending, grows.loaders, grows.pending, l, fewer);
      }
