-- The state with only the program.
use Rattle.std.proofs.Common.{◌≡◌, ◌||◌, ℕ, Bool, true, false, cond, not, length, List, [], ◌∷◌, Option, Some, None, IfSome, Ok, is_some, refl, sym, ap, subst, ◌∙◌, arith}
use Rattle.std.proofs.lemmas.Map.Keys.{IsDistinct-from_apart}
use Rattle.std.proofs.lemmas.Slice.Eq.{bytes_eq-Decides}
use Rattle.std.specs.Option.{option_and_then, option_map, option_map_or}
use Rattle.std.specs.Str.{bytes_eq}
use Rattle.tree_face.specs.Known.{IfKnown}
use Rattle.tree_face.specs.Store.{Contents}
use Rattle.image_tree.specs.Tree.{Nodes, node_at}
use Rattle.elf_dynamic.proofs.Objects.{analysis_ok}
use Rattle.elf_dynamic.specs.Analysis.{analysis}
use Rattle.elf_dynamic.specs.Begun.{key_in}
use Rattle.elf_dynamic.specs.Object.{object}
use Rattle.rpath_search.specs.Search.{is_library, is_library_at, is_library_of}
use Rattle.rpath_search.specs.declared.kinds.Found.{Found}
use Rattle.ldd_resolve.specs.declared.loading.Loading.{Loading}
use Rattle.rpath_search.specs.Searching.{AreKnown, is_among, is_outsider}
use Rattle.ldd_resolve.specs.Requests.{StartsSound, outsider_of}
use Rattle.ldd_resolve.specs.Resolving.{object_at}
use Rattle.ldd_resolve.proofs.MatchesKept.{or_false}

module _ (p : Found) (s : Loading) (alone : s.places.loaded ≡ p.real ∷ []) (member : length s.members.items ≡ 1) where
  itself : bytes_eq p.real p.real ≡ true
  itself = (bytes_eq-Decides p.real p.real).1 refl

  only_one : (P : List ℕ → Type 0) → P p.real → (x : List ℕ) → is_among s.places.loaded x ≡ true → P x
  only_one P here x there =
      let one : bytes_eq x p.real ≡ true = sym (or_false (bytes_eq x p.real)) ∙ sym (ap (λ l. is_among l x) alone) ∙ there in
      subst P (sym ((bytes_eq-Decides x p.real).0 one)) here

  library_is : (held : Contents) (t : Nodes) → object_at held t p.real ≡ Some (Ok p.object) → is_library_at held t p.object.abi p.real ≡ is_library p.object.abi p.object
  library_is held t says = by (option_and_then held (key_in (node_at t p.real))) says
    where
      by : (content : Option (List ℕ)) → option_map object content ≡ Some (Ok p.object) →
          option_map_or (λ bytes. is_library_of p.object.abi (analysis bytes)) content false ≡ is_library p.object.abi p.object
      by None e = absurd (cc)
      by (Some bytes) e = let same : object bytes ≡ Ok p.object = cc in ap (is_library_of p.object.abi) (analysis_ok bytes p.object same)

  -- a program that isn't a library is the outsider
  outside : (b : Bool) → not (is_outsider (cond b None (Some p.real)) p.real) ≡ b
  outside true = refl
  outside false = ap not itself

  inside : (b : Bool) → IfSome (cond b None (Some p.real)) (λ real. is_among s.places.loaded real ≡ true)
  inside true = tt
  inside false = ap (λ l. is_among l p.real) alone ∙ ap (λ b. b || false) itself

  pub first_sound : s.places.outsider ≡ outsider_of p → StartsSound p s
  first_sound outsider known t node says = record {
    libraries = libraries known says;
    outsider = rw outsider (inside (is_library p.object.abi p.object));
    distinct = rw alone (IsDistinct-from_apart bytes_eq (p.real ∷ []) (λ i j d low high. absurd (omega (arith, low, high))));
    nodes = only_one (λ x. is_some (node_at t x) ≡ true) node;
    members = member ∙ sym (ap length alone);
  }
    where
      libraries : (k : Option Contents) → IfKnown k (λ held. object_at held t p.real ≡ Some (Ok p.object)) → IfKnown k (λ held. AreKnown held t p.object.abi s.places)
      libraries None says = tt
      libraries (Some held) says = only_one (λ x. is_library_at held t p.object.abi x ≡ not (is_outsider s.places.outsider x))
          (library_is held t says ∙ sym (ap (λ o. not (is_outsider o p.real)) outsider ∙ outside (is_library p.object.abi p.object)))
