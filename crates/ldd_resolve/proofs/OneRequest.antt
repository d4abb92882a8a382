-- The requests of one object, one after another.
use Rattle.std.proofs.Common.{◌≡◌, ◌+◌, ◌<◌, ℕ, suc, true, false, List, [], ◌∷◌, ◌++◌, drop, get_or, length, map, Option, Some, None, refl, sym, ap, subst, ◌∙◌, arith}
use Rattle.std.proofs.lemmas.List.{append-nil}
use Rattle.std.specs.Option.{option_copied}
use Rattle.std.specs.List.{list_any}
use Rattle.lib_types.proofs.SortedPairs.{by_test}
use Rattle.lib_types.specs.declared.abi.Abi.{Abi}
use Rattle.tree_face.specs.Known.{IfKnown}
use Rattle.image_tree.specs.Tree.{Nodes}
use Rattle.tree_face.specs.Store.{Contents, StoreState}
use Rattle.tree_face.specs.StoreUse.{Ending, Complete, DeviceFailed, GaveUp}
use Rattle.rpath_search.specs.Candidates.{all_paths}
use Rattle.rpath_search.specs.Loaders.{reach_at}
use Rattle.rpath_search.specs.Places.{Reach, paths, reach_of}
use Rattle.rpath_search.specs.Search.{first_good, is_library_at}
use Rattle.rpath_search.specs.declared.kinds.Env.{Env}
use Rattle.ldd_resolve.specs.Links.{reach_in}
use Rattle.rpath_search.specs.declared.fault.SearchFault.{SearchFault}
use Rattle.rpath_search.specs.declared.fault.SearchFault.TheVariants.{StoreFault, NoMemory}
use Rattle.rpath_search.specs.declared.kinds.Owner.{Owner}
use Rattle.ldd_resolve.specs.declared.loading.Loading.{Loading}
use Rattle.ldd_resolve.specs.declared.requests.Given.{Given}
use Rattle.rpath_search.specs.declared.search.Answer.{Answer}
use Rattle.rpath_search.specs.declared.search.Answer.TheVariants as answer
use Rattle.rpath_search.specs.Searching.{Finds, IsNew, is_among}
use Rattle.ldd_resolve.specs.Listing.{Inputs, Record, Request, found_by, is_called, item, keys_searched, left, loaded, named, part_along, places_of, record_after, replied, requests, with_found, with_missing, with_search}
use Rattle.ldd_resolve.specs.declared.kinds.Reply.TheVariants.{Known, Loads, Missing}
use Rattle.ldd_resolve.specs.declared.loading.Searched.{Searched}
use Rattle.rpath_search.specs.declared.parts.Part.{Part}
use Rattle.rpath_search.specs.Parts.{part_of}
use Rattle.ldd_resolve.specs.Loading.{Advances, GoesBy, HasOutcome, IsSoundAnswer, TakesAnswer}
use Rattle.ldd_resolve.specs.Requests.{BeginsPaths, FindsBy, IsAt, IsPartAt, inputs_by, paths_at, paths_by, requests_by}
use Rattle.ldd_resolve.specs.Resolving.{IfComplete, cached_in}
use Rattle.tree_face.proofs.StoreUse.{unread}
use Rattle.ldd_resolve.proofs.Advances.{unread_held}
use Rattle.ldd_resolve.proofs.Outcomes.{IsPart, chain_kept, known_matches, outcome}
use Rattle.ldd_resolve.proofs.Objects.{failing}
use Rattle.ldd_resolve.proofs.MatchesKept.{reach_there, same_count}
use Rattle.rpath_search.proofs.Libraries.{is_one}
use Rattle.ldd_resolve.proofs.Records.{record_known, record_searched}

-- the result of a search doesn't change the keys
found_keys : (w : Inputs) (r : Record) (q : Request) (found : Option (List ℕ × List ℕ)) → (with_found w r q found).keys ≡ r.keys
found_keys w r q None = refl
found_keys w r q (Some f) = by_test (is_among (places_of r.objects) f.1) (λ h. rw h refl) (λ h. rw h refl)

found_count : (w : Inputs) (r : Record) (q : Request) (found : Option (List ℕ × List ℕ)) → (with_found w r q found).answered ≡ r.answered
found_count w r q None = refl
found_count w r q (Some f) = by_test (is_among (places_of r.objects) f.1) (λ h. rw h refl) (λ h. rw h refl)

module _ (w : Inputs) (r : Record) (q : Request) (all : List (List ℕ)) where
  abbrev with_keys : Record
  with_keys = record r { keys = r.keys ++ keys_searched w.held w.nodes w.env.abi (places_of r.objects) all }

  search_keys : (with_search w r q all).keys ≡ with_keys.keys
  search_keys = found_keys w with_keys q (found_by w all)

  search_count : (with_search w r q all).answered ≡ r.answered
  search_count = found_count w with_keys q (found_by w all)

-- the answer of a search is a library and a node of the tree
pub sound_answer : (known : Option Contents) (g : Given) (places all : List (List ℕ)) (found : Option Answer) → FindsBy known g places all found → IsNew known g.tree.now g.env.now.abi places found →
    IsSoundAnswer known g.tree.now g.env.now.abi found
sound_answer known g places all None finds there = tt
sound_answer known g places all (Some (answer.Loaded i path)) finds there = tt
sound_answer known g places all (Some (answer.New f)) finds there = (there.node, by known finds)
  where
    by_path : (held : Contents) (first : Option (List ℕ)) → Finds held g.tree.now g.env.now.abi places first (Some (answer.New f)) →
        is_library_at held g.tree.now g.env.now.abi f.real ≡ true
    by_path held None found = absurd found
    by_path held (Some path) found = is_one held g.tree.now g.env.now.abi f.real f.object found.object

    by : (k : Option Contents) → FindsBy k g places all (Some (answer.New f)) → IfKnown k (λ held. is_library_at held g.tree.now g.env.now.abi f.real ≡ true)
    by None found = tt
    by (Some held) found = by_path held (first_good held g.tree.now g.env.now.abi all) found

-- the search paths of a name that an object with this chain needs
paths_same : (env : Env) (name : List ℕ) (chain : List Owner) (cached : Option (List ℕ)) (reach : Reach) → reach_in env chain ≡ Some reach →
    all_paths name env reach cached ≡ paths name chain env cached
unfolding paths
paths_same env name [] cached reach same = absurd (cc)
paths_same env name (o ∷ more) cached reach same = let is : reach_of env o more ≡ reach = cc in ap (λ r. all_paths name env r cached) (sym is)

-- the part of the search for a name that an object with this chain needs
part_same : (w : Inputs) (name path : List ℕ) (chain : List Owner) (reach : Reach) → reach_in w.env chain ≡ Some reach →
    part_along w name path chain ≡ part_of name w.env reach (w.cached name) path
part_same w name path [] reach same = absurd (cc)
part_same w name path (o ∷ more) reach same = let is : reach_of w.env o more ≡ reach = cc in ap (λ r. part_of name w.env r (w.cached name) path) is

-- an answer doesn't depend on the number of answered requests
counted_outcome : (r r2 : Record) (n : ℕ) (q : Request) (found : Option Answer) (part : Part) → HasOutcome (record r { answered = n }) q found part r2 → HasOutcome r q found part r2
counted_outcome r r2 n q None part out = record { objects = out.objects; items = out.items; replies = out.replies; found = out.found }
counted_outcome r r2 n q (Some (answer.Loaded i path)) part out = record { within = out.within; objects = out.objects; items = out.items; replies = out.replies; found = out.found }
counted_outcome r r2 n q (Some (answer.New f)) part out = record { objects = out.objects; items = out.items; replies = out.replies; found = out.found }

-- there is a record for this answer to a request
some_outcome : (r : Record) (q : Request) (known : Option Contents) (t : Nodes) (abi : Abi) (found : Option Answer) (part : Part) → IsNew known t abi (places_of r.objects) found →
    (r2 : Record) × (HasOutcome r q found part r2 × (r2.answered ≡ suc r.answered))
some_outcome r q known t abi None part there =
    (record r { answered = suc r.answered; items = with_missing q.name r.items; replies = r.replies ++ Missing ∷ [] }, (record { objects = refl; items = refl; replies = refl; found = refl }, refl))
some_outcome r q known t abi (Some (answer.Loaded i path)) part there = (
  record r { answered = suc r.answered; objects = map (named (get_or (places_of r.objects) i []) q.name) r.objects; replies = r.replies ++ Known ∷ []; found = r.found ++ path ∷ [] },
  (record { within = there; objects = refl; items = refl; replies = refl; found = refl }, refl),
)
some_outcome r q known t abi (Some (answer.New f)) part there = (
  record r {
    answered = suc r.answered;
    objects = r.objects ++ loaded f.path f.real f.object.dynamic (Some q.name) q.chain ∷ [];
    items = r.items ++ item q.name (Some f.path) ∷ [];
    replies = r.replies ++ Loads (length r.objects) part ∷ [];
    found = r.found ++ f.path ∷ [];
  },
  (record { objects = refl; items = refl; replies = refl; found = refl }, refl),
)

module _ (g : Given) (r : Record) (s : Loading) (number : ℕ) (chain : List Owner) (name : List ℕ) (rest : List (List ℕ)) (here : IsAt g.env.now r s number chain (name ∷ rest)) where
  abbrev q : Request
  q = record { name = name; chain = chain }

  abbrev counted : Record
  counted = record r { answered = r.answered + 1 }

  -- the remaining requests begin with this one
  next : (more : List Request) × (left r ≡ q ∷ more)
  next = (requests_by chain rest ++ requests (drop (suc number) r.objects), here.matching.left)

  -- the paths at which the name is searched
  pub same_paths : number < length s.loaders → paths_at g name (reach_at s.loaders number) ≡ paths_by g name chain
  same_paths within = paths_same g.env.now name chain (cached_in (option_copied g.cache) g.env.now name) (reach_at s.loaders number)
      (ap (reach_in g.env.now) (sym here.chain_is) ∙ reach_there g.env.now s.loaders r.objects number here.matching.linked within)

  -- an object has this name
  module _ (s2 : Loading) (kept : s2 ≡ record s { replies = s.replies ++ Known ∷ [] }) where
    known_at : IsAt g.env.now (replied counted Known) s2 number chain rest
    known_at = record { matching = known_matches g.env.now r (replied counted Known) s s2 (suc number) q (requests_by chain rest) here.matching refl kept; chain_is = here.chain_is }

    pub known_name : (known : Option Contents) (st : StoreState) → is_among s.names name ≡ true →
        Advances known (inputs_by g) r Complete (λ r2. IsAt g.env.now r2 s2 number chain rest) st st
    known_name None st there = record { reads = unread st; some = replied counted Known; holds = known_at }
    known_name (Some held) st there =
        let called : list_any (is_called name) r.objects ≡ true = sym (here.matching.names name) ∙ there in
        let one = record_known (inputs_by g held) r q next.0 next.1 called in
        record {
          requests = 1;
          keys = [];
          begun = ap (λ (x : Record). x.keys) one ∙ sym (append-nil r.keys);
          begins = unread_held held st;
          holds = subst (λ x. IsAt g.env.now x s2 number chain rest) (sym one) known_at;
        }

  -- ---- no object has this name

  searched_is : (held : Contents) (all : List (List ℕ)) → all ≡ paths_by g name chain → is_among s.names name ≡ false → record_after (inputs_by g held) r 1 ≡ with_search (inputs_by g held) counted q all
  searched_is held all is new =
      let uncalled : list_any (is_called name) r.objects ≡ false = sym (here.matching.names name) ∙ new in
      record_searched (inputs_by g held) r q next.0 next.1 uncalled ∙ ap (with_search (inputs_by g held) counted q) (sym is)

  module _ (a b : StoreState) (new : is_among s.names name ≡ false) (all : List (List ℕ)) (is : all ≡ paths_by g name chain) where
    abbrev Begun : Option Contents → Ending → Type 0
    Begun known e = BeginsPaths known g s.places.loaded all e a b

    held_begun : (held : Contents) (e : Ending) (P : Record → Type 0) → Begun (Some held) e → P (with_search (inputs_by g held) counted q all) → GoesBy (inputs_by g held) r e P a b
    held_begun held e P begins holds =
        let one = searched_is held all is new in
        let w = inputs_by g held in
        let keys = keys_searched held g.tree.now g.env.now.abi s.places.loaded all in
        let same : keys ≡ keys_searched held g.tree.now g.env.now.abi (places_of r.objects) all = ap (λ l. keys_searched held g.tree.now g.env.now.abi l all) here.matching.places in
        record {
          requests = 1;
          keys = keys;
          begun = ap (λ (x : Record). x.keys) one ∙ search_keys w counted q all ∙ ap (λ l. r.keys ++ l) (sym same);
          begins = begins;
          holds = subst P (sym one) holds;
        }

    -- the search opens files, whatever its result is
    pub begun_name : (known : Option Contents) (e : Ending) → Begun known e → Advances known (inputs_by g) r e (λ _. Unit {0}) a b
    begun_name None e begins = record { reads = begins; some = r; holds = tt }
    begun_name (Some held) e begins = held_begun held e (λ _. Unit {0}) begins tt

    -- the search fails
    pub name_fails : (known : Option Contents) (fault : SearchFault) (X : Record → Type 0) → Begun known (failing fault) →
        Advances known (inputs_by g) r (failing fault) (λ r2. IfComplete (failing fault) (X r2)) a b
    name_fails known StoreFault X begins = begun_name known DeviceFailed begins
    name_fails known NoMemory X begins = begun_name known GaveUp begins

    module _ (s2 : Loading) (found : Option Answer) (part : Part) (within : number < length s.loaders)
        (takes : TakesAnswer g.env.now s s2 name (record { answer = found; part = part }) number) where
      answered_at : (r2 : Record) → HasOutcome r q found part r2 → r2.answered ≡ suc r.answered → IsAt g.env.now r2 s2 number chain rest
      answered_at r2 out count =
          let count_is = same_count g.env.now s.loaders r.objects here.matching.linked in
          let few : number < length r.objects = omega (arith, within, count_is) in
          record {
            matching = takes r r2 q (requests_by chain rest) here.matching out count refl (sym here.chain_is);
            chain_is = chain_kept r r2 q found part number few out ∙ here.chain_is;
          }

      pub searched_name : (known : Option Contents) → FindsBy known g s.places.loaded all found → IsNew known g.tree.now g.env.now.abi s.places.loaded found → IsPartAt g s number name found part → Begun known Complete →
          Advances known (inputs_by g) r Complete (λ r2. IsAt g.env.now r2 s2 number chain rest) a b
      searched_name None finds there is_part begins =
          let one = some_outcome r q None g.tree.now g.env.now.abi found part (rw here.matching.places at there) in
          record { reads = begins; some = one.0; holds = answered_at one.0 one.1.0 one.1.1 }
      searched_name (Some held) finds there is_part begins =
          let w = inputs_by g held in
          let out = outcome w counted q all (first_good held g.tree.now g.env.now.abi all) found part (same_part held found is_part) refl (rw here.matching.places at finds) (rw here.matching.places at there) in
          held_begun held Complete (λ r2. IsAt g.env.now r2 s2 number chain rest) begins
          (answered_at (with_search w counted q all) (counted_outcome r (with_search w counted q all) (r.answered + 1) q found part out) (let plus : r.answered + 1 ≡ suc r.answered = omega arith in search_count w counted q all ∙ plus))
        where
          -- the part is that of the request's chain
          same_part : (held : Contents) (a : Option Answer) → IsPartAt g s number name a part → IsPart (inputs_by g held) counted q all a part
          same_part held None is = tt
          same_part held (Some (answer.Loaded i path)) is = tt
          same_part held (Some (answer.New f)) is = is ∙ sym (part_same (inputs_by g held) name f.path chain (reach_at s.loaders number)
              (ap (reach_in g.env.now) (sym here.chain_is) ∙ reach_there g.env.now s.loaders r.objects number here.matching.linked within))
