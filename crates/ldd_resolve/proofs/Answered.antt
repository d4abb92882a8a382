-- If the state matches the record, it still matches after a request is answered.
use Rattle.std.proofs.Common.{◌≡◌, ◌<◌, ◌≤◌, ◌||◌, ◌&&◌, ℕ, suc, Bool, true, false, cond, List, [], ◌∷◌, ◌++◌, append_assoc, length, map, drop, get_or, set, Option, Some, None, refl, sym, ap, subst, ◌∙◌, arith}
use Rattle.std.proofs.lemmas.List.{append-nil, drop-append-le, drop-map, length-map, map-append}
use Rattle.std.proofs.lemmas.List.Elements.{filter_map-append}
use Rattle.std.proofs.lemmas.List.Concat.{flat_map-append}
use Rattle.std.proofs.lemmas.List.Folds.{list_any-append}
use Rattle.std.specs.List.{IsDistinct, filter_map, list_any}
use Rattle.std.proofs.lemmas.Slice.Eq.{bytes_eq-Decides}
use Rattle.std.specs.Str.{bytes_eq}
use Rattle.lib_types.proofs.SortedPairs.{by_test}
use Rattle.elf_dynamic.specs.declared.kinds.Dynamic.{Dynamic}
use Rattle.rpath_search.specs.declared.kinds.Found.{Found}
use Rattle.ldd_resolve.specs.declared.kinds.Item.{Item}
use Rattle.ldd_resolve.specs.declared.kinds.Member.{Member}
use Rattle.ldd_resolve.specs.declared.kinds.Reply.{Reply}
use Rattle.ldd_resolve.specs.declared.kinds.Reply.TheVariants.{Known, Loads, Missing}
use Rattle.rpath_search.specs.declared.parts.Part.{Part}
use Rattle.rpath_search.specs.declared.kinds.Env.{Env}
use Rattle.ldd_resolve.specs.declared.loading.Loading.{Loading}
use Rattle.ldd_resolve.specs.Links.{following, reach_in}
use Rattle.rpath_search.specs.Searching.{is_among}
use Rattle.ldd_resolve.specs.Listing.{Loaded, Record, Request, is_called, is_missing, item, loaded, named, names_by, needed_in, owner_of, places_of, requests, requests_of, soname_in, with_missing}
use Rattle.ldd_resolve.specs.Loading.{AddsFound, AddsName, IsFoundIn, IsLoadedIn, Matches, with_last_name}
use Rattle.ldd_resolve.specs.Resolving.{member_of, members_of}
use Rattle.ldd_resolve.proofs.MatchesKept.{among_at, called_there, drop_next, drop_one, linked_on, named_at, or_false, same_by, same_chain, same_needed, same_path, same_real, same_requests}
use Rattle.lib_types.proofs.Bools.{and_true, and_false}

module _ (env : Env) (r r2 : Record) (s new : Loading) (n : ℕ) (q : Request) (rest : List Request) (matching : Matches env r s n (q ∷ rest)) (next : r2.answered ≡ suc r.answered) where
  -- the name isn't found
  pub missing_matches : r2.objects ≡ r.objects → r2.items ≡ with_missing q.name r.items → r2.found ≡ r.found → new.found ≡ s.found → new.loaders ≡ s.loaders → new.places ≡ s.places → new.names ≡ s.names →
      new.members.items ≡ s.members.items → new.pending.items ≡ s.pending.items → ((x : List ℕ) → is_among new.missing x ≡ (is_among s.missing x || bytes_eq x q.name)) →
      new.items ≡ cond (is_among s.missing q.name) s.items (s.items ++ item q.name None ∷ []) → new.replies ≡ s.replies ++ Missing ∷ [] → r2.replies ≡ r.replies ++ Missing ∷ [] → Matches env r2 new n rest
  missing_matches objects items found kept links places names members pending missing listed more replied = record {
    replies = more ∙ ap (λ l. l ++ Missing ∷ []) matching.replies ∙ sym replied;
    linked = rw (links, objects) matching.linked;
    places = rw (places, objects) matching.places;
    names = λ x. rw (names, objects) (matching.names x);
    missing = λ x. missing x ∙ ap (λ b. b || bytes_eq x q.name) (matching.missing x) ∙ sym (ap (list_any (is_missing x)) items ∙ missing_more x);
    items = listed ∙ ap (λ b. cond b s.items (s.items ++ item q.name None ∷ [])) (matching.missing q.name) ∙ rw matching.items (sym items);
    found = kept ∙ matching.found ∙ sym found;
    members = members ∙ matching.members ∙ sym (ap members_of objects);
    loaded = ap (λ l. map (λ (o : Loaded). o.path) (drop 1 l)) objects ∙ matching.loaded ∙ sym (ap (filter_map (λ i. i.path)) items ∙ paths_same (list_any (is_missing q.name) r.items));
    pending = pending ∙ rw objects matching.pending;
    left = rw (objects, next) (drop_one r.answered (requests r.objects) q (rest ++ requests (drop n r.objects)) matching.left);
  }
    where
      paths_same : (b : Bool) → filter_map (λ (i : Item). i.path) (cond b r.items (r.items ++ item q.name None ∷ [])) ≡ filter_map (λ (i : Item). i.path) r.items
      paths_same true = refl
      paths_same false = filter_map-append (λ (i : Item). i.path) r.items (item q.name None ∷ []) ∙ append-nil (filter_map (λ (i : Item). i.path) r.items)

      same_name : (x y : List ℕ) → bytes_eq x y ≡ true → x ≡ y
      same_name x y h = (bytes_eq-Decides x y).0 h

      missing_more : (x : List ℕ) → list_any (is_missing x) (with_missing q.name r.items) ≡ (list_any (is_missing x) r.items || bytes_eq x q.name)
      missing_more x = by_test (list_any (is_missing q.name) r.items)
          (λ there. ap (λ b. list_any (is_missing x) (cond b r.items (r.items ++ item q.name None ∷ []))) there ∙ by_test (bytes_eq x q.name)
          (λ same. let e : list_any (is_missing x) r.items ≡ true = subst (λ y. list_any (is_missing y) r.items ≡ true) (sym (same_name x q.name same)) there in
          e ∙ sym (ap (λ b. b || bytes_eq x q.name) e))
          (λ other. sym (ap (λ b. list_any (is_missing x) r.items || b) other ∙ or_false (list_any (is_missing x) r.items))))
          (λ fresh. ap (λ b. list_any (is_missing x) (cond b r.items (r.items ++ item q.name None ∷ []))) fresh
          ∙ list_any-append (is_missing x) r.items (item q.name None ∷ [])
          ∙ ap (λ b. list_any (is_missing x) r.items || b) (or_false (bytes_eq x q.name && true) ∙ and_true (bytes_eq x q.name)))

  -- the file is already loaded
  pub loaded_matches : (number : ℕ) (path : List ℕ) → IsFoundIn r q number path r2 → IsDistinct bytes_eq s.places.loaded → is_among s.names q.name ≡ false →
      AddsName (record s { replies = s.replies ++ Known ∷ [] }) new q.name path number → Matches env r2 new n rest
  loaded_matches number path found distinct unknown adds =
      let real = get_or (places_of r.objects) number [] in
      let also = named real q.name in
      let len : length (places_of r.objects) ≡ length r.objects = length-map r.objects (λ (o : Loaded). o.real) in
      let within : number < length r.objects = omega (arith, found.within, len) in
      record {
        linked = rw (adds.loaders, found.objects) (matching.linked ∙ sym (same_by real q.name (λ o. reach_in env o.chain) (λ o. ap (reach_in env) (same_chain real q.name o)) r.objects));
        places = rw (adds.places, found.objects, same_by real q.name (λ o. o.real) (same_real real q.name) r.objects) matching.places;
        names = λ x. adds.names x ∙ ap (λ b. b || bytes_eq x q.name) (matching.names x) ∙ sym (ap (list_any (is_called x)) found.objects ∙ called_there real q.name r.objects x (among_at (places_of r.objects) number found.within));
        missing = λ x. rw (adds.missing, found.items) (matching.missing x);
        items = adds.items ∙ matching.items ∙ sym found.items;
        replies = adds.replies ∙ ap (λ l. l ++ Known ∷ []) matching.replies ∙ sym found.replies;
        found = adds.found ∙ ap (λ l. l ++ path ∷ []) matching.found ∙ sym found.found;
        members = (let d : Member = record { path = []; real = []; names = []; needed = [] } in
            adds.members d
            ∙ ap (λ l. set l number (with_last_name (get_or l number d) q.name)) matching.members
            ∙ named_at q.name r.objects number d (subst (IsDistinct bytes_eq) matching.places distinct) within (sym (matching.names q.name) ∙ unknown)
            ∙ sym (ap members_of found.objects));
        loaded = ap (λ l. map (λ (o : Loaded). o.path) (drop 1 l)) found.objects ∙ ap (map (λ (o : Loaded). o.path)) (drop-map also 1 r.objects) ∙ same_by real q.name (λ o. o.path) (same_path real q.name) (drop 1 r.objects)
            ∙ matching.loaded ∙ sym (ap (filter_map (λ (i : Item). i.path)) found.items);
        pending = adds.pending ∙ matching.pending ∙ sym (ap (λ l. map (λ (o : Loaded). o.needed) (drop n l)) found.objects ∙ ap (map (λ (o : Loaded). o.needed)) (drop-map also n r.objects) ∙ same_by real q.name (λ o. o.needed) (same_needed real q.name) (drop n r.objects));
        left = rw (next, found.objects, same_requests real q.name r.objects, drop-map also n r.objects, same_requests real q.name (drop n r.objects))
            (drop_one r.answered (requests r.objects) q (rest ++ requests (drop n r.objects)) matching.left);
      }

  -- a new library is found
  module _ (f : Found) (k : ℕ) (part : Part) where
    abbrev path : List ℕ
    path = f.path

    abbrev d : Option Dynamic
    d = f.object.dynamic

    abbrev o : Loaded
    o = loaded path f.real d (Some q.name) q.chain

    pub found_matches : IsLoadedIn r q f part r2 → q.chain ≡ following (map (λ o. o.chain) r.objects) (Some k) → k < length s.loaders →
        n ≤ length r.objects → 1 ≤ length r.objects →
        AddsFound env (record s { replies = s.replies ++ Loads (length s.members.items) part ∷ [] }) new q.name f k → Matches env r2 new n rest
    found_matches is chain within few one adds =
        let objects = is.objects in
        let items = is.items in
        let found = is.found in
        let count : length s.members.items ≡ length r.objects = ap length matching.members ∙ length-map r.objects member_of in
        let names_more = names_by (soname_in d) (Some q.name) in
        record {
          linked = rw (adds.loaders, objects) (linked_on env s.loaders r.objects o (owner_of path d) k matching.linked within (ap (λ c. owner_of path d ∷ c) chain));
          places = ap (λ p. p.loaded) adds.places ∙ ap (λ l. l ++ f.real ∷ []) matching.places ∙ sym (ap places_of objects ∙ map-append (λ (o : Loaded). o.real) r.objects (o ∷ []));
          names = λ x. adds.names x ∙ ap (λ b. b || is_among names_more x) (matching.names x)
              ∙ sym (ap (list_any (is_called x)) objects ∙ list_any-append (is_called x) r.objects (o ∷ []) ∙ ap (λ b. list_any (is_called x) r.objects || b) (or_false (is_called x o)));
          missing = λ x. ap (λ l. is_among l x) adds.missing ∙ matching.missing x
              ∙ sym (ap (list_any (is_missing x)) items ∙ list_any-append (is_missing x) r.items (item q.name (Some path) ∷ [])
              ∙ ap (λ b. list_any (is_missing x) r.items || b) (or_false (bytes_eq x q.name && false) ∙ and_false (bytes_eq x q.name)) ∙ or_false (list_any (is_missing x) r.items));
          items = adds.listed ∙ ap (λ l. l ++ item q.name (Some path) ∷ []) matching.items ∙ sym items;
          replies = adds.replies ∙ ap (λ l. l ++ Loads (length s.members.items) part ∷ []) matching.replies ∙ ap (λ i. r.replies ++ Loads i part ∷ []) count ∙ sym is.replies;
          found = adds.found ∙ ap (λ l. l ++ path ∷ []) matching.found ∙ sym found;
          members = adds.members ∙ ap (λ l. l ++ member_of o ∷ []) matching.members ∙ sym (ap members_of objects ∙ map-append member_of r.objects (o ∷ []));
          loaded = ap (λ l. map (λ (o : Loaded). o.path) (drop 1 l)) objects ∙ ap (map (λ (o : Loaded). o.path)) (drop-append-le 1 r.objects (o ∷ []) one) ∙ map-append (λ (o : Loaded). o.path) (drop 1 r.objects) (o ∷ [])
              ∙ ap (λ l. l ++ path ∷ []) matching.loaded ∙ sym (ap (filter_map (λ (i : Item). i.path)) items ∙ filter_map-append (λ (i : Item). i.path) r.items (item q.name (Some path) ∷ []));
          pending = adds.pending ∙ ap (λ l. l ++ needed_in d ∷ []) matching.pending
              ∙ sym (ap (λ l. map (λ (o : Loaded). o.needed) (drop n l)) objects ∙ ap (map (λ (o : Loaded). o.needed)) (drop-append-le n r.objects (o ∷ []) few) ∙ map-append (λ (o : Loaded). o.needed) (drop n r.objects) (o ∷ []));
          left = rw (next, objects)
              (ap (drop (suc r.answered)) (flat_map-append requests_of r.objects (o ∷ []))
              ∙ drop_next r.answered (requests r.objects) (requests (o ∷ [])) q (rest ++ requests (drop n r.objects)) matching.left
              ∙ append_assoc rest (requests (drop n r.objects)) (requests (o ∷ []))
              ∙ ap (λ l. rest ++ l) (sym (ap requests (drop-append-le n r.objects (o ∷ []) few) ∙ flat_map-append requests_of (drop n r.objects) (o ∷ []))));
        }
