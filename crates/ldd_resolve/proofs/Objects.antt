-- The requests of one object after another.
use Rattle.std.proofs.Common.{◌≡◌, ◌++◌, ℕ, zero, suc, List, [], ◌∷◌, drop, get_or, map, Option, Some, Err, refl, sym, ap, subst, ◌∙◌}
use Rattle.std.proofs.lemmas.List.{drop-map}
use Rattle.tree_face.specs.Store.{Contents, StoreState}
use Rattle.tree_face.specs.StoreUse.{Ending, Complete, DeviceFailed, GaveUp}
use Rattle.rpath_search.specs.Faults.{search_ending}
use Rattle.rpath_search.specs.declared.fault.SearchFault.{SearchFault}
use Rattle.rpath_search.specs.declared.fault.SearchFault.TheVariants.{StoreFault, NoMemory}
use Rattle.rpath_search.specs.declared.kinds.Owner.{Owner}
use Rattle.ldd_resolve.specs.declared.loading.Loading.{Loading}
use Rattle.ldd_resolve.specs.declared.requests.Given.{Given}
use Rattle.rpath_search.specs.declared.kinds.Env.{Env}
use Rattle.ldd_resolve.specs.Links.{following}
use Rattle.ldd_resolve.specs.Listing.{Inputs, Loaded, Record, requests, requests_of}
use Rattle.ldd_resolve.specs.Loading.{Advances, Matches}
use Rattle.ldd_resolve.specs.Requests.{Answers, AnswersAll, AnswersObjects, IsAt, IsListed, requests_by, inputs_by, scope_in}
use Rattle.ldd_resolve.specs.declared.kinds.Member.{Member}
use Rattle.ldd_resolve.specs.Resolving.{IfComplete, member_of}
use Rattle.ldd_resolve.proofs.Advances.{advances_as, advances_then, stays}
use Rattle.ldd_resolve.proofs.MatchesKept.{drop_one}

abbrev pub failing : SearchFault → Ending
failing fault = search_ending {A = Unit {0}} (Err fault)

-- after a failed call nothing is known of the last record
pub fails_as : (known : Option Contents) (inputs : Contents → Inputs) (r : Record) (X : Record → Type 0) (a b : StoreState) (fault : SearchFault) →
    Advances known inputs r (failing fault) (λ r2. IfComplete (failing fault) (X r2)) a b → Advances known inputs r (failing fault) (λ r2. Unit {0}) a b
fails_as known inputs r X a b StoreFault advances = advances
fails_as known inputs r X a b NoMemory advances = advances

-- ---- the requests of one object

module _ (known : Option Contents) (g : Given) (n : ℕ) (chain : List Owner) where
  module _ (names left_names : List (List ℕ)) (s s1 : Loading) (a b c : StoreState) (first : Answers known g n chain names left_names Complete s s1 a b) where
    -- the next request is answered
    pub request_then : (rest : List (List ℕ)) (s2 : Loading) → Answers known g n chain left_names rest Complete s1 s2 b c → Answers known g n chain names rest Complete s s2 a c
    request_then rest s2 next r here =
        advances_then (inputs_by g) r Complete (λ r2. IsAt g.env.now r2 s1 n chain left_names) (λ r2. IsAt g.env.now r2 s2 n chain rest) a b c known (first r here) next

    -- the next request fails
    pub request_fails : (rest : List (List ℕ)) (s2 s3 : Loading) (fault : SearchFault) → Answers known g n chain left_names rest (failing fault) s1 s2 b c →
        Answers known g n chain names [] (failing fault) s s3 a c
    request_fails rest s2 s3 StoreFault next r here =
        advances_then (inputs_by g) r DeviceFailed (λ r2. IsAt g.env.now r2 s1 n chain left_names) (λ r2. Unit {0}) a b c known (first r here) next
    request_fails rest s2 s3 NoMemory next r here =
        advances_then (inputs_by g) r GaveUp (λ r2. IsAt g.env.now r2 s1 n chain left_names) (λ r2. Unit {0}) a b c known (first r here) next

-- ---- the next object

from_drop : {X : Type 0} (n : ℕ) (xs : List X) (x : X) (more : List X) (d : X) → drop n xs ≡ x ∷ more → get_or xs n d ≡ x
from_drop zero [] x more d e = absurd (cc)
from_drop zero (y ∷ xs) x more d e = cc
from_drop (suc n) [] x more d e = absurd (cc)
from_drop (suc n) (y ∷ xs) x more d e = from_drop n xs x more d e

module _ (env : Env) (r : Record) (s s2 : Loading) (n : ℕ) (needed : List (List ℕ)) where
  -- the object's needed names are taken from the queue
  pub object_taken : Matches env r s n [] → s.pending.items ≡ needed ∷ s2.pending.items → s2.loaders ≡ s.loaders → s2.places ≡ s.places → s2.names ≡ s.names → s2.missing ≡ s.missing → s2.items ≡ s.items → s2.found ≡ s.found → s2.members ≡ s.members → s2.replies ≡ s.replies →
      IsAt env r s2 n (following (map (λ o. o.chain) r.objects) (Some n)) needed
  object_taken matching queue links places names missing items found members replies = by (drop n r.objects) refl
    where
      by : (os : List Loaded) → drop n r.objects ≡ os → IsAt env r s2 n (following (map (λ o. o.chain) r.objects) (Some n)) needed
      by [] e = absurd (let none : needed ∷ s2.pending.items ≡ [] = sym queue ∙ matching.pending ∙ ap (map (λ (o : Loaded). o.needed)) e in cc)
      by (o ∷ os) e =
          let both : needed ∷ s2.pending.items ≡ o.needed ∷ map (λ (o : Loaded). o.needed) os = sym queue ∙ matching.pending ∙ ap (map (λ (o : Loaded). o.needed)) e in
          let mine : needed ≡ o.needed = cc in
          let others : s2.pending.items ≡ map (λ (o : Loaded). o.needed) os = cc in
          let after_it : drop (suc n) r.objects ≡ os = drop_one n r.objects o os e in
          let chains : drop n (map (λ (o : Loaded). o.chain) r.objects) ≡ o.chain ∷ map (λ (o : Loaded). o.chain) os = drop-map (λ (o : Loaded). o.chain) n r.objects ∙ ap (map (λ (o : Loaded). o.chain)) e in
          let chain : following (map (λ o. o.chain) r.objects) (Some n) ≡ o.chain = from_drop n (map (λ (o : Loaded). o.chain) r.objects) o.chain (map (λ (o : Loaded). o.chain) os) [] chains in
          let whole : requests_by (following (map (λ o. o.chain) r.objects) (Some n)) needed ++ requests (drop (suc n) r.objects) ≡ requests_of o ++ requests os =
          ap (λ c. requests_by c needed ++ requests (drop (suc n) r.objects)) chain
          ∙ ap (λ l. requests_by o.chain l ++ requests (drop (suc n) r.objects)) mine
          ∙ ap (λ l. requests_by o.chain o.needed ++ requests l) after_it in
          record {
            matching = record {
              linked = rw links matching.linked;
              places = rw places matching.places;
              names = rw names matching.names;
              missing = rw missing matching.missing;
              items = rw items matching.items;
              replies = rw replies matching.replies;
              found = rw found matching.found;
              members = rw members matching.members;
              loaded = matching.loaded;
              pending = others ∙ sym (ap (map (λ (o : Loaded). o.needed)) after_it);
              left = matching.left ∙ ap requests e ∙ sym whole;
            };
            chain_is = refl;
          }

-- the queue is empty
pub all_listed : (env : Env) (r : Record) (s : Loading) (n : ℕ) → Matches env r s n [] → s.pending.items ≡ [] → IsListed r (scope_in s)
all_listed env r s n matching none = record {
  all = matching.left ∙ by (drop n r.objects) (sym matching.pending ∙ none);
  scope = record { members = matching.members; listing = matching.items; replies = matching.replies; found = matching.found };
  loaded = rw (matching.members, matching.items) (ap (map (λ (m : Member). m.path)) (drop-map member_of 1 r.objects) ∙ map_map (drop 1 r.objects) ∙ matching.loaded);
}
  where
    map_map : (os : List Loaded) → map (λ (m : Member). m.path) (map member_of os) ≡ map (λ (o : Loaded). o.path) os
    map_map [] = refl
    map_map (o ∷ os) = ap (λ l. o.path ∷ l) (map_map os)

    by : (os : List Loaded) → map (λ (o : Loaded). o.needed) os ≡ [] → requests os ≡ []
    by [] e = refl
    by (o ∷ os) e = absurd (cc)

module _ (known : Option Contents) (g : Given) (n : ℕ) (s s1 s2 : Loading) (a b c : StoreState) (so_far : AnswersObjects known g 0 n Complete s s1 a b)
    (needed : List (List ℕ)) (queue : s1.pending.items ≡ needed ∷ s2.pending.items) (links : s2.loaders ≡ s1.loaders) (places : s2.places ≡ s1.places) (names : s2.names ≡ s1.names)
    (missing : s2.missing ≡ s1.missing) (items : s2.items ≡ s1.items) (found : s2.found ≡ s1.found) (members : s2.members ≡ s1.members) (replies : s2.replies ≡ s1.replies) where
  taken : (r : Record) → Matches g.env.now r s1 n [] → IsAt g.env.now r s2 n (following (map (λ o. o.chain) r.objects) (Some n)) needed
  taken r matching = object_taken g.env.now r s1 s2 n needed matching queue links places names missing items found members replies

  abbrev chain_in : Record → List Owner
  chain_in r = following (map (λ o. o.chain) r.objects) (Some n)

  -- the object's requests are answered
  pub object_then : (next : ℕ) (s3 : Loading) → next ≡ suc n → ((chain : List Owner) → Answers known g n chain needed [] Complete s2 s3 b c) → AnswersObjects known g 0 next Complete s s3 a c
  object_then next s3 is f r matching = subst (λ m. Advances known (inputs_by g) r Complete (λ r2. Matches g.env.now r2 s3 m []) a c) (sym is)
      (advances_then (inputs_by g) r Complete (λ r2. Matches g.env.now r2 s1 n []) (λ r2. Matches g.env.now r2 s3 (suc n) []) a b c known (so_far r matching)
      (λ r2 here. advances_as (inputs_by g) r2 Complete (λ r3. IsAt g.env.now r3 s3 n (chain_in r2) []) (λ r3. Matches g.env.now r3 s3 (suc n) []) b c (λ r3 there. there.matching) known
      (f (chain_in r2) r2 (taken r2 here))))

  -- one of the object's requests fails
  pub object_fails : (s3 s4 : Loading) (fault : SearchFault) → ((chain : List Owner) → Answers known g n chain needed [] (failing fault) s2 s3 b c) → AnswersAll known g (failing fault) s s4 a c
  object_fails s3 s4 StoreFault f r matching =
      advances_then (inputs_by g) r DeviceFailed (λ r2. Matches g.env.now r2 s1 n []) (λ r2. Unit {0}) a b c known (so_far r matching) (λ r2 here. f (chain_in r2) r2 (taken r2 here))
  object_fails s3 s4 NoMemory f r matching =
      advances_then (inputs_by g) r GaveUp (λ r2. Matches g.env.now r2 s1 n []) (λ r2. Unit {0}) a b c known (so_far r matching) (λ r2 here. f (chain_in r2) r2 (taken r2 here))

-- no object is left
pub all_answered : (known : Option Contents) (g : Given) (n : ℕ) (s s1 s2 : Loading) (a b : StoreState) → AnswersObjects known g 0 n Complete s s1 a b → s1.pending.items ≡ [] →
    s2.members ≡ s1.members → s2.items ≡ s1.items → s2.found ≡ s1.found → s2.replies ≡ s1.replies → AnswersAll known g Complete s s2 a b
all_answered known g n s s1 s2 a b so_far none members items found replies r matching =
    advances_as (inputs_by g) r Complete (λ r2. Matches g.env.now r2 s1 n []) (λ r2. IsListed r2 (scope_in s2)) a b
    (λ r2 here. rw (members, items, found, replies) (all_listed g.env.now r2 s1 n here none)) known (so_far r matching)

-- before the first request of the object
pub nothing_answered : (known : Option Contents) (g : Given) (n : ℕ) (chain : List Owner) (names rest : List (List ℕ)) (s : Loading) (a : StoreState) → names ≡ rest →
    Answers known g n chain names rest Complete s s a a
nothing_answered known g n chain names rest s a same r here =
    stays (inputs_by g) r (λ r2. IsAt g.env.now r2 s n chain rest) a known (subst (λ l. IsAt g.env.now r s n chain l) same here)

pub none_taken : (known : Option Contents) (g : Given) (s : Loading) (a : StoreState) → AnswersObjects known g 0 0 Complete s s a a
none_taken known g s a r matching = stays (inputs_by g) r (λ r2. Matches g.env.now r2 s 0 []) a known matching
