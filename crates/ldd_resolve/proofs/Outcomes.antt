-- The answer of a search determines the next record.
use Rattle.std.proofs.Common.{◌≡◌, ◌+◌, ◌<◌, ℕ, suc, List, [], ◌∷◌, ◌++◌, length, map, drop, get_or, Option, Some, None, refl, ap, arith}
use Rattle.path_walk.specs.Files.{file_at}
use Rattle.rpath_search.specs.Search.{first_good}
use Rattle.rpath_search.specs.declared.kinds.Env.{Env}
use Rattle.rpath_search.specs.declared.search.Answer.{Answer}
use Rattle.rpath_search.specs.declared.search.Answer.TheVariants as answer
use Rattle.ldd_resolve.specs.Links.{following}
use Rattle.ldd_resolve.specs.Listing.{Inputs, Loaded, Record, Request, found_by, loaded, part_for, places_of, replied, requests, with_search}
use Rattle.ldd_resolve.specs.declared.kinds.Reply.TheVariants.{Known}
use Rattle.rpath_search.specs.declared.parts.Part.{Part}
use Rattle.ldd_resolve.specs.declared.loading.Loading.{Loading}
use Rattle.ldd_resolve.proofs.MatchesKept.{among_at, drop_one, same_by, same_chain}
use Rattle.std.proofs.lemmas.List.{get_or_append_left, length-map, map-append}
use Rattle.ldd_resolve.specs.Loading.{HasOutcome, Matches}
use Rattle.rpath_search.specs.Searching.{Finds, IsNew}

module _ (w : Inputs) (r : Record) (q : Request) (all : List (List ℕ)) where
  -- the first good path and the file to which it leads
  found_at : (path real : List ℕ) → first_good w.held w.nodes w.env.abi all ≡ Some path → file_at w.nodes path ≡ Some real → found_by w all ≡ Some (path, real)
  found_at path real first leads = rw (first, leads) refl

  found_none : first_good w.held w.nodes w.env.abi all ≡ None → found_by w all ≡ None
  found_none first = rw first refl

  -- the part of the search that gives the path of a new library
  abbrev pub IsPart : Option Answer → Part → Type 0
  IsPart None part = Unit {0}
  IsPart (Some (answer.Loaded i path)) part = Unit {0}
  IsPart (Some (answer.New f)) part = part ≡ part_for w q f.path

  pub outcome : (first : Option (List ℕ)) (a : Option Answer) (part : Part) → IsPart a part → first_good w.held w.nodes w.env.abi all ≡ first →
      Finds w.held w.nodes w.env.abi (places_of r.objects) first a → IsNew (Some w.held) w.nodes w.env.abi (places_of r.objects) a → HasOutcome r q a part (with_search w r q all)
  outcome None None part is same finds new = rw (found_none same) (record { objects = refl; items = refl; replies = refl; found = refl })
  outcome None (Some a) part is same finds new = absurd finds
  outcome (Some path) None part is same finds new = absurd finds
  outcome (Some path) (Some (answer.Loaded i answered)) part is same finds new =
      let real = get_or (places_of r.objects) i [] in
      let there = among_at (places_of r.objects) i finds.within in
      record {
        within = finds.within;
        objects = rw (found_at path real same finds.leads, there) refl;
        items = rw (found_at path real same finds.leads, there) refl;
        replies = rw (found_at path real same finds.leads, there) refl;
        found = rw (found_at path real same finds.leads, there, finds.here) refl;
      }
  outcome (Some path) (Some (answer.New f)) part is same finds new =
      let leads : file_at w.nodes path ≡ Some f.real = rw finds.here at new.found.leads in
      record {
        objects = rw (found_at path f.real same leads, new.unloaded, finds.object, finds.here) refl;
        items = rw (found_at path f.real same leads, new.unloaded, finds.here) refl;
        replies = rw (found_at path f.real same leads, new.unloaded, is, finds.here) refl;
        found = rw (found_at path f.real same leads, new.unloaded, finds.here) refl;
      }

-- an existing object keeps its chain
pub chain_kept : (r r2 : Record) (q : Request) (a : Option Answer) (part : Part) (n : ℕ) → n < length r.objects → HasOutcome r q a part r2 →
    following (map (λ o. o.chain) r2.objects) (Some n) ≡ following (map (λ o. o.chain) r.objects) (Some n)
chain_kept r r2 q None part n within outcome = rw outcome.objects refl
chain_kept r r2 q (Some (answer.Loaded i path)) part n within outcome =
    let real = get_or (places_of r.objects) i [] in
    rw (outcome.objects, same_by real q.name (λ o. o.chain) (same_chain real q.name) r.objects) refl
chain_kept r r2 q (Some (answer.New f)) part n within outcome =
    let o : Loaded = loaded f.path f.real f.object.dynamic (Some q.name) q.chain in
    let len : length (map (λ (o : Loaded). o.chain) r.objects) ≡ length r.objects = length-map r.objects (λ (o : Loaded). o.chain) in
    let here : n < length (map (λ (o : Loaded). o.chain) r.objects) = omega (arith, within, len) in
    rw (outcome.objects, map-append (λ (o : Loaded). o.chain) r.objects (o ∷ [])) (get_or_append_left (map (λ (o : Loaded). o.chain) r.objects) (o.chain ∷ []) [] n here)

-- a request for the name of an existing object only adds a reply
pub known_matches : (env : Env) (r r2 : Record) (s s2 : Loading) (n : ℕ) (q : Request) (rest : List Request) → Matches env r s n (q ∷ rest) → r2 ≡ replied (record r { answered = r.answered + 1 }) Known →
    s2 ≡ record s { replies = s.replies ++ Known ∷ [] } → Matches env r2 s2 n rest
known_matches env r r2 s s2 n q rest matching same kept =
    let next : r.answered + 1 ≡ suc r.answered = omega arith in
    rw (same, kept, next) (record {
      linked = matching.linked;
      places = matching.places;
      names = matching.names;
      missing = matching.missing;
      items = matching.items;
      replies = ap (λ l. l ++ Known ∷ []) matching.replies;
      found = matching.found;
      members = matching.members;
      loaded = matching.loaded;
      pending = matching.pending;
      left = drop_one r.answered (requests r.objects) q (rest ++ requests (drop n r.objects)) matching.left;
    })
