-- Gathering links by soname gives the winners among the links, with files ignored.
use Rattle.std.proofs.Common.{◌≡◌, ℕ, true, false, cond, ◌||◌, List, [], ◌∷◌, ◌++◌, map, refl, ap, sym, ◌∙◌, Option, Some, None}
use Rattle.std.specs.Cmp.Lexicographic.{nat_list_cmp_total}
use Rattle.std.specs.List.{cons_option, filter, filter_map, fold}
use Rattle.std.specs.Map.{keys_of}
use Rattle.std.specs.Option.{option_map}
use Rattle.std.specs.Str.{bytes_eq}
use Rattle.string_pool.proofs.InByteOrder.{ascending_sorted, in_ascending}
use Rattle.string_pool.proofs.Members.{is_in, same_members}
use Rattle.string_pool.proofs.Ordered.{by_keys, filtered_same}
use Rattle.string_pool.proofs.Either.{swapped}
use Rattle.place_libraries.specs.Best.{best, better, has_soname, is_preferred, sonames}
use Rattle.string_pool.specs.Order.{ascending}
use Rattle.place_libraries.proofs.Gathered.{gathered_keyed, keys_keyed}
use Rattle.place_libraries.specs.Sonames.{AreGathered, found_at}
use Rattle.place_libraries.specs.Pick.{best_with, better_by}
use Rattle.cache_entries.proofs.Bests.{names_of}
use Rattle.cache_entries.specs.Ranked.{by_sonames, is_before, libraries_of, ranked_link, soname_of}
use Rattle.cache_entries.specs.Winner.{has_own_name, named_links, or_else, other_links, winner, winners_among}
use Rattle.place_libraries.specs.Library.{Library}
use Rattle.cache_entries.specs.declared.winner.Class.{Class}
use Rattle.cache_entries.specs.declared.winner.Class.TheVariants.{Named, Other}
use Rattle.cache_entries.specs.declared.winner.Ranked.{Ranked}

abbrev ranked : Class → Library → Ranked
ranked class library = record { library = library; class = class }

abbrev pub library_of : Ranked → Library
library_of item = item.library

-- the best link of the first class, or else of the second, with its class
abbrev first_of : Option Library → Option Library → Option Ranked
first_of (Some link) other = Some (ranked Named link)
first_of None (Some link) = Some (ranked Other link)
first_of None None = None

its_library : (a b : Option Library) → option_map library_of (first_of a b) ≡ or_else a b
its_library (Some link) b = refl
its_library None (Some link) = refl
its_library None None = refl

-- ---- one more item is compared with the best of its class

named_more : (a b : Option Library) (link : Library) → better_by is_before (first_of a b) (ranked Named link) ≡ first_of (better a link) b
named_more (Some best) b link =
    elim (is_preferred link best) as (λ p. cond p (Some (ranked Named link)) (Some (ranked Named best)) ≡ first_of (cond p (Some link) (Some best)) b) [ true ↦ refl | false ↦ refl ]
named_more None (Some other) link = refl
named_more None None link = refl

other_more : (a b : Option Library) (link : Library) → better_by is_before (first_of a b) (ranked Other link) ≡ first_of a (better b link)
other_more (Some named) b link = refl
other_more None (Some best) link =
    elim (is_preferred link best) as (λ p. cond p (Some (ranked Other link)) (Some (ranked Other best)) ≡ first_of None (cond p (Some link) (Some best))) [ true ↦ refl | false ↦ refl ]
other_more None None link = refl

-- ---- after all items, the best of each class is known

module _ (soname : List ℕ) where
  abbrev all : Option Ranked → List Ranked → Option Ranked
  all found items = best_with soname_of is_before found items soname

  abbrev best_from : Option Library → List Library → Option Library
  best_from found libraries = fold better found (filter (has_soname soname) libraries)

  all_links : (links : List Library) (a b : Option Library) → all (first_of a b) (map ranked_link links) ≡ first_of (best_from a (named_links links)) (best_from b (other_links links))
  all_links [] a b = refl
  all_links (link ∷ links) a b =
      let kept : List Ranked = filter (λ item. bytes_eq (soname_of item) soname) (map ranked_link links) in
      let named : Library = record { name = link.name; soname = link.name; abi = link.abi } in
      elim (has_own_name link) as (λ own. all (first_of a b) (cond own (ranked Named named) (ranked Other link) ∷ map ranked_link links)
      ≡ first_of (best_from a (cons_option (cond own (Some named) None) (named_links links))) (best_from b (cons_option (cond own None (Some link)) (other_links links)))) [
        | true ↦ elim (bytes_eq link.name soname) as (λ t. fold (better_by is_before) (first_of a b) (cond t (ranked Named named ∷ kept) kept)
            ≡ first_of (fold better a (cond t (named ∷ filter (has_soname soname) (named_links links)) (filter (has_soname soname) (named_links links)))) (best_from b (other_links links))) [
              | true ↦ ap (λ found. fold (better_by is_before) found kept) (named_more a b named) ∙ all_links links (better a named) b
              | false ↦ all_links links a b
            ]
        | false ↦ elim (bytes_eq link.soname soname) as (λ t. fold (better_by is_before) (first_of a b) (cond t (ranked Other link ∷ kept) kept)
            ≡ first_of (best_from a (named_links links)) (fold better b (cond t (link ∷ filter (has_soname soname) (other_links links)) (filter (has_soname soname) (other_links links))))) [
              | true ↦ ap (λ found. fold (better_by is_before) found kept) (other_more a b link) ∙ all_links links a (better b link)
              | false ↦ all_links links a b
            ]
      ]

  -- the best of all links is the winner
  winner_of : (links : List Library) → option_map library_of (all None (map ranked_link links)) ≡ winner [] links soname
  winner_of links = ap (option_map library_of) (all_links links None None) ∙ its_library (best (named_links links) soname) (best (other_links links) soname)

-- ---- the sonames of the links

module _ (z : List ℕ) where
  in_middle : (xs : List Library) (library : Library) (ys : List Library) → (bytes_eq z library.soname || is_in (names_of (xs ++ ys)) z) ≡ is_in (names_of (xs ++ library ∷ ys)) z
  in_middle [] library ys = refl
  in_middle (x ∷ xs) library ys =
      swapped (bytes_eq z library.soname) (bytes_eq z x.soname) (is_in (names_of (xs ++ ys)) z) ∙ ap (λ b. bytes_eq z x.soname || b) (in_middle xs library ys)

  in_links : (links : List Library) → is_in (map soname_of (map ranked_link links)) z ≡ is_in (names_of (named_links links ++ other_links links)) z
  in_links [] = refl
  in_links (link ∷ links) =
      let named : Library = record { name = link.name; soname = link.name; abi = link.abi } in
      elim (has_own_name link) as (λ own. (bytes_eq z (soname_of (cond own (ranked Named named) (ranked Other link))) || is_in (map soname_of (map ranked_link links)) z)
      ≡ is_in (names_of (cons_option (cond own (Some named) None) (named_links links) ++ cons_option (cond own None (Some link)) (other_links links))) z) [
        | true ↦ ap (λ b. bytes_eq z link.name || b) (in_links links)
        | false ↦ ap (λ b. bytes_eq z link.soname || b) (in_links links) ∙ in_middle (named_links links) link (other_links links)
      ]

same_names : (links : List Library) → ascending (map soname_of (map ranked_link links)) ≡ sonames (named_links links ++ other_links links)
same_names links =
    let left : List (List ℕ) = map soname_of (map ranked_link links) in
    let right : List (List ℕ) = names_of (named_links links ++ other_links links) in
    same_members (ascending left) (ascending right) (ascending_sorted left) (ascending_sorted right)
    (λ z. in_ascending left z ∙ in_links z links ∙ sym (in_ascending right z))

-- ---- the winners

map_given : {X Y Z : Type 0} (g : Y → Z) (f : X → Option Y) (xs : List X) → map g (filter_map f xs) ≡ filter_map (λ x. option_map g (f x)) xs
map_given g f [] = refl
map_given g f (x ∷ xs) =
    elim (f x) as (λ o. map g (cons_option o (filter_map f xs)) ≡ cons_option (option_map g o) (filter_map (λ x. option_map g (f x)) xs)) [
      | None ↦ map_given g f xs
      | Some y ↦ ap (λ ys. g y ∷ ys) (map_given g f xs)
    ]

-- gathering links by soname gives the winners among the links
pub link_winners : (links : List Library) (es : List (List ℕ × Ranked)) → AreGathered (better_by is_before) (by_sonames (map ranked_link links)) es
    → libraries_of es ≡ winners_among [] links
link_winners links es all =
    let items : List Ranked = map ranked_link links in
    ap (map library_of) (sym (by_keys nat_list_cmp_total es all.ordered))
    ∙ map_given library_of (found_at es) (keys_of es)
    ∙ filtered_same (λ soname. option_map library_of (found_at es soname)) (winner [] links)
    (λ soname. ap (option_map library_of) (all.found soname ∙ gathered_keyed soname_of (better_by is_before) soname items None) ∙ winner_of soname links) (keys_of es)
    ∙ ap (filter_map (winner [] links)) (all.keys ∙ ap ascending (keys_keyed soname_of items) ∙ same_names links)
