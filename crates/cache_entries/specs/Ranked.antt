-- What private functions use: the links of a search directory, each with its class.
use Rattle.std.specs.Prelude.{ℕ, Bool, List, ◌&&◌, ◌||◌, map, nat_eq, nat_lt, if◌then◌else◌}
use Rattle.std.specs.Map.{values_of}
use Rattle.place_libraries.specs.Best.{is_preferred}
use Rattle.cache_entries.specs.Winner.{has_own_name}
use Rattle.place_libraries.specs.Library.{Library}
use Rattle.cache_entries.specs.declared.winner.Class.{Class}
use Rattle.cache_entries.specs.declared.winner.Class.TheVariants.{Named, Other}
use Rattle.cache_entries.specs.declared.winner.Ranked.{Ranked}

-- links that are looked up by their own name come first
abbrev pub rank_of : Class → ℕ
rank_of Named = 0
rank_of Other = 1

-- Of two links with one soname, the first is preferred. Its class comes first, or the classes are equal and it is the better one.
abbrev pub is_before : Ranked → Ranked → Bool
is_before ranked other =
    nat_lt (rank_of ranked.class) (rank_of other.class) || (nat_eq (rank_of ranked.class) (rank_of other.class) && is_preferred ranked.library other.library)

abbrev pub soname_of : Ranked → List ℕ
soname_of ranked = ranked.library.soname

-- the link with its own name as soname, if it is looked up by its own name
abbrev pub ranked_link : Library → Ranked
ranked_link link =
    if has_own_name link
    then record { library = record { name = link.name; soname = link.name; abi = link.abi }; class = Named }
    else record { library = link; class = Other }

-- the libraries that were gathered by soname
abbrev pub libraries_of : List (List ℕ × Ranked) → List Library
libraries_of found = map (λ ranked. ranked.library) (values_of found)

abbrev pub by_sonames : List Ranked → List (List ℕ × Ranked)
by_sonames items = map (λ item. (soname_of item, item)) items
