use Rattle.std.proofs.Common.{◌≡◌, ◌++◌, map}
use Rattle.cache_entries.specs.Ranked.{by_sonames, ranked_link}
use Rattle.cache_entries.proofs.winner.candidates.Given as goal

-- the candidates so far and those of the links that are left are all candidates
abbrev pub invariant-loop-link : goal.invariant-loop-link
invariant-loop-link l = l.candidates.items ++ by_sonames (map ranked_link l.link-iterator.rest.items) ≡ by_sonames (map ranked_link l.fn.links.items)
