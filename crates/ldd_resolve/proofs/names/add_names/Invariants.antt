use Rattle.std.proofs.Common.{◌≡◌, ◌||◌, ℕ, List, drop}
use Rattle.rpath_search.specs.Searching.{is_among}
use Rattle.ldd_resolve.proofs.names.add_names.Given as goal

-- the set so far and the remaining names are the whole set
abbrev pub invariant-loop-name : goal.invariant-loop-name
invariant-loop-name l = (x : List ℕ) → (is_among l.all x || is_among (drop l.name-index l.names) x) ≡ (is_among l.fn.all x || is_among l.fn.names x)
