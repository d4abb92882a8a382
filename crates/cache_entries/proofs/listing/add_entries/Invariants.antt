use Rattle.std.proofs.Common.{◌≡◌, ◌≤◌, ◌+◌, ◌++◌, length, map}
use Rattle.cache_layout.specs.declared.limits.TheConstants.{ENTRIES_MAX}
use Rattle.cache_entries.specs.Entries.{entry_of}
use Rattle.cache_entries.proofs.listing.add_entries.Given as goal

-- the entries so far and those of the winners that are left are all entries
abbrev pub invariant-loop-winner : goal.invariant-loop-winner
invariant-loop-winner l = record {
  count : l.found.count + length l.winner-iterator ≡ l.fn.found.count + length l.winners;
  kept : l.found.count ≤ ENTRIES_MAX → l.found.entries.items ++ map (entry_of l.tree l.searched.number l.searched.place.now) l.winner-iterator ≡ l.fn.found.entries.items ++ map (entry_of l.tree l.searched.number l.searched.place.now) l.winners;
  winners : l.found.winners ≡ l.fn.found.winners;
  links : l.by_name ≡ record { tree = l.tree; path = l.searched.place.now.real };
}
