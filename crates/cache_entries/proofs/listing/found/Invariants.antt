use Rattle.std.proofs.Common.{◌≡◌, ◌≤◌, ◌+◌, ◌++◌, length, map}
use Rattle.cache_layout.specs.declared.limits.TheConstants.{ENTRIES_MAX}
use Rattle.cache_entries.specs.Counts.{AreCounts}
use Rattle.cache_entries.specs.Entries.{entries_in}
use Rattle.place_libraries.specs.Best.{bests_in}
use Rattle.library_files.specs.Places.{by_place}
use Rattle.library_files.specs.Search.{folder_links}
use Rattle.file_table.specs.Table.{analysis_at}
use Rattle.cache_entries.proofs.listing.found.Given as goal

-- The entries so far and those of the search directories that are left are all entries. The best libraries and the links of these
-- search directories are left too.
abbrev pub invariant-loop-place : goal.invariant-loop-place
invariant-loop-place l = record {
  counted : l.found.count + length (by_place (entries_in (analysis_at l.table) l.tree) l.number l.place-iterator.a.rest.now) ≡ length (by_place (entries_in (analysis_at l.table) l.tree) 0 l.dirs.places);
  kept : l.found.count ≤ ENTRIES_MAX → l.found.entries.items ++ by_place (entries_in (analysis_at l.table) l.tree) l.number l.place-iterator.a.rest.now ≡ by_place (entries_in (analysis_at l.table) l.tree) 0 l.dirs.places;
  winners : AreCounts (analysis_at l.table) l.tree l.found.winners.entries;
  bests : l.place-iterator.b.a ≡ map (bests_in (analysis_at l.table) l.tree) l.place-iterator.a.rest.now;
  links : l.place-iterator.b.b ≡ map (folder_links l.tree) l.place-iterator.a.rest.now;
}
