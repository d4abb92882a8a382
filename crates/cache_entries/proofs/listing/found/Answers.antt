use Rattle.std.proofs.Common.{◌≡◌, List, [], length, ap, refl, arith}
use Rattle.hwcap_dirs.specs.declared.kinds.Place.{Place}
use Rattle.library_files.proofs.FolderRows.{all_given, ended_together}
use Rattle.place_libraries.specs.Best.{bests_in}
use Rattle.library_files.specs.Places.{by_place}
use Rattle.library_files.specs.Search.{folder_links}
use Rattle.file_table.specs.Table.{analysis_at}
use Rattle.cache_entries.specs.Entries.{entries_in, found}
use Rattle.cache_entries.proofs.listing.found.Goals as goal

-- no search directory is left
none_left : (c : goal.In-None) → c.loop-place.place-iterator.a.rest.now ≡ []
none_left c =
    ended_together (bests_in (analysis_at c.args.table.now) c.args.tree.now) (folder_links c.args.tree.now) c.loop-place.place-iterator.a.rest.now c.loop-place.place-iterator.b.a
    c.loop-place.place-iterator.b.b c.loop-place.invariant.bests c.loop-place.invariant.links c.in-None.ensures.steps

pub returns-clause-count : goal.returns-clause-count
unfolding found
returns-clause-count c =
    let f = by_place (entries_in (analysis_at c.args.table.now) c.args.tree.now) c.loop-place.number in
    let end : length (f c.loop-place.place-iterator.a.rest.now) ≡ 0 = ap (λ (places : List Place). length (f places)) (none_left c) in
    let whole = c.loop-place.invariant.counted in
    omega arith

pub returns-clause-kept : goal.returns-clause-kept
unfolding found
returns-clause-kept c few =
    all_given c.loop-place.found.entries.items _ (by_place (entries_in (analysis_at c.args.table.now) c.args.tree.now) c.loop-place.number) c.loop-place.place-iterator.a.rest.now refl
    (none_left c) (c.loop-place.invariant.kept few)
