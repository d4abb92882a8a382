use Rattle.std.proofs.Common.{drop}
use Rattle.std.specs.List.{dedup}
use Rattle.std.specs.Str.{bytes_eq}
use Rattle.root_links.specs.Links.{dirs_in, dirs_of, links_in}
use Rattle.root_links.specs.Steps.{HasSettledFirst}
use Rattle.root_links.proofs.making.settle_all.Given as goal

-- the directories before this one are synced
abbrev pub invariant-loop-number : goal.invariant-loop-number
invariant-loop-number g l =
    HasSettledFirst (dirs_of (links_in l.fn.links)) (dedup bytes_eq (drop l.number (dirs_in (links_in l.fn.links)))) (g.F.Folder.state l.fn.folder) (g.F.Folder.state l.folder)
