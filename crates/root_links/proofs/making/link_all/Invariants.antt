use Rattle.root_links.specs.Links.{links_in}
use Rattle.root_links.specs.Steps.{LinksFirst}
use Rattle.root_links.proofs.making.link_all.Given as goal

-- the links before this one are made
abbrev pub invariant-loop-number : goal.invariant-loop-number
invariant-loop-number g l = LinksFirst l.tag (links_in l.fn.links) l.number (g.F.Folder.state l.fn.folder) (g.F.Folder.state l.folder)
