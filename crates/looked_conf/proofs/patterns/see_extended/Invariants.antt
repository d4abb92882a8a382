use Rattle.std.proofs.Common.{drop}
use Rattle.looked_conf.proofs.Texts.{IsExtending}
use Rattle.looked_conf.proofs.patterns.see_extended.Given as goal

-- the remaining paths give the rest
abbrev pub invariant-loop-text : goal.invariant-loop-text
invariant-loop-text g l =
    IsExtending l.fn.component l.fn.texts (drop l.text-index l.fn.texts) l.more.items
    (g.F.Folder.state l.fn.folder) (g.F.Folder.state l.folder) l.fn.looked l.looked
