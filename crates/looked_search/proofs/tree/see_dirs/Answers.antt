use Rattle.std.proofs.Common.{◌∙◌, ap}
use Rattle.hwcap_dirs.specs.Places.{places}
use Rattle.looked_search.proofs.TreeSeen.{dirs_ordered}
use Rattle.looked_search.proofs.tree.see_dirs.Goals as goal

pub returns-clause-dirs : goal.returns-clause-dirs
returns-clause-dirs g c =
    let scope = c.args.scope.now in
    let conf = c.args.conf.now in
    dirs_ordered scope conf c.in_ok-dirs.dirs.places (g.F.Folder.state c.args.folder.now) (g.F.Folder.state c.see_places.new.folder) c.args.looked.now c.see_places.new.looked
    c.in_ok-see_places.ensures.loads (c.in_ok-dirs.ensures.places ∙ ap (λ t. places scope t conf) c.tree.ensures)
