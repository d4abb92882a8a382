use Rattle.looked_search.proofs.GivenDirs.{given_sees}
use Rattle.looked_search.proofs.source.see_source.Goals as goal

pub returns-in-Image : goal.returns-in-Image
returns-in-Image g c = rw c.in-Image.is c.see_conf.ensures

pub returns-in-Ok : goal.returns-in-Ok
returns-in-Ok g c =
    rw c.in-Only.is
    (given_sees c.in-Only.dirs (g.F.Folder.state c.args.folder.now) (g.S.Store.state c.args.store.now) c.args.looked.now c.in-Ok.conf c.in-Ok.ensures.conf c.in-Ok.ensures.short)
