use Rattle.place_libraries.proofs.Gathered.{all_gathered}
use Rattle.place_libraries.proofs.sonames.gather_by_soname.Goals as goal

pub returns : goal.returns
returns g c =
    all_gathered g.G.Gather.step c.args.items.items c.sort_by_soname.new.items.items c.in_ok-found.found.items c.in_ok-sort_by_soname.ensures c.in_ok-found.ensures
