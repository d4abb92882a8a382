use Rattle.std.proofs.Common.{◌≡◌, rules}
use Rattle.rpath_search.specs.Loaders.{reaches_of}
use Rattle.rpath_search.proofs.Loading.{reach_library}
use Rattle.rpath_search.proofs.loaders.Loaders.library.Goals as goal

pub returns : goal.returns
returns c = λ i within.
    let view : c.args.self.now ≡ reaches_of c.self.inside.library c.self.inside.links.items = search rules in
    rw (view, c.as_slice.ensures) (reach_library c.self.inside.library c.self.inside.links.items c.self.invariant i (rw view at within))
