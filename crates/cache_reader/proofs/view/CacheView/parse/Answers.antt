use Rattle.std.proofs.Common.{arith}
use Rattle.cache_reader.proofs.Sound.{sound}
use Rattle.cache_reader.proofs.view.CacheView.parse.Goals as goal

pub nlibs-requires : goal.nlibs-requires
nlibs-requires c =
    let fits = (sound c.args.bytes.now c.in_ok-sections.ensures.accepted).entries in
    omega (arith, fits)

pub generator-requires-clause-sound : goal.generator-requires-clause-sound
generator-requires-clause-sound c = sound c.args.bytes.now c.in_ok-sections.ensures.accepted
