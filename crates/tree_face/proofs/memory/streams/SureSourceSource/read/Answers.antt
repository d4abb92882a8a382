use Rattle.std.proofs.Common.{arith, refl}
use Rattle.tree_face.proofs.Streams.{gives_part}
use Rattle.tree_face.proofs.memory.streams.SureSourceSource.read.Goals as goal

pub returns : goal.returns
returns c = record {
  within = omega (arith, c.copy_from-count.ensures.count);
  done = gives_part _ _ _ _ _ (rw c.deref.ensures.value at c.copy_from-count.ensures.count) c.args.self.now.within (rw c.deref.ensures.value at c.copy_from-count.ensures.bytes);
  failed = tt;
  faults = omega arith;
  no_fault = refl;
  cause = tt;
}
