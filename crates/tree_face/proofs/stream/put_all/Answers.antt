use Rattle.std.proofs.Common.{length-drop, arith, ◌∙◌}
use Rattle.std.proofs.lemmas.List.{take_rest}
use Rattle.tree_face.proofs.Streams.{taken_on}
use Rattle.tree_face.proofs.stream.put_all.Goals as goal

pub loop-at-preserved : goal.loop-at-preserved
loop-at-preserved g c = record {
  within = omega (arith, c.in_ok-at.ensures.within, length-drop c.loop-at.at c.args.bytes.now);
  written = taken_on _ _ _ _ _ _ c.loop-at.invariant.written (rw take_rest at c.in_ok-at.ensures.done);
  no_fault = c.in_ok-at.ensures.no_fault ∙ c.loop-at.invariant.no_fault;
}
