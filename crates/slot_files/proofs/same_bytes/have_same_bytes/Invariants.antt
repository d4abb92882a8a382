use Rattle.std.proofs.Common.{◌≡◌, ◌≤◌, ◌-◌, take}
use Rattle.tree_face.specs.Known.{IfKnown}
use Rattle.slot_files.proofs.same_bytes.have_same_bytes.Given as goal

-- the files have the same bytes up to `at`
abbrev pub invariant-loop-at : goal.invariant-loop-at
invariant-loop-at g l = record {
  within : l.at ≤ l.length;
  same : IfKnown (g.F.Bytes.content l.one) (λ ones. IfKnown (g.F.Bytes.content l.other) (λ others. take l.at ones ≡ take l.at others));
}

abbrev pub decreases-loop-at : goal.decreases-loop-at
decreases-loop-at g l = l.length - l.at
