use Rattle.std.proofs.Common.{◌≡◌, ap, ◌∙◌, refl, Some}
use Rattle.tree_face.specs.Memory.{held_in}
use Rattle.tree_face.specs.SureDisk.{disk_content}
use Rattle.tree_face.specs.SureStore.{state_of}
use Rattle.sample_runs.proofs.Ran.{run_ends}
use Rattle.sample_runs.specs.Run.{sample_contents}
use Rattle.sample_runs.proofs.run.run_sample.Goals as goal

pub returns-clause-ends : goal.returns-clause-ends
unfolding sample_contents
returns-clause-ends g c =
    let held : (state_of c.new-store.result).held ≡ Some (sample_contents c.args.n) =
    c.new-store.ensures.held ∙ ap (λ pairs. Some (held_in pairs)) c.in-Ok.ensures in
    rw c.own_status.ensures (run_ends c.args.n _ _ _ _ _ _ (disk_content c.new-disk.result) held refl c.sample_on.result c.sample_on.ensures)
