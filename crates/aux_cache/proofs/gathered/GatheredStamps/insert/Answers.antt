-- The stamps after an insertion by identity.
use Rattle.std.proofs.lemmas.Map.Views.{All-values-insert_entry}
use Rattle.aux_cache.proofs.ByIds.{put_are}
use Rattle.aux_cache.proofs.gathered.GatheredStamps.insert.Goals as goal
use Rattle.aux_cache.specs.Ids.{id_cmp}
use Rattle.aux_cache.specs.Stamps.{IsRecordable}

pub invariant_of-self-2 : goal.invariant_of-self-2
invariant_of-self-2 c =
    let es = c.self.inside.stamps.entries in
    rw c.in_ok-insert.ensures.entries
    (put_are es c.self.invariant.0 c.args.stamp, All-values-insert_entry id_cmp c.args.stamp.id c.args.stamp (λ stamp. IsRecordable stamp.analysis) es c.self.invariant.1 c.requires)
