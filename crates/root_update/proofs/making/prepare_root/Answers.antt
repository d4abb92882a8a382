use Rattle.root_update.proofs.Made.{makes, report}
use Rattle.root_update.proofs.making.prepare_root.Goals as goal

pub returns-in-Ok-clause-prepares : goal.returns-in-Ok-clause-prepares
returns-in-Ok-clause-prepares g c =
    let is = c.in-Ok.ensures in
    let image = c.in_ok-image.image in
    let scope = c.args.scope.now in (
      image,
      (
        makes scope c.args.aux image c.in-Ok.prepared _ _ c.in_ok-image.ensures.reads is.texts is.plan is.answers is.reads,
        (report scope image c.in-Ok.prepared _ _ is.updated, is.looked),
      ),
    )
