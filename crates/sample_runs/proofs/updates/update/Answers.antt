use Rattle.sample_runs.proofs.Updating.{is_updated, stops, stops_reading}
use Rattle.sample_runs.proofs.updates.update.Goals as goal

pub returns-clause-updated : goal.returns-clause-updated
returns-clause-updated g c = is_updated c.args.image _ _ _ _ _ c.in-Ok.updated.0 c.in-Ok.updated.1 c.in-Ok.ensures.updates c.in-Ok-read_cache.ensures.keeps c.in-Ok-read_cache.cache c.in-Ok-read_cache.ensures.content c.in-Ok-read_cache.ensures.no_fault c.in-Ok-read_cache.ensures.reads

pub returns-in-Err-clause-part : goal.returns-in-Err-clause-part
returns-in-Err-clause-part g c =
    stops c.args.image (g.S.Store.state c.args.store.now) (g.S.Store.state c.update.new.store) (g.D.Disk.state c.args.disk.now) (g.D.Disk.state c.update.new.disk) (g.D.Disk.state c.update.new.disk)
    c.in-Err.fault c.in-Err.ensures.updates

pub returns-in-Err-read_cache-clause-part : goal.returns-in-Err-read_cache-clause-part
returns-in-Err-read_cache-clause-part g c =
    stops_reading c.args.image (g.S.Store.state c.args.store.now) (g.S.Store.state c.update.new.store) (g.D.Disk.state c.args.disk.now) (g.D.Disk.state c.update.new.disk)
    (g.D.Disk.state c.read_cache.new.disk) c.in-Ok.updated c.in-Ok.ensures.updates c.in-Err-read_cache.ensures.part
