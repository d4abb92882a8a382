use Rattle.root_folder_tests.proofs.LeftAlone.{both_leave, durable, link_leave}
use Rattle.root_folder_tests.proofs.durable.link_durably.Goals as goal

pub returns-in_err-link-clause-leaves : goal.returns-in_err-link-clause-leaves
returns-in_err-link-clause-leaves g c =
    link_leave c.args.path.now c.args.target.now (g.F.Folder.state c.args.folder.now) (g.F.Folder.state c.link.new.self) c.link.result c.link.ensures.crash

pub returns-clause-durable : goal.returns-clause-durable
returns-clause-durable g c =
    durable c.args.path.now c.args.target.now (g.F.Folder.state c.args.folder.now) (g.F.Folder.state c.link.new.self) (g.F.Folder.state c.settle.new.self) c.parted.result.0.now
    c.parted.ensures.folder c.settle.result c.in_ok-link.ensures.does.done c.settle.ensures.does.done c.settle.ensures.crash

pub returns-clause-leaves : goal.returns-clause-leaves
returns-clause-leaves g c =
    both_leave c.args.path.now c.args.target.now (g.F.Folder.state c.args.folder.now) (g.F.Folder.state c.link.new.self) (g.F.Folder.state c.settle.new.self) c.parted.result.0.now
    c.parted.ensures.folder c.link.result c.settle.result (g.met.F.Folder.moments c.link.new.self) c.link.ensures.crash c.settle.ensures.crash
