use Rattle.std.proofs.Common.{refl, sym, ◌∙◌, ap}
use Rattle.looked_tree.proofs.Loads.{looks_none}
use Rattle.looked_conf.proofs.Conf.{conf_loaded}
use Rattle.looked_conf.proofs.Known.{named_fault}
use Rattle.looked_conf.proofs.reading.read_in.Goals as goal

pub returns-in-Ok-clause-same_folder : goal.returns-in-Ok-clause-same_folder
returns-in-Ok-clause-same_folder g c =
    (c.in-Ok.ensures.since c.args.view.now (refl, (refl, looks_none (g.F.Folder.state c.args.view.now.folder.now) c.args.view.now.looked.now))).0

pub returns-in-Ok-clause-same_part : goal.returns-in-Ok-clause-same_part
returns-in-Ok-clause-same_part g c =
    (c.in-Ok.ensures.since c.args.view.now (refl, (refl, looks_none (g.F.Folder.state c.args.view.now.folder.now) c.args.view.now.looked.now))).1.0

pub returns-in-Ok-clause-looks : goal.returns-in-Ok-clause-looks
returns-in-Ok-clause-looks g c =
    (c.in-Ok.ensures.since c.args.view.now (refl, (refl, looks_none (g.F.Folder.state c.args.view.now.folder.now) c.args.view.now.looked.now))).1.1

pub returns-in-Ok-clause-loads : goal.returns-in-Ok-clause-loads
returns-in-Ok-clause-loads g c =
    let looks = (c.in-Ok.ensures.since c.args.view.now (refl, (refl, looks_none (g.F.Folder.state c.args.view.now.folder.now) c.args.view.now.looked.now))).1.1 in
    conf_loaded c.args.path.now (g.F.Folder.state c.args.view.now.folder.now) (g.F.Folder.state c.read_conf_in.new.view.folder.now)
    c.args.view.now.looked.now c.read_conf_in.new.view.looked.now looks (g.S.Store.state c.args.store.now).held c.in-Ok.ensures.looks

pub returns-in-Err-StoreFault-clause-same_folder : goal.returns-in-Err-StoreFault-clause-same_folder
returns-in-Err-StoreFault-clause-same_folder g c =
    let stops = rw c.in-Err-StoreFault.field-0-is at c.in-Err-StoreFault.ensures.stops in
    (stops c.args.view.now (refl, (refl, looks_none (g.F.Folder.state c.args.view.now.folder.now) c.args.view.now.looked.now))).0

pub returns-in-Err-StoreFault-clause-same_part : goal.returns-in-Err-StoreFault-clause-same_part
returns-in-Err-StoreFault-clause-same_part g c =
    let stops = rw c.in-Err-StoreFault.field-0-is at c.in-Err-StoreFault.ensures.stops in
    (stops c.args.view.now (refl, (refl, looks_none (g.F.Folder.state c.args.view.now.folder.now) c.args.view.now.looked.now))).1.0

pub returns-in-Err-StoreFault-clause-fails : goal.returns-in-Err-StoreFault-clause-fails
returns-in-Err-StoreFault-clause-fails g c =
    let stops = rw c.in-Err-StoreFault.field-0-is at c.in-Err-StoreFault.ensures.stops in
    (stops c.args.view.now (refl, (refl, looks_none (g.F.Folder.state c.args.view.now.folder.now) c.args.view.now.looked.now))).1.1

pub returns-in-Err-NoMemory-clause-same_folder : goal.returns-in-Err-NoMemory-clause-same_folder
returns-in-Err-NoMemory-clause-same_folder g c =
    let stops = rw c.in-Err-NoMemory.field-0-is at c.in-Err-NoMemory.ensures.stops in
    (stops c.args.view.now (refl, (refl, looks_none (g.F.Folder.state c.args.view.now.folder.now) c.args.view.now.looked.now))).0

pub returns-in-Err-NoMemory-clause-same_part : goal.returns-in-Err-NoMemory-clause-same_part
returns-in-Err-NoMemory-clause-same_part g c =
    let stops = rw c.in-Err-NoMemory.field-0-is at c.in-Err-NoMemory.ensures.stops in
    (stops c.args.view.now (refl, (refl, looks_none (g.F.Folder.state c.args.view.now.folder.now) c.args.view.now.looked.now))).1.0

pub returns-in-Err-NoMemory-clause-fails : goal.returns-in-Err-NoMemory-clause-fails
returns-in-Err-NoMemory-clause-fails g c =
    let stops = rw c.in-Err-NoMemory.field-0-is at c.in-Err-NoMemory.ensures.stops in
    (stops c.args.view.now (refl, (refl, looks_none (g.F.Folder.state c.args.view.now.folder.now) c.args.view.now.looked.now))).1.1

pub returns-in-Some-clause-same_folder : goal.returns-in-Some-clause-same_folder
returns-in-Some-clause-same_folder g c =
    let stops = rw c.in-Err-Unseen.field-0-is at c.in-Err-Unseen.ensures.stops in
    c.take_fault.ensures.same_folder
    ∙ (stops c.args.view.now (refl, (refl, looks_none (g.F.Folder.state c.args.view.now.folder.now) c.args.view.now.looked.now))).0

pub returns-in-Some-clause-same_part : goal.returns-in-Some-clause-same_part
returns-in-Some-clause-same_part g c =
    let stops = rw c.in-Err-Unseen.field-0-is at c.in-Err-Unseen.ensures.stops in
    c.take_fault.ensures.same_part
    ∙ (stops c.args.view.now (refl, (refl, looks_none (g.F.Folder.state c.args.view.now.folder.now) c.args.view.now.looked.now))).1.0

pub returns-in-Some-clause-fails : goal.returns-in-Some-clause-fails
returns-in-Some-clause-fails g c =
    let a = g.F.Folder.state c.args.view.now.folder.now in
    let stops = rw c.in-Err-Unseen.field-0-is at c.in-Err-Unseen.ensures.stops in
    let fails = (stops c.args.view.now (refl, (refl, looks_none a c.args.view.now.looked.now))).1.1 in
    named_fault c.read_conf_in.new.view.fault.now c.in-Some.fault a (g.F.Folder.state c.read_conf_in.new.view.folder.now) (g.F.Folder.state c.take_fault.new.self.folder.now)
    c.read_conf_in.new.view.looked.now c.take_fault.new.self.looked.now (sym c.take_fault.ensures.fault ∙ c.in-Some.is)
    (ap g.F.Folder.state c.take_fault.ensures.folder) c.take_fault.ensures.part fails
