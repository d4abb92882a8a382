use Rattle.std.proofs.Common.{◌≡◌, Err, refl}
use Rattle.elf_headers.specs.Reading.{known_content, OfContent}
use Rattle.elf_headers.specs.Header.{head}
use Rattle.elf_dynamic.specs.Object.{object}
use Rattle.elf_dynamic.proofs.Objects.{content_object, content_fault, head_fault, content_head}
use Rattle.elf_dynamic.proofs.Memory.{content_takes, fault_is}
use Rattle.elf_dynamic.proofs.Taken.{file_read, file_refused}
use Rattle.elf_dynamic.proofs.reader.read.Goals as goal

pub returns-in-Ok-read_begun-clause-object : goal.returns-in-Ok-read_begun-clause-object
returns-in-Ok-read_begun-clause-object g c =
    content_object c.args.keep (g.S.Store.state c.args.store.now).held c.args.key.now (known_content (g.S.Store.state c.head.new.store)) c.in-Ok.head c.in-Ok-read_begun.dynamic _ refl
    c.in-Ok.ensures.content c.in-Ok.ensures.begun_head.content c.in-Ok-read_begun.ensures.dynamic.kept

pub returns-in-Ok-read_begun-clause-reads : goal.returns-in-Ok-read_begun-clause-reads
returns-in-Ok-read_begun-clause-reads g c =
    file_read (g.S.Store.state c.args.store.now) (g.S.Store.state c.head.new.store) (g.S.Store.state c.read_begun.new.store) c.args.key.now c.in-Ok.head _
    c.in-Ok.ensures.reads c.in-Ok.ensures.content c.in-Ok.ensures.begun_head.content c.in-Ok-read_begun.ensures.reads c.in-Ok-read_begun.ensures.taken

pub returns-in-Err-read_begun-clause-defect : goal.returns-in-Err-read_begun-clause-defect
returns-in-Err-read_begun-clause-defect g c =
    content_fault (g.S.Store.state c.args.store.now).held c.args.key.now (known_content (g.S.Store.state c.head.new.store)) c.in-Ok.head c.in-Err-read_begun.fault
    c.in-Ok.ensures.content c.in-Ok.ensures.begun_head.content c.in-Err-read_begun.ensures.bad

pub returns-in-Err-read_begun-clause-reads : goal.returns-in-Err-read_begun-clause-reads
returns-in-Err-read_begun-clause-reads g c =
    file_read (g.S.Store.state c.args.store.now) (g.S.Store.state c.head.new.store) (g.S.Store.state c.read_begun.new.store) c.args.key.now c.in-Ok.head _
    c.in-Ok.ensures.reads c.in-Ok.ensures.content c.in-Ok.ensures.begun_head.content c.in-Err-read_begun.ensures.reads c.in-Err-read_begun.ensures.taken

pub returns-in-Err-clause-defect : goal.returns-in-Err-clause-defect
returns-in-Err-clause-defect g c =
    let held = (g.S.Store.state c.args.store.now).held in
    let key = c.args.key.now in
    head_fault (λ d. OfContent held key (λ bytes. head bytes ≡ Err d)) (λ d. OfContent held key (λ bytes. object bytes ≡ Err d)) c.in-Err.fault c.from.result c.from.ensures (λ x h. content_head held key x h) c.in-Err.ensures.defect

pub returns-in-Err-clause-reads : goal.returns-in-Err-clause-reads
returns-in-Err-clause-reads g c =
    file_refused (g.S.Store.state c.args.store.now) (g.S.Store.state c.head.new.store) c.args.key.now c.in-Err.fault c.from.result c.from.ensures c.in-Err.ensures.reads c.in-Err.ensures.not_held

pub returns-in-Err-read_begun-clause-no_memory : goal.returns-in-Err-read_begun-clause-no_memory
returns-in-Err-read_begun-clause-no_memory g c none =
    content_takes (g.S.Store.state c.args.store.now).held c.args.key.now (known_content (g.S.Store.state c.head.new.store)) c.in-Ok.head
    c.in-Ok.ensures.content c.in-Ok.ensures.begun_head.content (c.in-Err-read_begun.ensures.no_memory (fault_is _ _ _ _ none))
