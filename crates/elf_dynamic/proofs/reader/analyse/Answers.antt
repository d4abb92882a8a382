use Rattle.std.proofs.Common.{Err, ap}
use Rattle.elf_dynamic.proofs.Memory.{library_content}
use Rattle.elf_dynamic.proofs.Objects.{content_analysis, object_not}
use Rattle.elf_dynamic.proofs.reader.analyse.Goals as goal

pub returns-in-Ok-clause-analysis : goal.returns-in-Ok-clause-analysis
returns-in-Ok-clause-analysis g c =
    content_analysis (g.S.Store.state c.args.store.now).held c.args.key.now c.in-Ok.object c.analysis_of.result c.analysis_of.ensures.same c.in-Ok.ensures.object

pub returns-in-Err-Bad-clause-analysis : goal.returns-in-Err-Bad-clause-analysis
returns-in-Err-Bad-clause-analysis g c =
    object_not (g.S.Store.state c.args.store.now).held c.args.key.now c.in-Err-Bad.field-0 c.in-Err-Bad.defect c.in-Err-Bad.field-0-is c.in-Err-Bad.ensures.defect

pub returns-in-Err-NoMemory-clause-no_memory : goal.returns-in-Err-NoMemory-clause-no_memory
returns-in-Err-NoMemory-clause-no_memory g c none =
    library_content (g.S.Store.state c.args.store.now).held c.args.key.now (c.in-Err-NoMemory.ensures.no_memory (ap Err c.in-Err-NoMemory.field-0-is))
