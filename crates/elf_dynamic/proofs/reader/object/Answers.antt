use Rattle.elf_dynamic.proofs.Objects.{content_whole}
use Rattle.elf_dynamic.proofs.reader.object.Goals as goal

pub returns-clause-object : goal.returns-clause-object
returns-clause-object g c = content_whole (g.S.Store.state c.args.store.now).held c.args.key.now c.read.result c.read.ensures.object
