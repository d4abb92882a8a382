use Rattle.std.proofs.Common.{rules, sym, ◌∙◌}
use Rattle.elf_interpreter.proofs.OpenFile.{text_read}
use Rattle.elf_interpreter.proofs.reader.text_in.Goals as goal

pub returns-clause-text : goal.returns-clause-text
returns-clause-text g c =
    text_read (g.S.Store.state c.args.store.now) c.args.head.now c.args.s c.in_ok-count.count _ c.read_at.new.buf c.requires.head c.in_ok-count.ensures.bytes c.in_ok-count.ensures.count
    (search rules) c.in_ok-text.text (sym c.is_too_long.ensures.long ∙ c.if-is_too_long.false) (search rules)
