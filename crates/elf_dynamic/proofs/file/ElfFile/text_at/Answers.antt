use Rattle.elf_dynamic.proofs.Known.{sized}
use Rattle.elf_dynamic.proofs.Nuls.{text_known}
use Rattle.elf_dynamic.proofs.file.ElfFile.text_at.Goals as goal

pub returns-clause-text : goal.returns-clause-text
returns-clause-text g c =
    let f = c.args.self.now.cursor in
    text_known _ c.most_at-size.result c.args.offset f.strings f.head.length _ c.if-offset-strings.false c.requires.cursor.strings c.most_at-size.ensures (sized _ _ c.requires.cursor.head) c.read_text.ensures.text
