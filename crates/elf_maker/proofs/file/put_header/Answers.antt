use Rattle.elf_maker.proofs.Lengths.{small_header}
use Rattle.elf_maker.proofs.file.put_header.Goals as goal

pub put_fields-requires : goal.put_fields-requires
put_fields-requires c = small_header c.args.w _ _ _ _ _ _ _ c.requires

pub returns : goal.returns
returns c = let h = c.from-3.ensures in simp (c.at_class-header.ensures, c.at_class-program_header.ensures, c.row-row.ensures.machine, c.row-row.ensures.bits, c.from.ensures, c.from-2.ensures, c.from-3.ensures, c.from-4.ensures) at c.put_fields.ensures
