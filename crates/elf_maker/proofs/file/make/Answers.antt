use Rattle.elf_maker.proofs.Makeable.{are_short}
use Rattle.elf_maker.proofs.file.make.Goals as goal

pub layout_of-requires : goal.layout_of-requires
layout_of-requires c = are_short c.args.spec.now c.requires
