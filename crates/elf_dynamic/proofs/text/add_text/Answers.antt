use Rattle.std.proofs.Common.{is_some, ap, ◌∙◌}
use Rattle.elf_dynamic.specs.Section.{is_nul}
use Rattle.lib_types.proofs.FirstByte.{is_some_position}
use Rattle.elf_dynamic.proofs.text.add_text.Goals as goal

pub returns-in_ok-extend_from_slice-in-Some-clause-ended : goal.returns-in_ok-extend_from_slice-in-Some-clause-ended
returns-in_ok-extend_from_slice-in-Some-clause-ended c = ap is_some c.in-Some.ensures.index ∙ is_some_position is_nul c.args.piece.now

pub returns-in_ok-extend_from_slice-in-None-clause-ended : goal.returns-in_ok-extend_from_slice-in-None-clause-ended
returns-in_ok-extend_from_slice-in-None-clause-ended c = ap is_some c.in-None.ensures.index ∙ is_some_position is_nul c.args.piece.now
