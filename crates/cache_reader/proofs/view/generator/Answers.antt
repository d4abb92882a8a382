use Rattle.std.proofs.Common.{sym, ◌∙◌}
use Rattle.cache_reader.proofs.Names.{tagged_inside}
use Rattle.cache_reader.proofs.view.generator.Goals as goal

pub bytes_in-requires : goal.bytes_in-requires
bytes_in-requires c = tagged_inside c.args.bytes.now 0 c.in_ok-sections.field-0 c.requires.sound (sym c.requires.sections.generator ∙ c.in_ok-sections.was)
