use Rattle.std.proofs.Common.{◌∙◌, ap}
use Rattle.file_table.proofs.Named.{still_named}
use Rattle.file_table.specs.Table.{have_names}
use Rattle.file_table.proofs.table.Table.insert.Goals as goal

pub invariant_of-self-2 : goal.invariant_of-self-2
invariant_of-self-2 c =
    ap have_names c.in_ok-insert.ensures.entries ∙ still_named c.self.inside.analyses.entries c.args.path c.args.analysis c.self.invariant c.requires
