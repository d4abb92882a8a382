use Rattle.root_words.proofs.Chain.{chained}
use Rattle.root_words.proofs.language.with_prints.Goals as goal

pub returns : goal.returns
returns c =
    chained c.with-4.result _ _ _ _ _ _ _ _ _ _ _ _ c.in_ok-with_print.ensures c.in_ok-with_help.ensures c.in_ok-with_version.ensures
    c.flag_option.ensures.rule c.flag_option-2.ensures.rule c.flag_option-3.ensures.rule c.directories.ensures.rule c.with-4.ensures
