use Rattle.root_words.proofs.Chain.{chained}
use Rattle.root_words.proofs.language.with_manners.Goals as goal

pub returns : goal.returns
returns c =
    chained c.with-4.result _ _ _ _ _ _ _ _ _ _ _ _ c.in_ok-with_verbose.ensures c.in_ok-with_ignore_aux.ensures c.in_ok-with_format.ensures
    c.flag_option.ensures.rule c.flag_option-ignore_aux.ensures.rule c.value_option.ensures.rule c.flag_letter.ensures.rule c.with-4.ensures
