use Rattle.root_words.proofs.Chain.{chained}
use Rattle.root_words.proofs.language.with_paths.Goals as goal

pub returns : goal.returns
returns c =
    chained c.with-4.result _ _ _ _ _ _ _ _ _ _ _ _ c.in_ok-with_root.ensures c.in_ok-with_conf.ensures c.in_ok-with_cache.ensures
    c.value_option.ensures.rule c.value_letter.ensures.rule c.value_letter-2.ensures.rule c.value_name.ensures.rule c.with-4.ensures
