use Rattle.root_words.proofs.Chain.{chained}
use Rattle.root_words.proofs.language.with_parts.Goals as goal

pub returns : goal.returns
returns c =
    chained c.with-4.result _ _ _ _ _ _ _ _ _ _ _ _ c.in_ok-with_no_cache.ensures c.in_ok-with_no_links.ensures c.in_ok-with_only.ensures
    c.flag_letter.ensures.rule c.flag_letter-2.ensures.rule c.flag_letter-3.ensures.rule c.flag_name.ensures.rule c.with-4.ensures
