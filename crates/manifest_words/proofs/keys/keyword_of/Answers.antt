use Rattle.std.proofs.Common.{◌≡◌, ap, codes, sym, rules, arith}
use Rattle.std.proofs.lemmas.Slice.Eq.{text_from_reads}
use Rattle.manifest_words.specs.Keys.{keyword_of}
use Rattle.manifest_words.proofs.keys.keyword_of.Goals as goal

pub returns-in-contents : goal.returns-in-contents
returns-in-contents c =
    let is : c.args.key.now ≡ codes "contents" = text_from_reads c.args.key.now (codes "contents") (omega arith) (search rules) in
    sym (ap keyword_of is)
