use Rattle.std.proofs.Common.{◌∙◌, sym}
use Rattle.hwcap_dirs.proofs.Firsts.{one_more}
use Rattle.hwcap_dirs.proofs.listing.Gathering.add.Goals as goal

pub returns-clause-rest : goal.returns-clause-rest
returns-clause-rest c = λ texts.
    rw (c.in_ok-add_dir.ensures.met, c.in_ok-add_dir.ensures.places)
    (one_more c.args.tree.now c.args.self.now.met c.args.self.now.places c.args.text.now c.in-Some.real texts (sym c.in_ok-real.ensures ∙ c.in-Some.is))
