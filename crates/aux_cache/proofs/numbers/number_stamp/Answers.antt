-- The index of a stamp's soname after it is added.
use Rattle.aux_cache.proofs.Adding.{numbered}
use Rattle.aux_cache.proofs.numbers.number_stamp.Goals as goal

pub returns-clause-number : goal.returns-clause-number
returns-clause-number c =
    let add = c.in_ok-soname.ensures in
    numbered c.args.texts.now c.add.new.self (record { stamp = c.args.stamp; soname = c.in_ok-soname.soname }) c.soname_of.result.now add.texts c.soname_of.ensures add.number
