-- The indexes of an entry's two strings, after both are added.
use Rattle.cache_writer.proofs.Adding.{numbered}
use Rattle.cache_writer.proofs.numbers.number_entry.Goals as goal

pub returns-clause-numbers : goal.returns-clause-numbers
returns-clause-numbers c =
    let first = c.in_ok-soname.ensures in
    let second = c.in_ok-path.ensures in
    numbered c.args.texts.now c.add.new.self c.add-2.new.self (record { entry = c.args.entry; soname = c.in_ok-soname.soname; path = c.in_ok-path.path }) c.as_bytes.result.now c.as_bytes-2.result.now
    first.texts second.texts c.as_bytes.ensures c.as_bytes-2.ensures first.number second.number
