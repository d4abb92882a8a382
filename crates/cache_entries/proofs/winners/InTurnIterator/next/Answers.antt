use Rattle.std.proofs.Common.{rules}
use Rattle.cache_entries.proofs.Merged.{Begins, file_next, goes_on, link_next}
use Rattle.cache_entries.specs.Merged.{merged}
use Rattle.cache_entries.proofs.winners.InTurnIterator.next.Goals as goal

pub returns-in-Less-clause-goes : goal.returns-in-Less-clause-goes
returns-in-Less-clause-goes c =
    let left = merged c.self.inside.files c.next.new.self in
    let steps : Begins c.args.self.now c.next.result left = search (rules, link_next) in
    goes_on c.args.self.now left c.next.result steps

pub returns-in-Greater-clause-goes : goal.returns-in-Greater-clause-goes
returns-in-Greater-clause-goes c =
    let left = merged c.next-in-Greater.new.self c.self.inside.links in
    let steps : Begins c.args.self.now c.next-in-Greater.result left = search (rules, file_next) in
    goes_on c.args.self.now left c.next-in-Greater.result steps
