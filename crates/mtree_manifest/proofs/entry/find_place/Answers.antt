use Rattle.std.proofs.Common.{sym, ◌∙◌}
use Rattle.mtree_manifest.proofs.entry.find_place.Goals as goal

pub returns-in-Some-clause-place : goal.returns-in-Some-clause-place
returns-in-Some-clause-place c e = c.in_ok-fill.ensures ∙ sym (c.in-Some.ensures.place c.args.current.now)
