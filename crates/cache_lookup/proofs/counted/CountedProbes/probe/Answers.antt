use Rattle.std.proofs.Common.{◌≡◌, ◌<◌, ap, length, subst, sym}
use Rattle.std.specs.List.{slice_get}
use Rattle.std.specs.Option.{IfSome}
use Rattle.cache_reader.specs.Views.{entry_of}
use Rattle.cache_lookup.specs.Probing.{order_to, rank_of}
use Rattle.cache_lookup.proofs.Indexed.{at_entry}
use Rattle.cache_lookup.proofs.counted.CountedProbes.probe.Goals as goal

pub returns-clause-order : goal.returns-clause-order
returns-clause-order c =
    let entries = ap (λ p. p.entries) c.self.view_is in
    subst (λ es. IfSome (slice_get es c.args.i) (λ e. c.compare_tokens.result ≡ order_to c.args.name.now e)) entries
    (at_entry (λ e. c.compare_tokens.result ≡ order_to c.args.name.now e) _ c.args.i (entry_of c.entry-entry.result) (subst (λ es. c.args.i < length es) (sym entries) c.requires) c.entry-entry.ensures.value c.compare_tokens.ensures)

pub returns-clause-rank : goal.returns-clause-rank
returns-clause-rank c =
    let entries = ap (λ p. p.entries) c.self.view_is in
    subst (λ es. IfSome (slice_get es c.args.i) (λ e. c.rank_of.result ≡ rank_of c.args.name.now c.args.abi c.args.caps.now e)) entries
    (at_entry (λ e. c.rank_of.result ≡ rank_of c.args.name.now c.args.abi c.args.caps.now e) _ c.args.i (entry_of c.entry-entry.result) (subst (λ es. c.args.i < length es) (sym entries) c.requires) c.entry-entry.ensures.value c.rank_of.ensures)
