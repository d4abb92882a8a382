use Rattle.std.proofs.Common.{◌<◌, ap, length, subst, sym}
use Rattle.cache_reader.specs.Views.{entry_of}
use Rattle.cache_lookup.specs.Searches.{IsEntryOf}
use Rattle.cache_lookup.proofs.Indexed.{entry_is, tied}
use Rattle.cache_lookup.proofs.counted.Counted.entry.Goals as goal

pub returns-clause-value : goal.returns-clause-value
returns-clause-value c =
    let entries = ap (λ p. p.entries) c.self.view_is in
    subst (λ es. IsEntryOf es c.args.i (entry_of c.entry_within.result)) entries (entry_is _ _ _ (subst (λ es. c.args.i < length es) (sym entries) c.requires) c.entry_within.ensures)

pub returns-clause-tied : goal.returns-clause-tied
returns-clause-tied c = tied _ _ _ c.entry_within.ensures
