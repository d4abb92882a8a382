use Rattle.std.proofs.Common.{subst, List}
use Rattle.lib_types.specs.declared.entry.Entry.{Entry}
use Rattle.cache_entries.proofs.Fit.{sorted_fit}
use Rattle.cache_entries.proofs.Led.{led}
use Rattle.cache_entries.proofs.Single.{one_list}
use Rattle.cache_entries.specs.Entries.{AreEntriesOf}
use Rattle.file_table.specs.Table.{analysis_at}
use Rattle.cache_entries.proofs.listing.entries_by.Goals as goal

pub returns-clause-fit : goal.returns-clause-fit
returns-clause-fit c = λ all. sorted_fit (analysis_at c.args.table.now) c.know-2.ensures c.args.tree.now c.know.ensures c.args.dirs.now.places c.in_ok-entries.entries
    (subst (λ (f : List Entry). AreEntriesOf f c.in_ok-entries.entries) (c.in_ok-found.ensures.kept c.in_ok-entries.ensures.few) c.in_ok-entries.ensures.entries) all

pub returns-clause-single : goal.returns-clause-single
returns-clause-single c = λ others are. one_list (analysis_at c.args.table.now) c.args.tree.now c.args.dirs.now.places others c.in_ok-entries.entries are
    (subst (λ (f : List Entry). AreEntriesOf f c.in_ok-entries.entries) (c.in_ok-found.ensures.kept c.in_ok-entries.ensures.few) c.in_ok-entries.ensures.entries)

pub returns-clause-led : goal.returns-clause-led
returns-clause-led c = led (analysis_at c.args.table.now) c.args.tree.now c.args.dirs.now.places c.in_ok-entries.entries
    (subst (λ (f : List Entry). AreEntriesOf f c.in_ok-entries.entries) (c.in_ok-found.ensures.kept c.in_ok-entries.ensures.few) c.in_ok-entries.ensures.entries)
