use Rattle.cache_entries.proofs.Fit.{caps_fit, few_fit, no_nul_fits, paths_fit, sonames_fit}
use Rattle.ldconfig_core.proofs.preparing.prepare_found.Goals as goal

pub write-requires-clause-few : goal.write-requires-clause-few
write-requires-clause-few c = few_fit _ c.in_ok-entries.entries c.in_ok-entries.ensures.entries c.in_ok-entries.ensures.few

pub write-requires-clause-caps : goal.write-requires-clause-caps
write-requires-clause-caps c = caps_fit c.in_ok-entries.entries (c.in_ok-entries.ensures.fit c.requires.spelled)

pub write-requires-clause-paths : goal.write-requires-clause-paths
write-requires-clause-paths c = paths_fit c.in_ok-entries.entries (c.in_ok-entries.ensures.fit c.requires.spelled)

pub write-requires-clause-no_nul : goal.write-requires-clause-no_nul
write-requires-clause-no_nul c = no_nul_fits c.in_ok-entries.entries (c.in_ok-entries.ensures.fit c.requires.spelled)

pub write-requires-clause-sonames : goal.write-requires-clause-sonames
write-requires-clause-sonames c = sonames_fit c.in_ok-entries.entries (c.in_ok-entries.ensures.fit c.requires.spelled)
