use Rattle.std.proofs.Common.{◌≡◌, ◌++◌, drop, None, option_map}
use Rattle.update_report.specs.Report.{sonames_of}
use Rattle.update_report.specs.Twins.{twins_after}
use Rattle.update_report.proofs.listing.put_twin_lines.Given as goal

-- the output so far and the lines of the remaining entries, the first compared with the entry before it, are the whole output
abbrev pub invariant-loop-entry : goal.invariant-loop-entry
invariant-loop-entry l =
    l.out.items ++ twins_after (option_map (λ name. name.now) l.before) (sonames_of (drop l.entry-index l.entries)) ≡ l.fn.out.items ++ twins_after None (sonames_of l.entries)
