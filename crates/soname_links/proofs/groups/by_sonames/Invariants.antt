use Rattle.std.proofs.Common.{◌≡◌, ◌++◌}
use Rattle.soname_links.specs.Survey.{keyed}
use Rattle.soname_links.proofs.groups.by_sonames.Given as goal

-- the libraries that are left give the rest
abbrev pub invariant-loop-library : goal.invariant-loop-library
invariant-loop-library l = l.items.items ++ keyed l.library-iterator.rest.items ≡ keyed l.fn.libraries.items
