use Rattle.std.proofs.Common.{◌≡◌, true}
use Rattle.std.specs.List.{filter}
use Rattle.image_tree.specs.Paths.{is_kept}
use Rattle.manifest_words.specs.Paths.{decoded_each, names_of}
use Rattle.manifest_words.specs.Naming.{named}
use Rattle.manifest_words.proofs.paths.append_names.Given as goal

-- the components that are left, added to the path and the test so far, give the result
abbrev pub invariant-loop-component : goal.invariant-loop-component
invariant-loop-component l = named l.out.items l.good (decoded_each (filter is_kept l.component-iterator)) ≡ named l.fn.out.items true (names_of l.fn.word)
