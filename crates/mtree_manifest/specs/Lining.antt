-- The open line that the code's value represents.
use Rattle.std.specs.Prelude.{option_map}
use Rattle.mtree_manifest.specs.Progress.{Open}
use Rattle.manifest_words.specs.Views.{given_in}
use Rattle.mtree_manifest.specs.declared.line.Line as the_line

abbrev pub line_in : the_line.Line → Open
line_in l = record { number = l.number; first = option_map (λ first. (first.0, first.1.now)) l.first; given = given_in l.given }
