use Rattle.std.proofs.Common.{◌≡◌, ◌++◌, drop}
use Rattle.std.specs.List.{flat_map}
use Rattle.needed_files.specs.Printed.{path_line}
use Rattle.needed_files.proofs.printing.list_text.Given as goal

-- the text so far and the lines of the files that are left are the whole text
abbrev pub invariant-loop-file : goal.invariant-loop-file
invariant-loop-file l = l.text.items ++ flat_map (path_line l.end) (drop l.file-index l.files) ≡ flat_map (path_line l.end) l.files
