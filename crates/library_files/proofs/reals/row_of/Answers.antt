use Rattle.std.proofs.Common.{rules, ◌≡◌, Some}
use Rattle.std.specs.List.{position}
use Rattle.std.specs.Str.{bytes_eq}
use Rattle.library_files.proofs.FolderRows.{row_found}
use Rattle.library_files.proofs.reals.row_of.Goals as goal

pub returns-in-Some : goal.returns-in-Some
returns-in-Some c =
    let at : position (bytes_eq c.args.path.now) c.args.met.now.keys ≡ Some c.in-Some.row = search rules in
    row_found c.args.met.now.keys c.args.path.now c.in-Some.row at
