use Rattle.std.proofs.Common.{rules, ◌≡◌, ◌<◌, ◌∙◌, Some, ap, get_or, length, refl}
use Rattle.std.proofs.lemmas.Option.{slice_get_read}
use Rattle.library_files.proofs.FolderRows.{row_or_none}
use Rattle.place_libraries.proofs.libraries.row_of.Goals as goal

pub returns-then-are_same-clause-row : goal.returns-then-are_same-clause-row
returns-then-are_same-clause-row c =
    let texts = c.args.folders.now.keys in
    let text = c.in-Some.text.now in
    let within : c.args.near < length texts = search rules in
    let there : text ≡ get_or texts c.args.near text = search rules in
    let same : text ≡ c.args.folder.now = search rules in
    slice_get_read texts (length texts) c.args.near text refl within there ∙ ap Some same

pub returns-clause-row : goal.returns-clause-row
returns-clause-row c = row_or_none c.args.folders.now.keys c.args.folder.now c.get_index_of.result (search rules) (search rules)
