use Rattle.std.proofs.Common.{◌≡◌, ◌++◌, ◌∙◌, append_assoc, ap, rules}
use Rattle.scope_tree.specs.Printed.{names_for, row_text, rows_text}
use Rattle.scope_tree.specs.Stack.{row_of}
use Rattle.scope_tree.proofs.SeenNames.{next_text}
use Rattle.scope_tree.proofs.printing.add_row.Goals as goal

pub returns : goal.returns
returns c =
    let members = c.args.members.now in
    let line = row_of c.args.line.now in
    let seen = c.args.seen.now in
    let more = names_for members line.reply in
    let text = c.args.text.now.items in
    let added : c.add_line.new.text.items ≡ text ++ row_text members seen line = search rules in
    λ rows.
    ap (λ l. c.add_line.new.text.items ++ l) (next_text members rows seen c.add_names_for.new.seen more c.in_ok-add_names_for.ensures)
    ∙ ap (λ l. l ++ rows_text members (seen ++ more) rows) added
    ∙ append_assoc text (row_text members seen line) (rows_text members (seen ++ more) rows)
