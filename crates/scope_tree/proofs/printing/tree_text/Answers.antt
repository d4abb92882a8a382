use Rattle.std.proofs.Common.{◌≡◌, ◌++◌, ◌∙◌, codes, map, ap, rules}
use Rattle.scope_tree.specs.Printed.{names_at, path_at, rows_text, tree_text}
use Rattle.scope_tree.specs.Rows.{tree_rows}
use Rattle.scope_tree.specs.Stack.{row_of}
use Rattle.scope_tree.proofs.SeenNames.{first_text}
use Rattle.scope_tree.proofs.printing.tree_text.Goals as goal

pub returns : goal.returns
unfolding tree_text
returns c =
    let scope = c.args.scope.now in
    let members = scope.members in
    let rows = tree_rows members scope.replies in
    let head : c.push.new.self.items ≡ path_at members 0 ++ codes "\n" = search rules in
    let lines : map row_of c.deref.result.now ≡ rows = rw c.deref.ensures.value c.in_ok-lines.ensures in
    c.in_ok-add_lines.ensures
    ∙ ap (λ l. l ++ rows_text members c.add_names_at.new.seen (map row_of c.deref.result.now)) head
    ∙ ap (λ l. (path_at members 0 ++ codes "\n") ++ rows_text members c.add_names_at.new.seen l) lines
    ∙ ap (λ l. (path_at members 0 ++ codes "\n") ++ l) (first_text members rows c.add_names_at.new.seen (names_at members 0) (rw c.new-seen.ensures at c.in_ok-add_names_at.ensures))
