use Rattle.std.proofs.Common.{◌≡◌, ◌<◌, ◌-◌, ◌++◌, ◌∙◌, append_assoc, codes, sym, ap, rules}
use Rattle.scope_tree.specs.Printed.{indent}
use Rattle.scope_tree.proofs.Indents.{indent_next}
use Rattle.scope_tree.proofs.printing.add_indent.Goals as goal

pub loop-left-preserved : goal.loop-left-preserved
loop-left-preserved c =
    let left = c.loop-left.left in
    let text = c.loop-left.text.items in
    let some : 0 < left = search rules in
    let added : c.extend_from_slice.new.self.items ≡ text ++ codes "    " = search rules in
    ap (λ l. l ++ indent (left - 1)) added
    ∙ append_assoc text (codes "    ") (indent (left - 1))
    ∙ ap (λ l. text ++ l) (sym (indent_next left some))
    ∙ c.loop-left.invariant
