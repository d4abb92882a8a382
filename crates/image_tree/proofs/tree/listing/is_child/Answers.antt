use Rattle.std.proofs.Common.{◌≡◌, ◌&&◌, true, false, nat_eq, drop, length, ap, sym, ◌∙◌}
use Rattle.std.specs.List.{starts_with}
use Rattle.image_tree.proofs.Names.{same_child}
use Rattle.image_tree.specs.Runs.{is_name_end}
use Rattle.image_tree.proofs.tree.listing.is_child.Goals as goal

pub returns-then-is_name_end : goal.returns-then-is_name_end
returns-then-is_name_end c = λ folder name whole.
    let child = c.args.child.now in
    let path = c.args.path.now in
    let end : is_name_end (drop (length child) path) ≡ true = sym c.is_name_end.ensures ∙ c.if-is_name_end.true in
    c.begins_with.ensures ∙ sym (ap (λ b. b && starts_with nat_eq path child) end) ∙ same_child folder name child path whole

pub returns-else-is_name_end : goal.returns-else-is_name_end
returns-else-is_name_end c = λ folder name whole.
    let child = c.args.child.now in
    let path = c.args.path.now in
    let end : is_name_end (drop (length child) path) ≡ false = sym c.is_name_end.ensures ∙ c.if-is_name_end.false in
    c.if-is_name_end.false ∙ sym (ap (λ b. b && starts_with nat_eq path child) end) ∙ same_child folder name child path whole
