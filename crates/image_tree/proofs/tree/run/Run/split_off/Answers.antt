use Rattle.std.proofs.Common.{◌≡◌, length, take, drop, ap, sym, subst, ◌∙◌}
use Rattle.std.specs.List.{zip}
use Rattle.std.specs.Map.{keys_of}
use Rattle.image_tree.proofs.OneText.{entries_dropped, entries_taken, within_taken, zipped}
use Rattle.image_tree.specs.OneText.{entries_in, nodes_of, parts_in_rows, AreWithin}
use Rattle.image_tree.proofs.tree.run.Run.split_off.Goals as goal

pub invariant_of-self-2 : goal.invariant_of-self-2
invariant_of-self-2 c =
    let count = length c.self.inside.text.items in
    subst (λ rows. AreWithin count (parts_in_rows rows)) (sym (c.shrink_to_fit.ensures.items ∙ c.in_ok-rows.ensures.items)) (within_taken count c.self.inside.rows.items c.args.index c.self.invariant)

pub settle-requires : goal.settle-requires
settle-requires c =
    let text = c.self.inside.text.items in
    let front : entries_in text c.shrink_to_fit.new.self.items ≡ take c.args.index c.args.self.now =
    ap (entries_in text) (c.shrink_to_fit.ensures.items ∙ c.in_ok-rows.ensures.items) ∙ entries_taken text c.self.inside.rows.items c.args.index ∙ ap (take c.args.index) c.self.view_is in
    c.in_ok-front.ensures ∙ ap keys_of (c.up_to.ensures ∙ ap (take c.args.index) c.rows.ensures) ∙ ap keys_of (sym front)

pub returns-clause-front : goal.returns-clause-front
returns-clause-front c =
    let text = c.self.inside.text.items in
    c.settle.ensures ∙ ap (entries_in text) (c.shrink_to_fit.ensures.items ∙ c.in_ok-rows.ensures.items) ∙ entries_taken text c.self.inside.rows.items c.args.index ∙ ap (take c.args.index) c.self.view_is

pub returns-clause-back : goal.returns-clause-back
returns-clause-back c =
    let text = c.self.inside.text.items in
    let rows = drop c.args.index c.self.inside.rows.items in
    let back : entries_in text rows ≡ drop c.args.index c.args.self.now = entries_dropped text c.self.inside.rows.items c.args.index ∙ ap (drop c.args.index) c.self.view_is in
    c.of-3.ensures ∙ ap (λ ns. zip c.in_ok-back.back ns) (ap nodes_of c.in_ok-rows.ensures.tail)
    ∙ ap (λ ps. zip ps (nodes_of rows)) (c.in_ok-back.ensures ∙ ap keys_of (c.from.ensures ∙ ap (drop c.args.index) c.rows-2.ensures ∙ sym back)) ∙ zipped text rows ∙ back
