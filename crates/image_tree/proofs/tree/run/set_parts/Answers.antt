use Rattle.std.proofs.Common.{rules, ◌≡◌, ◌<◌, length, get_or, set, ap, ◌∙◌, sym}
use Rattle.std.proofs.lemmas.List.{length-map}
use Rattle.image_tree.proofs.OneText.{same_count, written_more}
use Rattle.image_tree.specs.OneText.{parts_in_rows}
use Rattle.image_tree.proofs.tree.run.set_parts.Goals as goal

pub loop-i-preserved : goal.loop-i-preserved
loop-i-preserved c =
    let parts = c.args.parts.now.items in
    let old = parts_in_rows c.args.rows.now.items in
    let i = c.loop-i.i in
    let within : i < length parts = search rules in
    let part : c.index.result.now ≡ get_or parts i c.index.result.now = search rules in
    record {
      parts = c.set_part.ensures.parts ∙ ap (λ ps. set ps i c.index.result.now) c.loop-i.invariant.parts
          ∙ written_more parts old i c.index.result.now c.index.result.now within (c.requires ∙ sym (length-map c.args.rows.now.items (λ row. row.part))) part;
      nodes = c.set_part.ensures.nodes ∙ c.loop-i.invariant.nodes;
      count = same_count c.set_part.new.rows.items c.loop-i.rows.items c.set_part.ensures.nodes ∙ c.loop-i.invariant.count;
    }
