use Rattle.std.proofs.Common.{refl}
use Rattle.std.proofs.lemmas.List.{map-set}
use Rattle.image_tree.proofs.OneText.{set_alike}
use Rattle.image_tree.proofs.tree.run.set_part.Goals as goal

pub returns-clause-parts : goal.returns-clause-parts
returns-clause-parts c = map-set (λ row. row.part) c.args.rows.now.items c.args.index _

pub returns-clause-nodes : goal.returns-clause-nodes
returns-clause-nodes c = set_alike (λ row. row.node) c.args.rows.now.items c.args.index _ c.index_mut.result.now c.index_mut.ensures.value refl
