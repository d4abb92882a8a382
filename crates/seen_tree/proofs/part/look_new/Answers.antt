use Rattle.std.proofs.Common.{◌≡◌, ℕ, List, subst}
use Rattle.std.specs.Str.{bytes_eq}
use Rattle.indexmap.specs.IndexSet.{insert_key}
use Rattle.seen_tree.proofs.Looked.{path_seen}
use Rattle.seen_tree.proofs.part.look_new.Goals as goal

pub returns-in_ok-add-in-Ok-clause-seen : goal.returns-in_ok-add-in-Ok-clause-seen
returns-in_ok-add-in-Ok-clause-seen g c =
    path_seen (g.F.Folder.state c.args.folder.now).contents c.args.tree.now c.add.new.tree c.args.looked.now.keys c.add.new.looked.keys c.args.path.now c.in-Ok.found
    c.in-Ok.ensures.node.node c.requires.path c.in_ok-add-in-Ok.ensures.node
    (subst (λ (q : List ℕ). c.add.new.looked.keys ≡ insert_key bytes_eq c.args.looked.now.keys q) c.in_ok-text.ensures c.in_ok-add-in-Ok.ensures.added)
