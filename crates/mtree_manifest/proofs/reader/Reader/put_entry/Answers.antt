use Rattle.std.proofs.Common.{◌≡◌, ◌∙◌, ap, sym, subst, true, Some}
use Rattle.image_tree.specs.Paths.{is_path}
use Rattle.mtree_manifest.specs.Manifest.{node_of}
use Rattle.manifest_words.specs.Paths.{place}
use Rattle.manifest_words.specs.Views.{values_in, given_in}
use Rattle.mtree_manifest.proofs.Goods.{good_path, good_node}
use Rattle.mtree_manifest.proofs.reader.Reader.put_entry.Goals as goal

pub put_node-requires-clause-path : goal.put_node-requires-clause-path
put_node-requires-clause-path c =
    let made : node_of (values_in c.args.line.now.given.keys) (place c.args.self.now.dirs c.args.first.now) ≡ Some c.in-Some.node =
    sym (ap (node_of (values_in c.args.line.now.given.keys)) (c.as_slice.ensures.value ∙ c.requires.path)) ∙ sym c.in_ok-node.ensures ∙ c.in-Some.is in
    let at : c.as_slice-in-Some.result.now ≡ place c.args.self.now.dirs c.args.first.now = c.as_slice-in-Some.ensures.value ∙ c.requires.path in
    subst (λ p. is_path p ≡ true) (sym at)
    (good_path c.args.self.now.dirs c.args.first.now (given_in c.args.line.now.given) c.in-Some.node c.requires.faultless made)

pub put_node-requires-clause-node : goal.put_node-requires-clause-node
put_node-requires-clause-node c =
    let made : node_of (values_in c.args.line.now.given.keys) (place c.args.self.now.dirs c.args.first.now) ≡ Some c.in-Some.node =
    sym (ap (node_of (values_in c.args.line.now.given.keys)) (c.as_slice.ensures.value ∙ c.requires.path)) ∙ sym c.in_ok-node.ensures ∙ c.in-Some.is in
    good_node c.args.self.now.dirs c.args.first.now (given_in c.args.line.now.given) c.in-Some.node c.requires.faultless c.requires.good made
