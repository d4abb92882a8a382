use Rattle.std.proofs.Common.{◌≡◌, ◌∷◌, ◌++◌, [], map, ap, ◌∙◌, rules}
use Rattle.image_tree.proofs.OneText.{pushed}
use Rattle.lib_types.specs.Part.{part_of}
use Rattle.image_tree.proofs.tree.paths.Paths.push.Goals as goal

pub returns : goal.returns
returns c =
    let was : map (part_of c.self.inside.text.items) c.self.inside.parts.items ≡ c.args.self.now = search rules in
    ap (map (part_of c.add.new.text.items)) c.in_ok-push.ensures.items
    ∙ pushed c.self.inside.text.items c.add.new.text.items c.in_ok-part.ensures.longer c.self.inside.parts.items c.self.invariant c.in_ok-part.part c.args.path.now c.in_ok-part.ensures.part
    ∙ ap (λ paths. paths ++ c.args.path.now ∷ []) was
