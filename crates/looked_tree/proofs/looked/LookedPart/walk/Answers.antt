use Rattle.std.proofs.Common.{subst}
use Rattle.std.specs.Option.{option_copied}
use Rattle.image_tree.specs.Paths.{components}
use Rattle.path_walk.specs.Rest.{names_in}
use Rattle.tree_face.specs.Known.{IfKnown}
use Rattle.looked_tree.proofs.Halts.{IsWalking, walk_halts, walk_on}
use Rattle.looked_tree.specs.Halts.{GoesOn}
use Rattle.looked_tree.specs.Looked.{IsLookedOf}
use Rattle.looked_tree.proofs.looked.LookedPart.walk.Goals as goal

pub returns-in-Halts-clause-loads : goal.returns-in-Halts-clause-loads
returns-in-Halts-clause-loads g c =
    let names = components c.args.text.now in
    let name = c.in-Some.name.now in
    let rest = names_in (option_copied c.in-Some.rest) in
    let place = c.loop-name.place in
    let a = g.F.Folder.state c.args.folder.now in
    let b = g.F.Folder.state c.loop-name.folder in
    (walk_halts c.args.mode names c.args.start name rest place a b (g.F.Folder.state c.go.new.folder) c.args.self.now c.loop-name.self c.go.new.self
    (subst (λ xs. IsWalking c.args.mode names c.args.start xs place a b c.args.self.now c.loop-name.self) c.in-Some.ensures.name c.loop-name.invariant)
    c.in_ok-next.ensures.loads c.in-Halts.halt
    (subst (λ s. IfKnown b.contents (λ k. IsLookedOf k.now c.loop-name.self → GoesOn k.now c.args.mode name rest place s)) c.in-Halts.is c.in_ok-next.ensures.goes)).0

pub loop-name-preserved : goal.loop-name-preserved
loop-name-preserved g c =
    let names = components c.args.text.now in
    let name = c.in-Some.name.now in
    let rest = names_in (option_copied c.in-Some.rest) in
    let place = c.loop-name.place in
    let a = g.F.Folder.state c.args.folder.now in
    let b = g.F.Folder.state c.loop-name.folder in
    walk_on c.args.mode names c.args.start name rest place a b (g.F.Folder.state c.go.new.folder) c.args.self.now c.loop-name.self c.go.new.self
    (subst (λ xs. IsWalking c.args.mode names c.args.start xs place a b c.args.self.now c.loop-name.self) c.in-Some.ensures.name c.loop-name.invariant)
    c.in_ok-next.ensures.loads c.in-To.next
    (subst (λ s. IfKnown b.contents (λ k. IsLookedOf k.now c.loop-name.self → GoesOn k.now c.args.mode name rest place s)) c.in-To.is c.in_ok-next.ensures.goes)
