use Rattle.std.proofs.Common.{◌≡◌, ◌∷◌, [], flat_map, subst}
use Rattle.conf_patterns.specs.Patterns.{base_of, components_of, go_on}
use Rattle.conf_views.specs.Patterns.{choices_listed, choices_looked}
use Rattle.tree_face.specs.Known.{IfKnown}
use Rattle.looked_tree.specs.Looked.{IsLookedOf, Loads}
use Rattle.looked_conf.proofs.Texts.{IsExpanding, expanding_on}
use Rattle.looked_conf.proofs.patterns.see_texts.Goals as goal

pub loop-component-preserved : goal.loop-component-preserved
loop-component-preserved g c =
    let start = base_of c.args.file.now c.args.pattern.now ∷ [] in
    let components = components_of c.args.pattern.now in
    let component = c.in-Some.component.now in
    let texts = c.loop-component.texts.items in
    let a = g.F.Folder.state c.args.folder.now in
    let b = g.F.Folder.state c.loop-component.folder in
    let d = g.F.Folder.state c.see_extended.new.folder in
    let x = c.args.looked.now in
    let y = c.loop-component.looked in
    let z = c.see_extended.new.looked in
    let new = c.in_ok-texts-2.texts.items in
    expanding_on start components a b x y component c.next.new.self texts new d z
    (subst (λ xs. IsExpanding start components texts xs a b x y) c.in-Some.ensures.steps c.loop-component.invariant)
    (subst (λ xs. Loads (λ t. flat_map (choices_looked t component) xs) (λ t. flat_map (choices_listed t component) xs) b d y z) c.deref.ensures.value c.in_ok-texts-2.ensures.loads)
    (subst (λ xs. IfKnown b.contents (λ k. IsLookedOf k.now y → new ≡ flat_map (go_on k.now component) xs)) c.deref.ensures.value c.in_ok-texts-2.ensures.texts)
