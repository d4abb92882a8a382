use Rattle.std.proofs.Common.{rules, ◌≡◌, [], ◌∷◌, codes, false, subst}
use Rattle.std.specs.Option.{option_copied}
use Rattle.std.specs.Str.{bytes_eq}
use Rattle.image_tree.specs.Paths.{join}
use Rattle.path_walk.specs.Rest.{names_in}
use Rattle.looked_tree.proofs.Halts.{step_looked}
use Rattle.looked_tree.specs.Halts.{IsStep}
use Rattle.looked_tree.specs.Looked.{Loads}
use Rattle.looked_tree.proofs.looked.LookedPart.go.Goals as goal

pub returns-clause-goes : goal.returns-clause-goes
returns-clause-goes g c =
    let name = c.args.name.now in
    let place = c.args.place in
    let a = g.F.Folder.state c.args.folder.now in
    let b = g.F.Folder.state c.see.new.folder in
    let rest = names_in (option_copied c.args.rest) in
    let down : bytes_eq name (codes "..") ≡ false = search rules in
    let path : c.as_bytes-3.result.now ≡ join place name = search rules in
    let step : IsStep c.see.new.self.seen.part c.args.mode name rest place c.in_ok-next_step.field-0 = search rules in
    (step_looked c.args.mode name rest place c.in_ok-next_step.field-0 a b c.args.self.now c.see.new.self down
    (subst (λ q. Loads (λ t. q ∷ []) (λ t. []) a b c.args.self.now c.see.new.self) path c.in_ok-see.ensures.loads) step).1
