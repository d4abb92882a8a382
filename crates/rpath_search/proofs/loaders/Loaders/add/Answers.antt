use Rattle.std.proofs.Common.{◌≡◌, ◌<◌, ◌∷◌, ◌++◌, [], length, sym, ap, subst, ◌∙◌, rules}
use Rattle.rpath_search.specs.declared.loaders.Link.{Link}
use Rattle.rpath_search.specs.Loaders.{AreLinked, reach_at, reach_over, reaches_of}
use Rattle.rpath_search.proofs.Loading.{added, linked_on}
use Rattle.rpath_search.proofs.loaders.Loaders.add.Goals as goal

pub invariant_of-self-2 : goal.invariant_of-self-2
invariant_of-self-2 c =
    let library = c.self.inside.library in
    let links = c.self.inside.links.items in
    let l : Link = record { dirs = c.in_ok-dirs.dirs; above = c.nearest-above.result } in
    let pushed : c.push.new.self.items ≡ links ++ l ∷ [] = search rules in
    subst (AreLinked library) (sym pushed) (linked_on library links l c.self.invariant (c.nearest-above.ensures.within library c.self.invariant))

pub returns : goal.returns
returns c =
    let library = c.self.inside.library in
    let links = c.self.inside.links.items in
    let l : Link = record { dirs = c.in_ok-dirs.dirs; above = c.nearest-above.result } in
    let pushed : c.push.new.self.items ≡ links ++ l ∷ [] = search rules in
    let view : c.args.self.now ≡ reaches_of library links = search rules in
    let there : c.args.loader < length (reaches_of library links) = rw view at c.requires in
    ap (reaches_of library) pushed
    ∙ added library links l c.self.invariant (c.nearest-above.ensures.within library c.self.invariant) c.args.env.now c.args.owner.now c.args.loader there c.in_ok-dirs.ensures
    (c.nearest-above.ensures.same library c.self.invariant)
    ∙ sym (ap (λ rs. rs ++ reach_over c.args.env.now c.args.owner.now (reach_at rs c.args.loader) ∷ []) view)
