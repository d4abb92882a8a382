use Rattle.std.proofs.Common.{◌≡◌, ◌∷◌, ◌++◌, [], true, ap, sym, ◌∙◌, rules}
use Rattle.place_libraries.proofs.Gathered.{last_has}
use Rattle.place_libraries.specs.Sonames.{is_last}
use Rattle.place_libraries.proofs.sonames.take_last.Goals as goal

pub returns : goal.returns
returns g c =
    let same : is_last c.args.soname.now c.args.found.now.items ≡ true = search rules in
    last_has c.args.soname.now c.args.found.now.items c.pop.new.self.items c.in_ok-last.last c.in_ok-last.ensures.items same
    ∙ ap (λ last. c.pop.new.self.items ++ (c.args.soname.now, last) ∷ []) (sym c.into_item.ensures)
