use Rattle.std.proofs.Common.{[], ◌∙◌, flat_map, List, ℕ, subst}
use Rattle.looked_tree.proofs.Loads.{ok_then}
use Rattle.looked_tree.specs.Looked.{Looked}
use Rattle.hwcap_dirs.specs.declared.kinds.Place.{Place}
use Rattle.looked_search.proofs.Added.{from_nothing}
use Rattle.looked_search.specs.Sonames.{AddsSonames, AddsTree, odd_paths, odd_sonames, paths_in}
use Rattle.looked_search.proofs.sonames.add_sonames.Goals as goal

pub returns-clause-adds : goal.returns-clause-adds
returns-clause-adds g c =
    let places = c.args.dirs.now.places in
    let a = g.F.Folder.state c.args.folder.now in
    let b = g.F.Folder.state c.add_each.new.folder in
    let y = c.add_each.new.looked in
    let old = c.args.tree.now in
    let new = c.add_each.new.tree in
    ok_then c.add_each.result (AddsSonames (flat_map (paths_in c.as_slice-places.result.now) c.deref.result.now) [] a b c.new-looked.result y old new) (AddsTree (odd_paths places c.args.table.now) a b old new)
    (λ adds. from_nothing (odd_paths places c.args.table.now) a b y old new (g.met.F.Folder.whole c.args.folder.now)
    (subst (λ (l : Looked). AddsSonames (odd_paths places c.args.table.now) [] a b l y old new) c.new-looked.ensures
    (subst (λ (ps : List Place). AddsSonames (flat_map (paths_in ps) (odd_sonames c.args.table.now)) [] a b c.new-looked.result y old new) c.as_slice-places.ensures
    (subst (λ (names : List (List ℕ)). AddsSonames (flat_map (paths_in c.as_slice-places.result.now) names) [] a b c.new-looked.result y old new) (c.deref.ensures.value ∙ c.in_ok-sonames.ensures) adds))))
    c.add_each.ensures.adds
