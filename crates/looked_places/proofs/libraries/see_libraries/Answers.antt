use Rattle.std.proofs.Common.{[], flat_map, subst}
use Rattle.looked_places.specs.Listed.{libraries_listed, libraries_looked, library_looked, ways_looked}
use Rattle.looked_tree.proofs.Loads.{both, ok_then}
use Rattle.looked_tree.specs.Looked.{Loads}
use Rattle.seen_tree.specs.Part.{dirs_at}
use Rattle.looked_places.proofs.libraries.see_libraries.Goals as goal

pub returns-clause-loads : goal.returns-clause-loads
unfolding libraries_looked libraries_listed
returns-clause-loads g c =
    let places = c.args.places.now in
    let a = g.F.Folder.state c.args.folder.now in
    let b = g.F.Folder.state c.see_ways.new.folder in
    let d = g.F.Folder.state c.see_dirs.new.folder in
    let x = c.args.looked.now in
    let y = c.see_ways.new.looked in
    let z = c.see_dirs.new.looked in
    ok_then c.see_dirs.result
    (Loads (λ t. flat_map (λ place. library_looked t place.real) c.as_slice-2.result.now) (λ t. flat_map (λ place. dirs_at t place.real) c.as_slice-2.result.now) b d y z)
    (Loads (λ t. libraries_looked t places) (λ t. libraries_listed t places) a d x z)
    (λ next. both (λ t. ways_looked t places) (λ t. flat_map (λ place. library_looked t place.real) places) (λ t. []) (λ t. flat_map (λ place. dirs_at t place.real) places)
    a b d x y z (subst (λ ps. Loads (λ t. ways_looked t ps) (λ t. []) a b x y) c.as_slice.ensures c.in_ok-see_ways.ensures.loads)
    (subst (λ ps. Loads (λ t. flat_map (λ place. library_looked t place.real) ps) (λ t. flat_map (λ place. dirs_at t place.real) ps) b d y z) c.as_slice-2.ensures next)) c.see_dirs.ensures.loads
