use Rattle.std.proofs.Common.{[], flat_map, subst}
use Rattle.seen_tree.specs.Part.{dirs_at}
use Rattle.looked_tree.proofs.Loads.{ok_then}
use Rattle.looked_tree.specs.Looked.{Loads}
use Rattle.looked_places.proofs.LibraryNames.{library_both}
use Rattle.looked_places.specs.Listed.{library_looked, named_looked}
use Rattle.looked_places.proofs.libraries.see_dir.Goals as goal

pub returns-clause-loads : goal.returns-clause-loads
returns-clause-loads g c =
    let dir = c.args.dir.now in
    let a = g.F.Folder.state c.args.folder.now in
    let b = g.F.Folder.state c.list.new.folder in
    let d = g.F.Folder.state c.see_each.new.folder in
    let x = c.args.looked.now in
    let y = c.list.new.self in
    let z = c.see_each.new.looked in
    ok_then c.see_each.result (Loads (λ t. flat_map (named_looked t dir) c.as_slice.result.now) (λ t. []) b d y z) (Loads (λ t. library_looked t dir) (λ t. dirs_at t dir) a d x z)
    (λ next. library_both dir c.in_ok-names.names a b d x y z c.in_ok-names.ensures.loads c.in_ok-names.ensures.names
    (subst (λ xs. Loads (λ t. flat_map (named_looked t dir) xs) (λ t. []) b d y z) c.as_slice.ensures next)) c.see_each.ensures.loads
