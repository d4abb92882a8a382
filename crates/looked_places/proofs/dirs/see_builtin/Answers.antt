use Rattle.std.proofs.Common.{drop, subst}
use Rattle.hwcap_dirs.specs.Places.{builtin_dirs}
use Rattle.path_walk.specs.declared.walk.Mode.TheVariants.{Plain}
use Rattle.seen_places.specs.Looked.{texts_looked}
use Rattle.seen_tree.specs.Part.{looked_by}
use Rattle.looked_tree.proofs.Loads.{LeftPaths, path_on}
use Rattle.looked_places.proofs.dirs.see_builtin.Goals as goal

pub loop-dir-preserved : goal.loop-dir-preserved
loop-dir-preserved g c =
    let dirs = builtin_dirs c.args.scope.now in
    let a = g.F.Folder.state c.args.folder.now in
    let b = g.F.Folder.state c.loop-dir.folder in
    path_on (λ t text. looked_by t text Plain) (λ t. texts_looked t dirs) a b c.args.looked.now c.loop-dir.looked c.in-Some.dir.now (drop c.in-Some.next dirs)
    (g.F.Folder.state c.see_text.new.folder) c.see_text.new.self
    (subst (LeftPaths (λ t text. looked_by t text Plain) (λ t. texts_looked t dirs) a b c.args.looked.now c.loop-dir.looked) c.in-Some.ensures c.loop-dir.invariant)
    c.in_ok-see_text.ensures.loads
