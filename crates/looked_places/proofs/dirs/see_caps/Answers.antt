use Rattle.std.proofs.Common.{rules, ◌≡◌, [], List, ℕ, None, Some, filter, flat_map, subst}
use Rattle.hwcap_dirs.specs.Places.{dir_at}
use Rattle.image_tree.specs.Paths.{join}
use Rattle.image_tree.specs.Tree.{children_of}
use Rattle.path_walk.specs.declared.walk.Mode.TheVariants.{Plain}
use Rattle.seen_places.specs.Looked.{hwcaps_looked, is_shown}
use Rattle.seen_tree.specs.Part.{dirs_at, listed, looked_by}
use Rattle.tree_face.specs.Known.{IfKnown}
use Rattle.looked_tree.proofs.Loads.{ok_then}
use Rattle.looked_tree.specs.Looked.{IsLookedOf, Loads}
use Rattle.looked_places.proofs.SearchDirs.{caps_none, caps_some}
use Rattle.looked_places.specs.Listed.{caps_listed}
use Rattle.looked_places.proofs.dirs.see_caps.Goals as goal

pub returns-in_default-clause-loads : goal.returns-in_default-clause-loads
returns-in_default-clause-loads g c =
    let none : dir_at c.see_text.new.self.seen.part c.args.below.now ≡ None = search rules in
    caps_none c.args.below.now (g.F.Folder.state c.args.folder.now) (g.F.Folder.state c.see_text.new.folder) c.args.looked.now c.see_text.new.self c.in_ok-see_text.ensures.loads none

pub returns-clause-loads : goal.returns-clause-loads
returns-clause-loads g c =
    let below = c.args.below.now in
    let dir = c.in-Some.dir in
    let names = c.in_ok-names.names in
    let a = g.F.Folder.state c.args.folder.now in
    let b = g.F.Folder.state c.see_text.new.folder in
    let d = g.F.Folder.state c.list.new.folder in
    let e = g.F.Folder.state c.see_names.new.folder in
    let x = c.args.looked.now in
    let y = c.see_text.new.self in
    let z = c.list.new.self in
    let w = c.see_names.new.looked in
    let some : dir_at y.seen.part below ≡ Some dir = search rules in
    ok_then c.see_names.result (Loads (λ t. flat_map (λ name. looked_by t (join below name) Plain) c.as_slice.result.now) (λ t. []) d e z w)
    (Loads (λ t. hwcaps_looked t below) (λ t. caps_listed t (dir_at t below)) a e x w)
    (λ last. caps_some below a b x y c.in_ok-see_text.ensures.loads dir some d e z w names
    (subst (λ (q : List ℕ). Loads (λ t. listed is_shown t q) (λ t. dirs_at t q) b d y z) c.as_bytes.ensures c.in_ok-names.ensures.loads)
    (subst (λ (q : List ℕ). IfKnown b.contents (λ k. IsLookedOf k.now y → names ≡ filter is_shown (children_of k.now q))) c.as_bytes.ensures c.in_ok-names.ensures.names)
    (subst (λ xs. Loads (λ t. flat_map (λ name. looked_by t (join below name) Plain) xs) (λ t. []) d e z w) c.as_slice.ensures last)) c.see_names.ensures.loads
