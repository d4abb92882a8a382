use Rattle.std.proofs.Common.{rules, ◌≡◌, [], flat_map, subst}
use Rattle.hwcap_dirs.specs.Places.{places}
use Rattle.seen_places.specs.Looked.{places_looked, texts_looked}
use Rattle.looked_tree.proofs.Loads.{ok_then}
use Rattle.looked_tree.specs.Looked.{Loads}
use Rattle.looked_places.proofs.SearchDirs.{all_places_looked}
use Rattle.looked_places.specs.Listed.{places_listed}
use Rattle.looked_places.specs.Plain.{plain_listed, plain_looked}
use Rattle.looked_places.proofs.dirs.see_places.Goals as goal

pub returns-clause-loads : goal.returns-clause-loads
returns-clause-loads g c =
    let scope = c.args.scope.now in
    let conf = c.args.conf.now in
    let a = g.F.Folder.state c.args.folder.now in
    let b = g.F.Folder.state c.see_texts.new.folder in
    let d = g.F.Folder.state c.see_builtin.new.folder in
    let e = g.F.Folder.state c.see_below.new.folder in
    let x = c.args.looked.now in
    let y = c.see_texts.new.looked in
    let z = c.see_builtin.new.looked in
    let w = c.see_below.new.looked in
    let all : c.as_slice-2.result.now ≡ places scope z.seen.part conf = search rules in
    ok_then c.see_below.result (Loads (λ t. flat_map (plain_looked t) c.as_slice-2.result.now) (λ t. flat_map (plain_listed t) c.as_slice-2.result.now) d e z w)
    (Loads (λ t. places_looked scope t conf) (λ t. places_listed scope t conf) a e x w)
    (λ last. all_places_looked scope conf a b d e x y z w
    (subst (λ xs. Loads (λ t. texts_looked t xs) (λ t. []) a b x y) c.as_slice.ensures c.in_ok-see_texts.ensures.loads) c.in_ok-see_builtin.ensures.loads
    (subst (λ ps. Loads (λ t. flat_map (plain_looked t) ps) (λ t. flat_map (plain_listed t) ps) d e z w) all last)) c.see_below.ensures.loads
