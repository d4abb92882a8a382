use Rattle.std.proofs.Common.{rules, ◌≡◌, List, ℕ, true, false, ap, subst, ◌∙◌}
use Rattle.std.specs.Option.{is_none}
use Rattle.hwcap_dirs.specs.Places.{dir_at, hwcaps}
use Rattle.image_tree.specs.Paths.{join}
use Rattle.seen_places.specs.Looked.{hwcaps_looked}
use Rattle.looked_tree.proofs.Loads.{ok_then}
use Rattle.looked_tree.specs.Looked.{Loads}
use Rattle.looked_places.proofs.SearchDirs.{other_place, plain_place}
use Rattle.looked_places.specs.Listed.{caps_listed}
use Rattle.looked_places.specs.Plain.{plain_listed, plain_looked}
use Rattle.looked_places.proofs.dirs.see_place.Goals as goal

pub returns-then-is_some-clause-loads : goal.returns-then-is_some-clause-loads
returns-then-is_some-clause-loads g c =
    let other : is_none c.args.place.now.cap ≡ false = search rules in
    other_place c.args.place.now (g.F.Folder.state c.args.folder.now) c.args.looked.now other

pub returns-clause-loads : goal.returns-clause-loads
returns-clause-loads g c =
    let place = c.args.place.now in
    let a = g.F.Folder.state c.args.folder.now in
    let b = g.F.Folder.state c.see_caps.new.folder in
    let x = c.args.looked.now in
    let y = c.see_caps.new.looked in
    let plain : is_none place.cap ≡ true = search rules in
    let below : c.as_bytes-2.result.now ≡ join place.spelled hwcaps = c.as_bytes-2.ensures ∙ c.in_ok-below.ensures ∙ ap (λ s. join s hwcaps) c.as_bytes.ensures in
    ok_then c.see_caps.result (Loads (λ t. hwcaps_looked t c.as_bytes-2.result.now) (λ t. caps_listed t (dir_at t c.as_bytes-2.result.now)) a b x y)
    (Loads (λ t. plain_looked t place) (λ t. plain_listed t place) a b x y)
    (λ loads. plain_place place a b x y plain (subst (λ (q : List ℕ). Loads (λ t. hwcaps_looked t q) (λ t. caps_listed t (dir_at t q)) a b x y) below loads)) c.see_caps.ensures.loads
