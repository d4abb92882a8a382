use Rattle.std.proofs.Common.{◌≡◌, ◌<◌, ◌+◌, ◌++◌, ℕ, List, [], ◌∷◌, get_or, length, take, ap, sym, subst, ◌∙◌}
use Rattle.hwcap_dirs.specs.declared.kinds.Place.{Place}
use Rattle.library_files.proofs.FolderRows.{place_more, reals, row_more}
use Rattle.library_files.specs.RealFolders.{HaveRows}
use Rattle.library_files.proofs.reals.real_folders.Goals as goal

pub loop-place-preserved : goal.loop-place-preserved
loop-place-preserved c =
    let i = c.loop-place.place-index in
    let places = c.args.dirs.now.places in
    let before = reals (take i places) in
    let path = c.as_bytes.result.now in
    let more = row_more before c.loop-place.met.keys c.row_of.new.met.keys c.loop-place.rows path c.in_ok-row_of.field-0 c.loop-place.invariant c.in_ok-row_of.ensures in
    let rows : c.push.new.self ≡ c.loop-place.rows ++ c.in_ok-row_of.field-0 ∷ [] = c.in_ok-push.ensures.done in
    let items : c.as_slice-place-items.result.now ≡ places = c.as_slice-place-items.ensures in
    let there = subst (λ (ps : List Place). i < length ps) items c.loop-place-test.true in
    let is = subst (λ (ps : List Place). c.place-item.result ≡ get_or ps i c.place-item.result) items c.place-item.is in
    let step : reals (take (i + 1) places) ≡ before ++ path ∷ [] =
    place_more places i c.place-item.result there is ∙ ap (λ (p : List ℕ). before ++ p ∷ []) (sym c.as_bytes.ensures) in
    subst (λ (paths : List (List ℕ)). HaveRows paths c.row_of.new.met.keys c.push.new.self) (sym step)
    (subst (λ (ns : List ℕ). HaveRows (before ++ path ∷ []) c.row_of.new.met.keys ns) (sym rows) more)
