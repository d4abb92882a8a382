use Rattle.std.proofs.Common.{◌≡◌, ◌≤◌, ◌∙◌, ◌++◌, ℕ, All, List, [], ap, arith, drop, length, true}
use Rattle.std.proofs.lemmas.List.{drop_all}
use Rattle.image_tree.specs.Tree.{IsTree, Nodes}
use Rattle.image_tree.specs.declared.path.TheConstants.{PATH_MAX}
use Rattle.hwcap_dirs.proofs.Firsts.{from_none}
use Rattle.hwcap_dirs.proofs.Reals.{places_are_dirs}
use Rattle.hwcap_dirs.proofs.Spelled.{places_are_spelled}
use Rattle.hwcap_dirs.specs.Gathering.{all_places}
use Rattle.hwcap_dirs.specs.Places.{are_dirs, are_spelled, builtin_dirs, places}
use Rattle.hwcap_dirs.specs.declared.kinds.Place.{Place}
use Rattle.hwcap_dirs.specs.declared.kinds.Scope.{Scope}
use Rattle.hwcap_dirs.proofs.listing.order.Goals as goal

module _ (scope : Scope) (t : Nodes) (conf met : List (List ℕ)) (before found : List Place) (i : ℕ) (ends : length conf ≤ i) (builtin : found ≡ all_places t met before (builtin_dirs scope))
    (rest : all_places t met before (drop i conf ++ builtin_dirs scope) ≡ all_places t [] [] (conf ++ builtin_dirs scope)) where
  whole : found ≡ places scope t conf
  unfolding places
  whole = let none : drop i conf ≡ [] = drop_all i conf ends in builtin ∙ (rw none at rest) ∙ from_none t (conf ++ builtin_dirs scope)

  real : are_dirs t found ≡ true
  real = ap (are_dirs t) whole ∙ places_are_dirs scope t conf

  spelled : IsTree t → All (λ dir. length dir ≤ PATH_MAX) conf → are_spelled found ≡ true
  spelled tree short = ap are_spelled whole ∙ places_are_spelled scope t tree.entries conf short

pub returns-clause-places : goal.returns-clause-places
returns-clause-places c =
    let as_many : length c.as_slice-dir-items.result.now ≡ length c.args.conf.now = ap length c.as_slice-dir-items.ensures in
    whole c.args.scope.now c.args.tree.now c.args.conf.now c.loop-dir.gathering.met c.loop-dir.gathering.places _ c.loop-dir.dir-index (omega (arith, as_many, c.loop-dir-test.false))
    c.in_ok-add_builtin.ensures c.loop-dir.invariant.places

pub returns-clause-real : goal.returns-clause-real
returns-clause-real c =
    let as_many : length c.as_slice-dir-items.result.now ≡ length c.args.conf.now = ap length c.as_slice-dir-items.ensures in
    real c.args.scope.now c.args.tree.now c.args.conf.now c.loop-dir.gathering.met c.loop-dir.gathering.places _ c.loop-dir.dir-index (omega (arith, as_many, c.loop-dir-test.false))
    c.in_ok-add_builtin.ensures c.loop-dir.invariant.places

pub returns-clause-spelled : goal.returns-clause-spelled
returns-clause-spelled c =
    let as_many : length c.as_slice-dir-items.result.now ≡ length c.args.conf.now = ap length c.as_slice-dir-items.ensures in
    spelled c.args.scope.now c.args.tree.now c.args.conf.now c.loop-dir.gathering.met c.loop-dir.gathering.places _ c.loop-dir.dir-index (omega (arith, as_many, c.loop-dir-test.false))
    c.in_ok-add_builtin.ensures c.loop-dir.invariant.places c.know.ensures
