use Rattle.std.proofs.Common.{◌-◌, ◌+◌, ◌≤◌, refl, sym, ap, subst, ◌∙◌, arith}
use Rattle.image_tree.proofs.Runs.{joined_divided, runs_halved, room_in_front, room_in_back, start_back}
use Rattle.image_tree.specs.declared.tree.runs.Place.{Place}
use Rattle.image_tree.specs.Runs.{HasRoomAt, joined, are_runs, start_of}
use Rattle.image_tree.proofs.tree.runs.divide_at.Goals as goal

pub returns-then-place-le-MIDDLE-clause-same : goal.returns-then-place-le-MIDDLE-clause-same
returns-then-place-le-MIDDLE-clause-same c = ap joined c.in_ok-divide.ensures.done ∙ joined_divided c.args.runs.now.items c.args.place.run 32 c.requires.run _ refl

pub returns-then-place-le-MIDDLE-clause-runs : goal.returns-then-place-le-MIDDLE-clause-runs
returns-then-place-le-MIDDLE-clause-runs c = ap are_runs c.in_ok-divide.ensures.done ∙ runs_halved c.args.runs.now.items c.args.place.run _ refl c.requires.run c.requires.runs c.requires.full

pub returns-then-place-le-MIDDLE-clause-place : goal.returns-then-place-le-MIDDLE-clause-place
returns-then-place-le-MIDDLE-clause-place c =
    subst (λ rs. HasRoomAt rs c.args.place) (sym c.in_ok-divide.ensures.done)
    (room_in_front c.args.runs.now.items c.args.place.run _ refl c.requires.run c.requires.runs c.requires.full c.args.place refl (omega arith))

pub returns-clause-same : goal.returns-clause-same
returns-clause-same c = ap joined c.in_ok-divide.ensures.done ∙ joined_divided c.args.runs.now.items c.args.place.run 32 c.requires.run _ refl

pub returns-clause-runs : goal.returns-clause-runs
returns-clause-runs c = ap are_runs c.in_ok-divide.ensures.done ∙ runs_halved c.args.runs.now.items c.args.place.run _ refl c.requires.run c.requires.runs c.requires.full

pub returns-clause-place : goal.returns-clause-place
returns-clause-place c =
    let at : c.args.place.at - 32 ≤ 32 = omega (arith, c.requires.at, c.requires.full) in
    let there : Place = record { run = c.args.place.run + 1; at = c.args.place.at - 32 } in
    subst (λ rs. HasRoomAt rs there) (sym c.in_ok-divide.ensures.done)
    (room_in_back c.args.runs.now.items c.args.place.run _ refl c.requires.run c.requires.runs c.requires.full there refl at)

pub returns-clause-index : goal.returns-clause-index
returns-clause-index c =
    let s = ap (λ rs. start_of rs (c.args.place.run + 1)) c.in_ok-divide.ensures.done ∙ start_back c.args.runs.now.items c.args.place.run _ refl c.requires.run c.requires.runs c.requires.full in
    omega arith
