use Rattle.std.proofs.Common.{rules, ◌≡◌, ◌∷◌, []}
use Rattle.std.proofs.lemmas.List.{nil_from_length}
use Rattle.std.proofs.lemmas.Option.{MatchOption-at_none}
use Rattle.file_trails.proofs.Steps.{pass_all, pass_file, pass_link, pass_nowhere, pass_on}
use Rattle.file_trails.proofs.trail.pass.Goals as goal

pub returns-in-Link : goal.returns-in-Link
returns-in-Link c =
    let split : c.loop-name.rest.now ≡ c.in-Some.name.now ∷ c.in-Some.more.now = search rules in
    pass_link c.args.tree.now c.in-Some.name.now c.as_bytes-in-Some.result.now c.in-Some.more.now c.loop-name.place c.as_bytes.result.now c.loop-name.rest.now c.args.names.now c.args.start c.args.met.now c.loop-name.met c.push.new.self c.in_ok-next.field-0
    split (search rules) (search rules) c.loop-name.invariant.same c.loop-name.invariant.met c.loop-name.invariant.steps c.in_ok-next.ensures
    c.in-Link.path c.in_ok-onward-in-Link.onward c.in-Link.is c.in_ok-push-in-Link.ensures.done (search rules) (search rules)

pub returns-in-File : goal.returns-in-File
returns-in-File c =
    let split : c.loop-name.rest.now ≡ c.in-Some.name.now ∷ c.in-Some.more.now = search rules in
    pass_file c.args.tree.now c.in-Some.name.now c.as_bytes-in-Some.result.now c.in-Some.more.now c.loop-name.place c.as_bytes.result.now c.loop-name.rest.now c.args.names.now c.args.start c.args.met.now c.loop-name.met c.push-in-File.new.self c.in_ok-next.field-0
    split (search rules) (search rules) c.loop-name.invariant.same c.loop-name.invariant.met c.loop-name.invariant.steps c.in_ok-next.ensures
    c.in-File.path c.in-File.is c.in_ok-push-in-File.ensures.done

pub returns-in-Nowhere : goal.returns-in-Nowhere
returns-in-Nowhere c =
    let split : c.loop-name.rest.now ≡ c.in-Some.name.now ∷ c.in-Some.more.now = search rules in
    pass_nowhere c.args.tree.now c.in-Some.name.now c.as_bytes-in-Some.result.now c.in-Some.more.now c.loop-name.place c.as_bytes.result.now c.loop-name.rest.now c.args.names.now c.args.start c.args.met.now c.loop-name.met [] c.in_ok-next.field-0
    split (search rules) (search rules) c.loop-name.invariant.same c.loop-name.invariant.met c.loop-name.invariant.steps c.in_ok-next.ensures c.in-Nowhere.is

pub loop-name-preserved : goal.loop-name-preserved
loop-name-preserved c =
    let split : c.loop-name.rest.now ≡ c.in-Some.name.now ∷ c.in-Some.more.now = search rules in
    let on = pass_on c.args.tree.now c.in-Some.name.now c.as_bytes-in-Some.result.now c.in-Some.more.now c.loop-name.place c.as_bytes.result.now c.loop-name.rest.now c.args.names.now c.args.start c.args.met.now c.loop-name.met [] c.in_ok-next.field-0
    split (search rules) (search rules) c.loop-name.invariant.same c.loop-name.invariant.met c.loop-name.invariant.steps c.in_ok-next.ensures c.in-To.next c.in-To.is in
    record { same = c.loop-name.invariant.same; met = on.0; steps = on.1 }

pub returns : goal.returns
returns c = pass_all c.args.tree.now c.loop-name.place c.loop-name.rest.now c.args.names.now c.args.start c.args.met.now c.loop-name.met
    (nil_from_length c.loop-name.rest.now (MatchOption-at_none _ _ c.in_default.is c.split_first.ensures.cases)) c.loop-name.invariant.same c.loop-name.invariant.met c.loop-name.invariant.steps
