use Rattle.std.proofs.Common.{◌≡◌, ◌<◌, ◌∙◌, [], length, get_or, rules}
use Rattle.std.proofs.lemmas.List.{get_or_default}
use Rattle.ldd_resolve.proofs.MatchesKept.{among_more}
use Rattle.ldd_resolve.proofs.names.add_names.Goals as goal

pub loop-name-preserved : goal.loop-name-preserved
loop-name-preserved c =
    let names = c.args.names.now in
    let i = c.loop-name.name-index in
    let within : i < length names = search rules in
    let here : get_or names i c.in_ok-copy_of.field-0 ≡ c.in_ok-copy_of.field-0 = search rules in
    let is : get_or names i [] ≡ c.in_ok-copy_of.field-0 = get_or_default names i [] c.in_ok-copy_of.field-0 within ∙ here in
    λ x. among_more c.loop-name.all c.insert.new.self names c.in_ok-copy_of.field-0 i x within is c.in_ok-insert.ensures.done ∙ c.loop-name.invariant x
