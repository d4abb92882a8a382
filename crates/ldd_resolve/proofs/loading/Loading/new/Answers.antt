use Rattle.std.proofs.Common.{◌≡◌, ◌+◌, ◌∷◌, ◌∙◌, [], length, ap, arith, rules}
use Rattle.std.proofs.lemmas.List.{length-append}
use Rattle.ldd_resolve.specs.Requests.{outsider_of}
use Rattle.ldd_resolve.proofs.Started.{first_sound}
use Rattle.ldd_resolve.proofs.loading.Loading.new.Goals as goal

pub returns-clause-sound : goal.returns-clause-sound
returns-clause-sound c =
    let s = c.add_member.new.self in
    let alone : s.places.loaded ≡ c.args.program.real ∷ [] = search rules in
    let outsider : s.places.outsider ≡ outsider_of c.args.program = search rules in
    let before : length c.empty-loading.result.members.items ≡ 0 = ap length c.empty-loading.ensures.members in
    let one : length s.members.items ≡ length c.empty-loading.result.members.items + 1 = ap length c.in_ok-add_member.ensures.members ∙ length-append c.empty-loading.result.members.items _ in
    let member : length s.members.items ≡ 1 = omega (arith, before, one) in
    first_sound c.args.program s alone member outsider
