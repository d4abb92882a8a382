use Rattle.std.proofs.Common.{◌∙◌, ap, option_map, arith}
use Rattle.std.proofs.lemmas.Bool.Decides.{nat_tests}
use Rattle.std.proofs.lemmas.Grind.{common_steps}
use Rattle.cache_reader.specs.Views.{entry_of}
use Rattle.cache_lookup.proofs.Positions.{named_use, other_use}
use Rattle.cache_lookup.proofs.counted.use_of.Goals as goal

pub returns-in-Some : goal.returns-in-Some
returns-in-Some c =
    c.cap_index.ensures
    ∙ named_use (entry_of c.args.entry.now) c.in-Some.cap.now c.requires (ap (option_map (λ t. t.now)) c.in-Some.is) c.args.caps.now

pub returns-in-None : goal.returns-in-None
returns-in-None c =
    let all = other_use (entry_of c.args.entry.now) c.requires (ap (option_map (λ t. t.now)) c.in-None.is) c.args.caps.now in
    grind (arith, common_steps, nat_tests, all, c.len.ensures, c.if-entry-eq0.true)

pub returns-in-None-2 : goal.returns-in-None-2
returns-in-None-2 c =
    let all = other_use (entry_of c.args.entry.now) c.requires (ap (option_map (λ t. t.now)) c.in-None-2.is) c.args.caps.now in
    grind (arith, common_steps, nat_tests, all, c.if-entry-eq0.false)
