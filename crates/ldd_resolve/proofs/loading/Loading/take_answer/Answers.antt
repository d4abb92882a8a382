use Rattle.std.proofs.Common.{◌≡◌, ◌≤◌, ◌∙◌, ◌++◌, ◌∷◌, false, [], suc, length, Some, None, ap, arith, rules}
use Rattle.std.proofs.lemmas.List.{length-append, length-set}
use Rattle.rpath_search.specs.Searching.{is_among}
use Rattle.ldd_resolve.specs.Loading.{HasOutcome, IsSoundAnswer}
use Rattle.ldd_resolve.specs.declared.kinds.Reply.TheVariants.{Known, Loads, Missing}
use Rattle.ldd_resolve.specs.declared.loading.Loading.{Loading}
use Rattle.rpath_search.specs.declared.search.Answer.TheVariants as answer
use Rattle.ldd_resolve.proofs.Answered.{found_matches, loaded_matches, missing_matches}
use Rattle.ldd_resolve.proofs.Sound.{sound_more, sound_same}
use Rattle.ldd_resolve.proofs.MatchesKept.{on_ok, same_count}
use Rattle.ldd_resolve.proofs.loading.Loading.take_answer.Goals as goal

pub returns-in-Some-Loaded : goal.returns-in-Some-Loaded
returns-in-Some-Loaded c =
    let s = c.args.self.now in
    let kept : c.add_reply.new.self ≡ record s { replies = s.replies ++ Known ∷ [] } = search rules in
    let added = rw kept at c.add_name.ensures in
    record {
      matching = on_ok c.add_name.result (λ adds r r2 q rest matching outcome next name chain.
          loaded_matches c.args.env.now r r2 s c.add_name.new.self (suc c.args.loader) q rest matching next c.in-Some-Loaded.number c.in-Some-Loaded.path
          (rw (c.in-Some-Loaded.is, c.in-Some-Loaded.field-0-is) at outcome) c.requires.distinct (rw name c.requires.unknown) (rw name adds)) added;
      sound = λ known t abi sound good. on_ok c.add_name.result (λ adds. sound_same known t abi s c.add_name.new.self sound adds.places
          (ap length (adds.members (record { path = []; real = []; names = []; needed = [] })) ∙ length-set s.members.items c.in-Some-Loaded.number _)) added;
      grows = on_ok c.add_name.result (λ adds. record { more = 0; loaders = rw adds.loaders (omega arith); places = rw adds.places (omega arith); pending = rw adds.pending (omega arith) }) added;
    }

pub returns-in-Some-New : goal.returns-in-Some-New
returns-in-Some-New c =
    let s = c.args.self.now in
    let f = c.in-Some-New.found in
    let kept : c.add_reply.new.self ≡ record s { replies = s.replies ++ Loads (length s.members.items) c.args.searched.part ∷ [] } = search rules in
    let added = rw kept at c.add_found.ensures in
    record {
      matching = on_ok c.add_found.result (λ adds r r2 q rest matching outcome next name chain.
          let out : HasOutcome r q (Some (answer.New f)) c.args.searched.part r2 = rw (c.in-Some-New.is, c.in-Some-New.field-0-is) at outcome in
          let all = same_count c.args.env.now s.loaders r.objects matching.linked in
          let within = c.requires.loader in
          let few : suc c.args.loader ≤ length r.objects = omega (arith, within, all) in
          let one : 1 ≤ length r.objects = omega (arith, few) in
          found_matches c.args.env.now r r2 s c.add_found.new.self (suc c.args.loader) q rest matching next f c.args.loader c.args.searched.part
          out chain c.requires.loader few one (rw name adds)) added;
      sound = λ known t abi sound good.
          let fine : IsSoundAnswer known t abi (Some (answer.New f)) = rw (c.in-Some-New.is, c.in-Some-New.field-0-is) at good in
          let new : is_among s.places.loaded f.real ≡ false = rw (c.in-Some-New.is, c.in-Some-New.field-0-is) at c.requires.new in
          on_ok c.add_found.result (λ adds. sound_more t abi s f.real new known c.add_found.new.self sound adds.places
          (ap length adds.members ∙ length-append s.members.items _) fine.0 fine.1) added;
      grows = on_ok c.add_found.result (λ adds. record {
        more = 1;
        loaders = ap length adds.loaders ∙ length-append s.loaders _;
        places = ap (λ p. length p.loaded) adds.places ∙ length-append s.places.loaded _;
        pending = ap length adds.pending ∙ length-append s.pending.items _;
      }) added;
    }

pub returns-in-None : goal.returns-in-None
returns-in-None c =
    let s = c.args.self.now in
    let kept : c.add_reply.new.self ≡ record s { replies = s.replies ++ Missing ∷ [] } = search rules in
    let added = rw kept at c.add_missing.ensures in
    record {
      matching = on_ok c.add_missing.result (λ adds r r2 q rest matching outcome next name chain.
          let out : HasOutcome r q None c.args.searched.part r2 = rw c.in-None.is at outcome in
          missing_matches c.args.env.now r r2 s c.add_missing.new.self (suc c.args.loader) q rest matching next out.objects out.items out.found adds.found adds.loaders adds.places adds.names adds.members adds.pending
          (rw name adds.missing) (rw name adds.items) adds.replies out.replies) added;
      sound = λ known t abi sound good. on_ok c.add_missing.result (λ adds. sound_same known t abi s c.add_missing.new.self sound adds.places (ap length adds.members)) added;
      grows = on_ok c.add_missing.result (λ adds. record {
        more = 0;
        loaders = rw adds.loaders (omega arith);
        places = rw adds.places (omega arith);
        pending = rw adds.pending (omega arith);
      }) added;
    }
