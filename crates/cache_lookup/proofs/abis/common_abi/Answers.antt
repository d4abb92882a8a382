use Rattle.std.proofs.Common.{◌∙◌, ◌≡◌, None, arith, rules, subst, sym}
use Rattle.cache_reader.specs.Cache.{read}
use Rattle.cache_lookup.specs.Abis.{IsAbiAt}
use Rattle.cache_lookup.proofs.EntryAbis.{joined_none, joined_some, of_abi, of_no_abi}
use Rattle.cache_lookup.proofs.abis.common_abi.Goals as goal
use Rattle.cache_lookup.proofs.abis.common_abi.Goals.{in-Some+in_ok-joined, in_default}

pub returns-in_err-joined : goal.returns-in_err-joined
returns-in_err-joined c =
    let size = c.len-index-end.ensures.value in
    let none : c.joined.result ≡ None = search rules in
    let result : c.from_residual.result ≡ None = search rules in
    let rest = of_abi (read c.args.view.now) c.loop-index.index (omega arith) c.in-Some.abi (subst (IsAbiAt (read c.args.view.now) c.loop-index.index) c.in-Some.is c.abi_at.ensures) in
    result ∙ sym (joined_none c.loop-index.common c.in-Some.abi _ (sym c.joined.ensures ∙ none)) ∙ rw rest at c.loop-index.invariant

pub loop-index-preserved : goal.loop-index-preserved
loop-index-preserved c =
    let size = c.len-index-end.ensures.value in
    elim c.match-abi_at.branch [
      | in-Some+in_ok-joined w ↦
          let rest = of_abi (read c.args.view.now) c.loop-index.index (omega arith) w.in-Some.abi (subst (IsAbiAt (read c.args.view.now) c.loop-index.index) w.in-Some.is c.abi_at.ensures) in
          rw w.common-is (sym (joined_some c.loop-index.common w.in-Some.abi _ _ (sym w.joined.ensures ∙ w.in_ok-joined.was)) ∙ rw rest at c.loop-index.invariant)
      | in_default w ↦
          let none = subst (IsAbiAt (read c.args.view.now) c.loop-index.index) w.in_default.is c.abi_at.ensures in
          rw w.common-is (of_no_abi (read c.args.view.now) c.loop-index.index (omega arith) c.loop-index.common none ∙ c.loop-index.invariant)
    ]
