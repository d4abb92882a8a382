use Rattle.std.proofs.Common.{◌≡◌, ◌==◌, ◌∙◌, ◌-◌, false, length, subst, IfOk, rules}
use Rattle.std.specs.Option.{option_copied}
use Rattle.rpath_search.specs.Candidates.{all_paths, paths_left}
use Rattle.rpath_search.specs.Listed.{reach_in}
use Rattle.rpath_search.specs.Loaders.{reach_at}
use Rattle.rpath_search.specs.Places.{env_for, has_slash}
use Rattle.rpath_search.proofs.Listed.{all_listed}
use Rattle.rpath_search.proofs.listing.places.Goals as goal

pub returns : goal.returns
returns c =
    let name = c.args.name.now in
    let chain = c.args.chain.now in
    let env = c.args.env.now in
    let cached = option_copied c.args.cached in
    let reach = reach_at c.in_ok-loaders.loaders (length c.in_ok-loaders.loaders - 1) in
    let plain : has_slash name ≡ false = search rules in
    let some : (length chain == 0) ≡ false = search rules in
    let last : reach ≡ reach_in env chain = rw c.as_slice.ensures at c.in_ok-loaders.ensures.last in
    let left : paths_left c.in_ok-candidates.candidates ≡ all_paths name (env_for env env.abi) reach cached = rw (c.len-last.ensures, c.in_ok-once.ensures) at c.in_ok-candidates.ensures.left in
    subst (λ p. IfOk c.collected.result (λ list. list ≡ p)) (left ∙ all_listed name chain env cached reach plain some last) c.collected.ensures
