use Rattle.std.proofs.Common.{◌≡◌, subst, sym, rules}
use Rattle.std.specs.List.{position}
use Rattle.std.specs.Prelude.{IfSome}
use Rattle.std.specs.Str.{bytes_eq}
use Rattle.string_pool.specs.At.{IsAt}
use Rattle.string_pool.proofs.At.{at_position}
use Rattle.string_pool.proofs.text_set.TextSet.index_of.Goals as goal

pub returns-clause-at : goal.returns-clause-at
returns-clause-at c =
    let place : c.get_index_of.result ≡ position (bytes_eq c.args.text.now) c.args.self.now = search rules in
    subst (λ o. IfSome o (λ i. IsAt c.args.self.now i c.args.text.now)) (sym place) (at_position c.args.text.now c.args.self.now)
