use Rattle.std.proofs.Common.{◌<◌, length, sym, ap, ◌∙◌, ◌++◌, ◌∷◌, [], List, ℕ, arith}
use Rattle.std.proofs.lemmas.List.{take_more_set, length-set}
use Rattle.std.proofs.lemmas.List.FromFn.{map-range_with_len_more}
use Rattle.cache_reader.specs.Printed.{hex_digit}
use Rattle.cache_reader.proofs.printing.hex_digits.Goals as goal

pub loop-index-preserved : goal.loop-index-preserved
loop-index-preserved c =
    let size = c.loop-index.invariant.0 in
    let below : c.loop-index.index < length c.loop-index.digits = omega (arith, size) in
    let digit = hex_digit c.args.number c.loop-index.index in (
      simp length-set size,
      take_more_set c.loop-index.digits c.loop-index.index digit below
          ∙ ap (λ (xs : List ℕ). xs ++ digit ∷ []) c.loop-index.invariant.1
          ∙ sym (map-range_with_len_more (hex_digit c.args.number) 0 c.loop-index.index c.loop-index.index (omega arith)),
    )
