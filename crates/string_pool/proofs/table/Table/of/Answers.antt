-- Each text is laid out after the texts before it.
use Rattle.std.proofs.Common.{◌∙◌, ◌∷◌, ◌++◌, [], ◌+◌, ap, arith, length, sym, take}
use Rattle.std.proofs.lemmas.List.{take_more}
use Rattle.string_pool.specs.Texts.{with_nul}
use Rattle.string_pool.specs.InOrder.{table_of}
use Rattle.string_pool.proofs.InOrder.{laid_more, length_table_take}
use Rattle.string_pool.proofs.table.Table.of.Goals as goal

pub append-requires : goal.append-requires
append-requires c =
    let all = c.as_slice-text-items.ensures in
    let part = length_table_take c.loop-text.text-index c.as_slice-text-items.result.now in
    let same = ap (λ ts. length (table_of ts)) all in
    omega (arith, part, same, ap length c.loop-text.invariant.table, c.requires)

pub loop-text-preserved : goal.loop-text-preserved
loop-text-preserved c =
    let ts = c.as_slice-text-items.result.now in
    let i = c.loop-text.text-index in
    let next = take_more ts i c.text-item.result c.loop-text-test.true ∙ ap (λ t. take i ts ++ t ∷ []) (sym c.text-item.is) in
    let last = c.in_ok-append.ensures in
    laid_more c.args.base (take i ts) (take (i + 1) ts) c.text-item.result c.loop-text.offsets.items c.append.new.offsets.items c.loop-text.bytes.items c.append.new.bytes.items c.loop-text.invariant next last.offsets (last.bytes ∙ ap (λ t. c.loop-text.bytes.items ++ with_nul t) c.text.view_is)
