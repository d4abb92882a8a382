-- The stored offset of a text.
use Rattle.std.proofs.Common.{◌∙◌, ◌+◌, List, ℕ, ap, arith, length, take, get_or}
use Rattle.string_pool.specs.InOrder.{table_of}
use Rattle.string_pool.proofs.InOrder.{offset_there, length_offsets_from}
use Rattle.string_pool.proofs.table.Table.offset.Goals as goal

pub index-requires : goal.index-requires
index-requires c =
    let many = length_offsets_from c.self.inside.base c.self.inside.texts in
    let kept = ap length c.self.invariant.places in
    let view = ap (λ s. length s.texts) c.self.view_is in
    omega (arith, many, kept, view, c.requires)

pub returns : goal.returns
returns c =
    let view = ap (λ s. length s.texts) c.self.view_is in
    c.index.ensures ∙ ap (λ (xs : List ℕ). get_or xs c.args.number c.index.result.now) c.self.invariant.places
    ∙ offset_there c.self.inside.base c.self.inside.texts c.args.number c.index.result.now (omega (arith, view, c.requires))
    ∙ ap (λ s. s.base + length (table_of (take c.args.number s.texts))) c.self.view_is
