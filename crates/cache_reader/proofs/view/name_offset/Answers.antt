use Rattle.std.proofs.Common.{◌<◌, ◌/◌, ◌∙◌, sym, arith}
use Rattle.cache_reader.proofs.Names.{length_is, offset_is, offset_within, tagged_inside}
use Rattle.cache_reader.proofs.view.name_offset.Goals as goal

pub number_in-requires-clause-section : goal.number_in-requires-clause-section
number_in-requires-clause-section c = tagged_inside c.args.bytes.now 1 c.args.names c.requires.sound c.requires.names

pub number_in-requires-clause-index : goal.number_in-requires-clause-index
number_in-requires-clause-index c =
    let size = length_is c.args.bytes.now c.args.names c.requires.names in
    omega (arith, size, c.requires.index)

pub returns-clause-value : goal.returns-clause-value
returns-clause-value c =
    let size = length_is c.args.bytes.now c.args.names c.requires.names in
    let below : c.args.index < c.args.names.size / 4 = omega (arith, size, c.requires.index) in
    c.number_in.ensures ∙ sym (offset_is c.args.bytes.now c.args.names c.args.index c.requires.names below)

pub returns-clause-within : goal.returns-clause-within
returns-clause-within c =
    let same = returns-clause-value c in
    omega (arith, same, offset_within c.args.bytes.now c.args.names c.args.index c.requires.sound c.requires.names c.requires.index)
