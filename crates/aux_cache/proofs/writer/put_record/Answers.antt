-- The fields of a record, one after another, with the offset of its soname.
use Rattle.std.proofs.Common.{◌≡◌, ◌+◌, ◌∙◌, ap, length, take}
use Rattle.string_pool.specs.InOrder.{table_of, place_of}
use Rattle.string_pool.proofs.Numbers.{number_within}
use Rattle.aux_cache.specs.AuxText.{soname_of}
use Rattle.aux_cache.proofs.Joining.{put_fields}
use Rattle.aux_cache.proofs.writer.put_record.Goals as goal

pub offset-offset-requires : goal.offset-offset-requires
offset-offset-requires c = rw c.requires.number.number (number_within c.args.strings.now.texts (soname_of c.args.numbered.now.stamp.now) c.requires.number.among)

pub returns-clause-bytes : goal.returns-clause-bytes
returns-clause-bytes c =
    let s = c.args.strings.now in
    let x = c.args.numbered.now.stamp.now in
    let offset : c.offset-offset.result ≡ place_of s (soname_of x) = c.offset-offset.ensures ∙ ap (λ n. s.base + length (table_of (take n s.texts))) c.requires.number.number in
    rw (c.in_ok-extend_from_slice.ensures.items, c.bytes_of-bytes.ensures.numbers)
    (put_fields s x c.args.out.now.items c.fields_of-fields.result c.offset-offset.result c.fields_of-fields.ensures offset)
