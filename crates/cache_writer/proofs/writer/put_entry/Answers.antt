-- The fields of an entry, one after another, with the offsets of its strings.
use Rattle.std.proofs.Common.{◌≡◌}
use Rattle.string_pool.specs.SharedEnds.{shared_place}
use Rattle.string_pool.proofs.Numbers.{number_within}
use Rattle.cache_writer.proofs.Joining.{placed, put_fields}
use Rattle.cache_writer.proofs.writer.put_entry.Goals as goal

pub offset-soname-requires : goal.offset-soname-requires
offset-soname-requires c = let own = c.requires.own in rw own.soname (number_within c.args.strings.now.texts c.args.numbered.now.entry.now.soname own.own.soname)

pub offset-path-requires : goal.offset-path-requires
offset-path-requires c = let own = c.requires.own in rw own.path (number_within c.args.strings.now.texts c.args.numbered.now.entry.now.path own.own.path)

pub returns : goal.returns
returns c =
    let s = c.args.strings.now in
    let e = c.args.numbered.now.entry.now in
    let own = c.requires.own in
    let soname : c.offset-soname.result ≡ shared_place s e.soname = placed s c.args.numbered.now.soname c.offset-soname.result e.soname own.soname own.own.soname c.offset-soname.ensures.place in
    let path : c.offset-path.result ≡ shared_place s e.path = placed s c.args.numbered.now.path c.offset-path.result e.path own.path own.own.path c.offset-path.ensures.place in
    rw (c.in_ok-extend_from_slice.ensures.items, c.fields_of-fields.ensures)
    (put_fields s c.args.names.now e c.args.out.now.items c.flags.result c.offset-soname.result c.offset-path.result c.hwcap.result c.flags.ensures soname path c.hwcap.ensures)
