-- The parts of the file, one after another.
use Rattle.std.proofs.Common.{◌∙◌, ap, refl, length, map}
use Rattle.std.proofs.lemmas.List.{length-map}
use Rattle.string_pool.specs.Texts.{number_of}
use Rattle.cache_writer.specs.CacheText.{generator}
use Rattle.cache_writer.proofs.Joining.{parts_joined, entries_are, numbers_within, offsets_of, count_entries}
use Rattle.cache_writer.proofs.writer.join.Goals as goal

pub put_offsets-requires : goal.put_offsets-requires
put_offsets-requires c = rw c.requires.numbers (numbers_within c.args.strings.now.texts c.args.names.now c.requires.among)

pub returns : goal.returns
unfolding generator
returns c =
    let s = c.args.strings.now in
    let names = c.args.names.now in
    let many = ap length c.requires.numbers ∙ length-map names (number_of s.texts) in
    rw (c.in_ok-extend_from_slice-2.ensures.items, c.in_ok-put_offsets.ensures, c.in_ok-put_directory.ensures, c.in_ok-put_zeros.ensures, c.in_ok-extend_from_slice.ensures.items, c.in_ok-put_entries.ensures, c.in_ok-put_header.ensures)
    (parts_joined s names (map (λ e. e.entry.now) c.args.entries.now) c.in_ok-out.out.items _ c.bytes-bytes.result.now _ (length c.args.entries.now) (length c.args.numbers.now) _ _ _
    c.in_ok-out.ensures.items (count_entries c.args.entries.now) many (entries_are s names c.args.entries.now) c.bytes-bytes.ensures (offsets_of s names c.args.numbers.now c.requires.among c.requires.numbers) refl refl refl)
