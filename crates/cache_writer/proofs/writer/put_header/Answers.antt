-- The parts of the header, one after another.
use Rattle.std.proofs.Common.{◌≡◌, ◌++◌, replicate}
use Rattle.std.proofs.lemmas.List.{append_assoc}
use Rattle.cache_writer.specs.CacheText.{header}
use Rattle.cache_writer.proofs.writer.put_header.Goals as goal

pub returns : goal.returns
unfolding header
returns c =
    let e : c.put_u32-3.new.out.items ++ replicate 12 0 ≡ c.args.out.now.items ++ header c.args.count c.args.strings c.args.extension =
    rw (c.in_ok-put_u32-3.ensures, c.in_ok-extend_from_slice-2.ensures.items, c.in_ok-put_u32-2.ensures, c.in_ok-put_u32.ensures, c.in_ok-extend_from_slice.ensures.items) (simp append_assoc)
    in rw (← e) c.put_zeros.ensures
