-- The parts of the header, one after another.
use Rattle.aux_cache.proofs.Joining.{header_parts}
use Rattle.aux_cache.proofs.writer.put_header.Goals as goal

pub returns : goal.returns
returns c =
    rw (c.in_ok-extend_from_slice-3.ensures.items, c.in_ok-extend_from_slice-2.ensures.items, c.in_ok-extend_from_slice.ensures.items, c.to_le_bytes-2.ensures, c.to_le_bytes.ensures, c.magic.ensures)
    (header_parts c.args.out.now.items c.args.records c.args.strings)
