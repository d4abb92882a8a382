-- The offset of the string with this number.
use Rattle.cache_writer.proofs.Joining.{placed_at}
use Rattle.cache_writer.proofs.writer.put_offset.Goals as goal

pub returns : goal.returns
returns c =
    let at = placed_at c.args.strings.now c.args.number c.offset.result c.requires c.offset.ensures.place in
    rw (← at) c.put_u32.ensures
