use Rattle.std.proofs.Common.{◌∙◌, ap, bytes_eq}
use Rattle.std.specs.List.{position_or_len}
use Rattle.cache_writer.proofs.Sorted.{index_is}
use Rattle.cache_writer.proofs.names.Names.index.Goals as goal

pub returns-clause-value : goal.returns-clause-value
returns-clause-value c =
    c.unwrap_or.ensures ∙ rw (c.get_index_of.ensures.index, c.len.ensures.len) (index_is (bytes_eq c.args.name.now) c.self.inside.names.keys)
    ∙ ap (position_or_len (bytes_eq c.args.name.now)) c.self.view_is
