use Rattle.std.proofs.Common.{Some, ap, sym, ◌∙◌}
use Rattle.std.specs.Option.{option_map}
use Rattle.rpath_search.specs.Places.{directory}
use Rattle.rpath_search.proofs.dirs.item_dir.Goals as goal

pub returns : goal.returns
returns c =
    ap Some (c.in_ok-dir.ensures ∙ ap directory c.as_bytes.ensures)
    ∙ sym (ap (option_map directory) (sym (rw (c.lib-lib.ensures, c.as_bytes-platform.ensures) at c.in_ok-text.ensures) ∙ c.in-Some.is))
