use Rattle.std.proofs.Common.{rules, ◌≡◌, ◌+◌, length, sym}
use Rattle.root_links.proofs.Lists.{end_dir}
use Rattle.root_links.proofs.making.is_last_in.Goals as goal

pub returns-then-i-links : goal.returns-then-i-links
returns-then-i-links c =
    let end : c.args.i + 1 ≡ length c.args.links.now = search rules in
    sym (end_dir c.args.links.now c.args.i c.dir_at-dir.result.now c.dir_at-dir.ensures end)
