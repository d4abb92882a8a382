use Rattle.std.proofs.Common.{rules, ◌≡◌, ◌∙◌}
use Rattle.std.specs.Map.{lookup}
use Rattle.std.specs.Option.{is_some}
use Rattle.std.specs.Str.{bytes_eq}
use Rattle.looked_tree.proofs.Lists.{found_listed}
use Rattle.looked_tree.proofs.listing.has_listed.Goals as goal

pub returns : goal.returns
returns c =
    let there : c.contains_key.result ≡ is_some (lookup (bytes_eq c.args.dir.now) c.args.lists.now.entries) = search rules in
    there ∙ found_listed c.args.lists.now.entries c.args.dir.now
