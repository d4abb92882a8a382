use Rattle.std.proofs.Common.{◌∙◌, ap}
use Rattle.soname_links.specs.Survey.{groups}
use Rattle.soname_links.proofs.Grouped.{groups_gathered}
use Rattle.soname_links.proofs.groups.groups_in.Goals as goal

pub returns : goal.returns
returns c =
    groups_gathered c.into_vec.result.items c.in_ok-items.items.items c.in_ok-groups.groups.items c.in_ok-items.ensures c.in_ok-groups.ensures ∙ ap groups c.into_vec.ensures
