use Rattle.std.proofs.Common.{◌≡◌, ◌∷◌, ◌++◌, [], length, map, ap, sym, subst, ◌∙◌, rules}
use Rattle.std.specs.Option.{option_copied}
use Rattle.library_files.proofs.LinkRows.{link_kept, row_within}
use Rattle.lib_types.proofs.Offsets.{pushed, pushed_within, rows_within}
use Rattle.library_files.specs.Link.{FollowedLink}
use Rattle.library_files.specs.LinkRows.{link_in, AreLinksWithin, IsLinkWithin}
use Rattle.library_files.proofs.followed.FollowedLinks.push.Goals as goal

pub invariant_of-self-in_err-push : goal.invariant_of-self-in_err-push
invariant_of-self-in_err-push c =
    subst (AreLinksWithin (length c.add_parts.new.text.items)) (sym c.in_err-push.ensures.items)
    (rows_within link_in IsLinkWithin row_within link_kept c.self.inside.text.items c.add_parts.new.text.items c.self.inside.rows.items c.add_parts.ensures.longer c.self.invariant)

pub invariant_of-self-2 : goal.invariant_of-self-2
invariant_of-self-2 c =
    subst (AreLinksWithin (length c.add_parts.new.text.items)) (sym c.in_ok-push.ensures.items)
    (pushed_within link_in IsLinkWithin row_within link_kept c.self.inside.text.items c.add_parts.new.text.items c.self.inside.rows.items c.in_ok-row.ensures.longer c.self.invariant c.in_ok-row.row c.in_ok-row.ensures.within)

pub returns : goal.returns
returns c =
    let link : FollowedLink = record { name = c.args.name.now; target = c.args.target.now; file = option_copied c.args.file } in
    let was : map (link_in c.self.inside.text.items) c.self.inside.rows.items ≡ c.args.self.now = search rules in
    ap (map (link_in c.add_parts.new.text.items)) c.in_ok-push.ensures.items
    ∙ pushed link_in IsLinkWithin row_within link_kept c.self.inside.text.items c.add_parts.new.text.items c.self.inside.rows.items c.in_ok-row.ensures.longer c.self.invariant c.in_ok-row.row link c.in_ok-row.ensures.row
    ∙ ap (λ links. links ++ link ∷ []) was
