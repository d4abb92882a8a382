use Rattle.std.proofs.Common.{rules, ◌≡◌, ℕ, List, true, cond, Option, Some, None, ap, sym, ◌∙◌}
use Rattle.std.specs.Option.{option_copied}
use Rattle.name_order.specs.LibraryName.{is_library_name}
use Rattle.path_walk.specs.Files.{file_at}
use Rattle.image_tree.specs.Paths.{join}
use Rattle.image_tree.specs.Tree.{node_at}
use Rattle.image_tree.specs.declared.node.Node.TheVariants as node
use Rattle.library_files.specs.Link.{FollowedLink}
use Rattle.library_files.specs.Search.{link_with}
use Rattle.library_files.proofs.links.led_by.Goals as goal

pub returns-in_ok-file-in-Some-Link : goal.returns-in_ok-file-in-Some-Link
returns-in_ok-file-in-Some-Link c =
    let t = c.args.tree.now in
    let folder = c.args.folder.now in
    let name = c.args.name.now in
    let target = c.as_bytes-target.result.now in
    let link : option_copied c.args.node ≡ Some (node.Link target) = search rules in
    let named : is_library_name name ≡ true = search rules in
    let there : node_at t (join folder name) ≡ Some (node.Link target) = sym c.requires.node ∙ link in
    let leads = c.in_ok-file-in-Some-Link.ensures.file name c.requires.dir c.requires.name there in
    let made : Option (List ℕ) → Option FollowedLink = λ file. Some (record { name = name; target = target; file = file }) in
    ap (link_with t folder name) there ∙ ap (λ b. cond b (made (file_at t (join folder name))) None) named ∙ sym (ap made leads)
