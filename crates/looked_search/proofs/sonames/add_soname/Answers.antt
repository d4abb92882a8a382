use Rattle.std.proofs.Common.{rules, ◌≡◌, ◌∙◌, ◌∷◌, [], Some, None, ap, subst, true}
use Rattle.std.specs.List.{list_all}
use Rattle.image_tree.specs.Node.{is_target}
use Rattle.image_tree.specs.Tree.{Nodes, is_entry, node_at}
use Rattle.image_tree.specs.declared.node.Node.TheVariants as node
use Rattle.looked_tree.proofs.Loads.{ok_then}
use Rattle.looked_search.proofs.Added.{link_valid, no_link, one_link}
use Rattle.looked_search.specs.Sonames.{AddsSonames, link_target}
use Rattle.seen_tree.specs.Seen.{with_found}
use Rattle.looked_search.proofs.sonames.add_soname.Goals as goal

pub returns-in_default-clause-adds : goal.returns-in_default-clause-adds
returns-in_default-clause-adds g c =
    let q = c.args.path.now in
    let old = c.args.tree.now in
    let y = c.see.new.self in
    let none : node_at old q ≡ None = search rules in
    let nothing : link_target (node_at y.seen.part q) ≡ None = search rules in
    no_link q old c.know.ensures none (g.F.Folder.state c.args.folder.now) (g.F.Folder.state c.see.new.folder) c.args.looked.now y c.in_ok-see.ensures.loads nothing

pub put_link-requires-clause-path : goal.put_link-requires-clause-path
put_link-requires-clause-path g c =
    let q = c.args.path.now in
    let y = c.see.new.self in
    let there : link_target (node_at y.seen.part q) ≡ Some c.in-Some.target.now = search rules in
    (link_valid y.seen.part (subst (λ (n : Nodes). list_all is_entry n ≡ true) c.tree.ensures c.know-2.ensures.entries) q c.in-Some.target.now there).0

pub put_link-requires-clause-target : goal.put_link-requires-clause-target
put_link-requires-clause-target g c =
    let q = c.args.path.now in
    let y = c.see.new.self in
    let there : link_target (node_at y.seen.part q) ≡ Some c.in-Some.target.now = search rules in
    ap is_target c.in_ok-copy.ensures
    ∙ (link_valid y.seen.part (subst (λ (n : Nodes). list_all is_entry n ≡ true) c.tree.ensures c.know-2.ensures.entries) q c.in-Some.target.now there).1

pub returns-clause-adds : goal.returns-clause-adds
returns-clause-adds g c =
    let q = c.args.path.now in
    let old = c.args.tree.now in
    let a = g.F.Folder.state c.args.folder.now in
    let b = g.F.Folder.state c.see.new.folder in
    let x = c.args.looked.now in
    let y = c.see.new.self in
    let target = c.in_ok-copy.field-0 in
    let none : node_at old q ≡ None = search rules in
    let there : link_target (node_at y.seen.part q) ≡ Some target = search rules in
    ok_then c.put_link.result (c.put_link.new.tree ≡ with_found old q (Some (node.Link target))) (AddsSonames (q ∷ []) [] a b x y old c.put_link.new.tree)
    (λ e. rw e (one_link q old c.know.ensures none a b x y c.in_ok-see.ensures.loads target there)) c.put_link.ensures.added
