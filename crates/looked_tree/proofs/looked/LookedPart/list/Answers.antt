use Rattle.std.proofs.Common.{rules, ◌≡◌, false, true, [], map, subst}
use Rattle.image_tree.specs.Paths.{join}
use Rattle.image_tree.specs.Tree.{kind_at}
use Rattle.looked_tree.proofs.Lists.{list_none, list_some, none_known, some_known}
use Rattle.looked_tree.specs.Looked.{Loads, is_dir}
use Rattle.looked_tree.proofs.looked.LookedPart.list.Goals as goal

pub returns-then-not-is_dir-clause-loads : goal.returns-then-not-is_dir-clause-loads
returns-then-not-is_dir-clause-loads g c =
    let other : is_dir (kind_at c.see.new.self.seen.part c.args.dir.now) ≡ false = search rules in
    list_none (g.T.NameTest.test c.args.test.now) c.args.dir.now (g.F.Folder.state c.args.folder.now) (g.F.Folder.state c.see.new.folder) c.args.self.now c.see.new.self
    c.in_ok-see.ensures.loads other

pub returns-then-not-is_dir-clause-names : goal.returns-then-not-is_dir-clause-names
returns-then-not-is_dir-clause-names g c =
    let other : is_dir (kind_at c.see.new.self.seen.part c.args.dir.now) ≡ false = search rules in
    none_known (g.T.NameTest.test c.args.test.now) c.args.dir.now (g.F.Folder.state c.args.folder.now) (g.F.Folder.state c.see.new.folder) c.args.self.now c.see.new.self
    c.in_ok-see.ensures.loads c.new.result other c.new.ensures

pub returns-clause-loads : goal.returns-clause-loads
returns-clause-loads g c =
    let dir : is_dir (kind_at c.see.new.self.seen.part c.args.dir.now) ≡ true = search rules in
    list_some (g.T.NameTest.test c.args.test.now) c.args.dir.now (g.F.Folder.state c.args.folder.now) (g.F.Folder.state c.see.new.folder) c.args.self.now c.see.new.self
    c.in_ok-see.ensures.loads dir (g.F.Folder.state c.list_once.new.folder) c.list_once.new.self c.in_ok-list_once.ensures.loads c.in_ok-list_once.ensures.there
    c.in_ok-names.names c.in_ok-names.ensures (g.F.Folder.state c.see_names.new.folder) c.see_names.new.self
    (subst (λ xs. Loads (λ t. map (join c.args.dir.now) xs) (λ t. []) (g.F.Folder.state c.list_once.new.folder) (g.F.Folder.state c.see_names.new.folder) c.list_once.new.self c.see_names.new.self)
    c.as_slice.ensures c.in_ok-see_names.ensures.loads)

pub returns-clause-names : goal.returns-clause-names
returns-clause-names g c =
    let dir : is_dir (kind_at c.see.new.self.seen.part c.args.dir.now) ≡ true = search rules in
    some_known (g.T.NameTest.test c.args.test.now) c.args.dir.now (g.F.Folder.state c.args.folder.now) (g.F.Folder.state c.see.new.folder) c.args.self.now c.see.new.self
    c.in_ok-see.ensures.loads dir (g.F.Folder.state c.list_once.new.folder) c.list_once.new.self c.in_ok-list_once.ensures.loads c.in_ok-list_once.ensures.there
    c.in_ok-names.names c.in_ok-names.ensures
