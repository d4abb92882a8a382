use Rattle.std.proofs.Common.{rules, ◌≡◌, ◌∷◌, ◌++◌, List, ℕ, filter, map, not, None, Some, subst}
use Rattle.conf_patterns.specs.Glob.{glob_match}
use Rattle.conf_patterns.specs.Patterns.{is_library_link, place_at}
use Rattle.image_tree.specs.Tree.{children_of}
use Rattle.lib_types.specs.Name.{slash}
use Rattle.seen_tree.specs.Part.{dirs_at, listed}
use Rattle.tree_face.specs.Known.{IfKnown}
use Rattle.looked_tree.specs.Looked.{IsLookedOf, Loads}
use Rattle.looked_conf.proofs.Texts.{matches_none, matches_some, none_chosen, some_chosen}
use Rattle.looked_conf.proofs.patterns.see_matches.Goals as goal

pub returns-in_default-clause-loads : goal.returns-in_default-clause-loads
returns-in_default-clause-loads g c =
    let none : place_at c.see_text.new.self.seen.part c.args.text.now ≡ None = search rules in
    matches_none c.args.component.now c.args.text.now (g.F.Folder.state c.args.folder.now) (g.F.Folder.state c.see_text.new.folder) c.args.looked.now c.see_text.new.self
    c.in_ok-see_text.ensures.loads none

pub returns-in_default-clause-texts : goal.returns-in_default-clause-texts
returns-in_default-clause-texts g c =
    let none : place_at c.see_text.new.self.seen.part c.args.text.now ≡ None = search rules in
    none_chosen c.args.component.now c.args.text.now (g.F.Folder.state c.args.folder.now) (g.F.Folder.state c.see_text.new.folder) c.args.looked.now c.see_text.new.self
    c.in_ok-see_text.ensures.loads c.args.texts.now.items none

pub returns-clause-loads : goal.returns-clause-loads
returns-clause-loads g c =
    let component = c.args.component.now in
    let b = g.F.Folder.state c.see_text.new.folder in
    let d = g.F.Folder.state c.list.new.folder in
    let some : place_at c.see_text.new.self.seen.part c.args.text.now ≡ Some c.in-Some.dir = search rules in
    matches_some component c.args.text.now (g.F.Folder.state c.args.folder.now) b c.args.looked.now c.see_text.new.self
    c.in_ok-see_text.ensures.loads c.in-Some.dir some d c.list.new.self
    (subst (λ (q : List ℕ). Loads (λ t. listed (glob_match component) t q) (λ t. dirs_at t q) b d c.see_text.new.self c.list.new.self) c.as_bytes.ensures c.in_ok-names.ensures.loads)

pub returns-clause-texts : goal.returns-clause-texts
returns-clause-texts g c =
    let component = c.args.component.now in
    let text = c.args.text.now in
    let dir = c.in-Some.dir in
    let b = g.F.Folder.state c.see_text.new.folder in
    let d = g.F.Folder.state c.list.new.folder in
    let y = c.see_text.new.self in
    let names = c.in_ok-names.names in
    let some : place_at y.seen.part text ≡ Some dir = search rules in
    let added : c.add_names.new.texts.items ≡ c.args.texts.now.items ++ map (λ name. text ++ slash ∷ name) (filter (λ name. not (is_library_link c.list.new.self.seen.part dir name)) names) =
    rw (c.tree-2.ensures, c.as_bytes-2.ensures, c.as_slice.ensures) at c.in_ok-add_names.ensures in
    some_chosen component text (g.F.Folder.state c.args.folder.now) b c.args.looked.now y c.in_ok-see_text.ensures.loads dir some d c.list.new.self
    (subst (λ (q : List ℕ). Loads (λ t. listed (glob_match component) t q) (λ t. dirs_at t q) b d y c.list.new.self) c.as_bytes.ensures c.in_ok-names.ensures.loads)
    c.args.texts.now.items c.add_names.new.texts.items names
    (subst (λ (q : List ℕ). IfKnown b.contents (λ k. IsLookedOf k.now y → names ≡ filter (glob_match component) (children_of k.now q))) c.as_bytes.ensures c.in_ok-names.ensures.names)
    added
