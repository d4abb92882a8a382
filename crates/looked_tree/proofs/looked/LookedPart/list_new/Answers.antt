use Rattle.std.proofs.Common.{◌≡◌, [], ◌∷◌, false, ap, subst, sym, ◌∙◌}
use Rattle.std.specs.Str.{bytes_eq}
use Rattle.indexmap.specs.IndexMap.{insert_entry}
use Rattle.looked_tree.proofs.Lists.{lists_new, there_new}
use Rattle.looked_tree.specs.Looked.{Loads, Looked, is_listed, looked}
use Rattle.looked_tree.proofs.looked.LookedPart.list_new.Goals as goal

pub returns-in_ok-add_names-in-Ok-clause-loads : goal.returns-in_ok-add_names-in-Ok-clause-loads
returns-in_ok-add_names-in-Ok-clause-loads g c =
    let dir = c.args.dir.now in
    let before = c.self.inside.names.entries in
    let after = c.add_names.new.lists.entries in
    let a = g.F.Folder.state c.args.folder.now in
    let b = g.F.Folder.state c.names.new.self in
    let new : is_listed before dir ≡ false = subst (λ (l : Looked). is_listed l.lists dir ≡ false) (sym c.self.view_is) c.requires in
    let put : after ≡ insert_entry bytes_eq before dir c.in-Ok.names = c.in_ok-add_names-in-Ok.ensures ∙ ap (λ d. insert_entry bytes_eq before d c.in-Ok.names) c.in_ok-at.ensures in
    subst (λ (l : Looked). Loads (λ t. []) (λ t. dir ∷ []) a b l (looked c.self.inside.part after)) c.self.view_is
    (lists_new dir a b c.self.inside.part before after c.in-Ok.names new put c.in-Ok.ensures.reads c.in-Ok.ensures.names)

pub returns-in_ok-add_names-in-Ok-clause-there : goal.returns-in_ok-add_names-in-Ok-clause-there
returns-in_ok-add_names-in-Ok-clause-there g c =
    let dir = c.args.dir.now in
    let before = c.self.inside.names.entries in
    let after = c.add_names.new.lists.entries in
    let new : is_listed before dir ≡ false = subst (λ (l : Looked). is_listed l.lists dir ≡ false) (sym c.self.view_is) c.requires in
    let put : after ≡ insert_entry bytes_eq before dir c.in-Ok.names = c.in_ok-add_names-in-Ok.ensures ∙ ap (λ d. insert_entry bytes_eq before d c.in-Ok.names) c.in_ok-at.ensures in
    there_new dir (g.F.Folder.state c.args.folder.now) (g.F.Folder.state c.names.new.self) c.self.inside.part before after c.in-Ok.names new put
