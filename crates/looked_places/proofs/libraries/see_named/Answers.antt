use Rattle.std.proofs.Common.{rules, ◌≡◌, ◌∷◌, [], List, ℕ, true, false, subst, ◌∙◌}
use Rattle.image_tree.specs.Paths.{join}
use Rattle.image_tree.specs.Tree.{node_at}
use Rattle.path_walk.specs.declared.walk.Mode.TheVariants.{Full}
use Rattle.seen_tree.specs.Part.{looked_by}
use Rattle.looked_tree.proofs.Loads.{ok_then}
use Rattle.looked_tree.specs.Looked.{Loads}
use Rattle.looked_places.proofs.LibraryNames.{named_link, named_other}
use Rattle.looked_places.specs.Listed.{is_link, named_looked}
use Rattle.looked_places.proofs.libraries.see_named.Goals as goal

pub returns-then-not-is_link-clause-loads : goal.returns-then-not-is_link-clause-loads
returns-then-not-is_link-clause-loads g c =
    let path = join c.args.dir.now c.args.name.now in
    let a = g.F.Folder.state c.args.folder.now in
    let b = g.F.Folder.state c.see.new.folder in
    let at : c.as_bytes.result.now ≡ path = c.as_bytes.ensures ∙ c.in_ok-path.ensures in
    let other : is_link (node_at c.see.new.self.seen.part path) ≡ false = search rules in
    named_other c.args.dir.now c.args.name.now a b c.args.looked.now c.see.new.self
    (subst (λ (q : List ℕ). Loads (λ t. q ∷ []) (λ t. []) a b c.args.looked.now c.see.new.self) at c.in_ok-see.ensures.loads) other

pub returns-clause-loads : goal.returns-clause-loads
returns-clause-loads g c =
    let dir = c.args.dir.now in
    let name = c.args.name.now in
    let path = join dir name in
    let a = g.F.Folder.state c.args.folder.now in
    let b = g.F.Folder.state c.see.new.folder in
    let d = g.F.Folder.state c.see_text.new.folder in
    let x = c.args.looked.now in
    let y = c.see.new.self in
    let z = c.see_text.new.self in
    let at : c.as_bytes.result.now ≡ path = c.as_bytes.ensures ∙ c.in_ok-path.ensures in
    let again : c.as_bytes-3.result.now ≡ path = c.as_bytes-3.ensures ∙ c.in_ok-path.ensures in
    let link : is_link (node_at y.seen.part path) ≡ true = search rules in
    ok_then c.see_text.result (Loads (λ t. looked_by t c.as_bytes-3.result.now Full) (λ t. []) b d y z) (Loads (λ t. named_looked t dir name) (λ t. []) a d x z)
    (λ next. named_link dir name a b x y (subst (λ (q : List ℕ). Loads (λ t. q ∷ []) (λ t. []) a b x y) at c.in_ok-see.ensures.loads) d z link
    (subst (λ (q : List ℕ). Loads (λ t. looked_by t q Full) (λ t. []) b d y z) again next)) c.see_text.ensures.loads
