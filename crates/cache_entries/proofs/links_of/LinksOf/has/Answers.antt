use Rattle.std.proofs.Common.{ap, subst, ◌∙◌}
use Rattle.image_tree.specs.Paths.{join}
use Rattle.library_files.specs.Places.{links_to}
use Rattle.cache_entries.proofs.LinksOf.{target_there}
use Rattle.cache_entries.specs.LinksOf.{AreLinked, Folder}
use Rattle.cache_entries.proofs.links_of.LinksOf.has.Goals as goal

pub returns-in-Some-clause-leads : goal.returns-in-Some-clause-leads
returns-in-Some-clause-leads c =
    let linked : AreLinked c.args.self.now c.self.inside.left = subst (λ (f : Folder). AreLinked f c.self.inside.left) c.self.view_is c.self.invariant in
    c.are_same.ensures ∙ target_there c.args.self.now c.self.inside.left c.args.name.now c.in-Some.there.now c.args.target.now linked c.in-Some.ensures.target

pub returns-clause-leads : goal.returns-clause-leads
returns-clause-leads c =
    c.links_to.ensures
    ∙ ap (λ path. links_to c.self.inside.tree.now path c.args.target.now) (c.as_slice.ensures.value ∙ c.in_ok-join_into.ensures)
    ∙ ap (λ (f : Folder). links_to f.tree (join f.path c.args.name.now) c.args.target.now) c.self.view_is
