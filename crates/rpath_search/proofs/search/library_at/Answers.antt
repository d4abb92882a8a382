use Rattle.std.proofs.Common.{ap, sym, ◌∙◌, true, false}
use Rattle.std.specs.Option.{option_copied}
use Rattle.rpath_search.proofs.Libraries.{object_there}
use Rattle.rpath_search.proofs.search.library_at.Goals as goal

pub returns-then-is_library-clause-object : goal.returns-then-is_library-clause-object
returns-then-is_library-clause-object g c =
    object_there c.args.tree.now c.args.abi c.args.real.now c.in-Some.key.now (sym c.key_at.ensures ∙ ap option_copied c.in-Some.is)
    (g.S.Store.state c.args.store.now).held c.in-Ok.object true (sym c.is_library.ensures ∙ c.if-is_library.true) c.in-Ok.ensures.object

pub returns-else-is_library-clause-object : goal.returns-else-is_library-clause-object
returns-else-is_library-clause-object g c =
    object_there c.args.tree.now c.args.abi c.args.real.now c.in-Some.key.now (sym c.key_at.ensures ∙ ap option_copied c.in-Some.is)
    (g.S.Store.state c.args.store.now).held c.in-Ok.object false (sym c.is_library.ensures ∙ c.if-is_library.false) c.in-Ok.ensures.object
