use Rattle.std.proofs.Common.{◌≡◌, ◌∷◌, ◌++◌, [], length, map, ap, sym, subst, ◌∙◌, rules}
use Rattle.place_libraries.proofs.OneText.{library_kept, row_within}
use Rattle.lib_types.proofs.Offsets.{pushed, pushed_within}
use Rattle.place_libraries.specs.OneText.{library_in, AreWithin, IsRowWithin}
use Rattle.place_libraries.proofs.best.BestLibraries.push.Goals as goal

pub invariant_of-self-2 : goal.invariant_of-self-2
invariant_of-self-2 c =
    subst (AreWithin (length c.add_names.new.text.items)) (sym c.in_ok-push.ensures.items)
    (pushed_within library_in IsRowWithin row_within library_kept c.self.inside.text.items c.add_names.new.text.items c.self.inside.rows.items c.in_ok-row.ensures.longer c.self.invariant c.in_ok-row.row c.in_ok-row.ensures.within)

pub returns : goal.returns
returns c =
    let was : map (library_in c.self.inside.text.items) c.self.inside.rows.items ≡ c.args.self.now = search rules in
    ap (map (library_in c.add_names.new.text.items)) c.in_ok-push.ensures.items
    ∙ pushed library_in IsRowWithin row_within library_kept c.self.inside.text.items c.add_names.new.text.items c.self.inside.rows.items c.in_ok-row.ensures.longer c.self.invariant c.in_ok-row.row c.args.library.now c.in_ok-row.ensures.row
    ∙ ap (λ libraries. libraries ++ c.args.library.now ∷ []) was
