use Rattle.std.proofs.Common.{◌≡◌, ◌∙◌, [], drop, ap, sym}
use Rattle.std.proofs.lemmas.List.{append-nil}
use Rattle.hwcap_dirs.specs.Gathering.{all_places}
use Rattle.hwcap_dirs.specs.Places.{builtin_dirs}
use Rattle.hwcap_dirs.proofs.listing.Gathering.add_builtin.Goals as goal

-- no directory is left
pub returns : goal.returns
returns c =
    let none : drop c.loop-dir.done (builtin_dirs c.args.scope.now) ≡ [] = c.in_default.ensures in
    sym (append-nil c.loop-dir.self.places) ∙ ap (all_places c.args.tree.now c.loop-dir.self.met c.loop-dir.self.places) (sym none) ∙ c.loop-dir.invariant
