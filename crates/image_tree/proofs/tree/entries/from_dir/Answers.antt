use Rattle.std.proofs.Common.{rules, ◌≡◌, false, refl, ap, sym, subst, ◌∙◌}
use Rattle.std.specs.Str.{bytes_eq}
use Rattle.image_tree.proofs.AllOfChild.{sorted_dropped}
use Rattle.image_tree.proofs.KindAt.{dir_has_path}
use Rattle.image_tree.proofs.Names.{below_root, below_taken}
use Rattle.image_tree.specs.Paths.{folder, root}
use Rattle.image_tree.specs.Runs.{joined, index_of, in_folder, AreFromDir}
use Rattle.image_tree.specs.Tree.{IsPathSorted, kind_at}
use Rattle.image_tree.specs.declared.tree.Kind.TheVariants.{Dir}
use Rattle.image_tree.proofs.tree.entries.from_dir.Goals as goal

pub returns-then-eq-clause-entries : goal.returns-then-eq-clause-entries
returns-then-eq-clause-entries c =
    let t = joined c.args.runs.now.items in
    let e : c.args.path.now ≡ root = search rules in
    subst (λ p. AreFromDir t p c.all.result) (sym e) (record { dir = refl; below = ap (in_folder (folder root)) c.all.ensures ∙ below_root t c.requires.tree.entries })

pub returns-in-Dir-clause-entries : goal.returns-in-Dir-clause-entries
returns-in-Dir-clause-entries c =
    let runs = c.args.runs.now.items in
    let path = c.args.path.now in
    let proper : bytes_eq path root ≡ false = search rules in
    let dir : kind_at (joined runs) path ≡ Dir = sym c.kind_found.ensures ∙ c.in-Dir.is in
    record {
      dir = dir;
      below = ap (in_folder (folder path)) c.from.ensures
          ∙ below_taken (joined runs) path (index_of runs c.following.result) (dir_has_path (joined runs) path proper dir) c.following.ensures.following c.requires.tree.sorted;
    }

pub returns-in-Dir-clause-sorted : goal.returns-in-Dir-clause-sorted
returns-in-Dir-clause-sorted c = subst IsPathSorted (sym c.from.ensures) (sorted_dropped (joined c.args.runs.now.items) _ c.requires.tree.sorted)
