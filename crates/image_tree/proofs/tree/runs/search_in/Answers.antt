use Rattle.std.proofs.Common.{◌+◌, refl, sym, subst}
use Rattle.image_tree.proofs.Runs.{gap_in_run, place_found, sorted_run}
use Rattle.image_tree.specs.Index.{IsIndexOf, IsGapFor}
use Rattle.image_tree.specs.Tree.{IsPathSorted}
use Rattle.image_tree.proofs.tree.runs.search_in.Goals as goal

pub search-requires : goal.search-requires
search-requires c = subst IsPathSorted (sym c.run_of.ensures) (sorted_run c.args.runs.now.items c.args.run c.requires.within c.requires.sorted)

pub returns-in-Ok-clause-found : goal.returns-in-Ok-clause-found
returns-in-Ok-clause-found c =
    place_found c.args.runs.now.items _ c.args.path.now c.requires.within (subst (λ r. IsIndexOf r c.args.path.now c.in-Ok.at) c.run_of.ensures c.in-Ok.ensures.found)

pub returns-in-Err-clause-absent : goal.returns-in-Err-clause-absent
returns-in-Err-clause-absent c =
    gap_in_run c.args.runs.now.items _ c.args.path.now c.requires.runs c.requires.sorted (c.args.run + 1) refl c.requires.within c.requires.before c.requires.after
    (subst (λ r. IsGapFor r c.args.path.now c.in-Err.at) c.run_of.ensures c.in-Err.ensures.absent)
