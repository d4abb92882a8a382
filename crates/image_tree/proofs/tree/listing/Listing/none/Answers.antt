use Rattle.std.proofs.Common.{sym, subst}
use Rattle.image_tree.proofs.AllOfChild.{none_sorted}
use Rattle.image_tree.specs.Tree.{IsPathSorted}
use Rattle.image_tree.proofs.tree.listing.Listing.none.Goals as goal

pub invariant_of-result : goal.invariant_of-result
invariant_of-result c = subst IsPathSorted (sym c.none.ensures) none_sorted
