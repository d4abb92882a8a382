use Rattle.std.proofs.Common.{◌-◌, ◌≡◌, ◌<◌, ◌≤◌, ◌+◌, ℕ, List, length, get_or}
use Rattle.std.specs.declared.cmp.Ordering.TheVariants.{Less, Greater}
use Rattle.image_tree.specs.Paths.{path_cmp}
use Rattle.image_tree.specs.declared.node.Node.{Node}
use Rattle.image_tree.proofs.tree.row.Rows.search.Given as goal

-- the entry before `low` is below the path, and the entry at `high` is above it
abbrev pub invariant-loop-low : goal.invariant-loop-low
invariant-loop-low l = record {
  order : l.low ≤ l.high;
  within : l.high ≤ length l.self;
  before : (i : ℕ) (d : List ℕ × Node) → l.low ≡ i + 1 → path_cmp (get_or l.self i d).0 l.path ≡ Less;
  after : (d : List ℕ × Node) → l.high < length l.self → path_cmp (get_or l.self l.high d).0 l.path ≡ Greater;
}

abbrev pub decreases-loop-low : goal.decreases-loop-low
decreases-loop-low l = l.high - l.low
