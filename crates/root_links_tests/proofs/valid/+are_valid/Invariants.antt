use Rattle.std.proofs.Common.{length}
use Rattle.root_links_tests.proofs.valid.+are_valid.Given as goal

-- how many links are left
abbrev pub decreases-are_valid : goal.decreases-are_valid
decreases-are_valid l = length l.links.now
