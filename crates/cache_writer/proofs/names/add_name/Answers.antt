use Rattle.std.proofs.Common.{◌∙◌, ap, map}
use Rattle.std.specs.BTreeSet.{insert_key}
use Rattle.std.specs.Cmp.Lexicographic.{slice_cmp}
use Rattle.std.specs.Ordering.{nat_cmp}
use Rattle.cache_writer.proofs.Sorted.{inserted}
use Rattle.cache_writer.proofs.names.add_name.Goals as goal

pub returns-in_ok-insert : goal.returns-in_ok-insert
returns-in_ok-insert c =
    rw c.in-Some.is (ap (map (λ name. name.now)) c.in_ok-insert.ensures.keys ∙ inserted c.args.names.now.keys c.as_bytes.result
    ∙ ap (insert_key (slice_cmp nat_cmp) (map (λ name. name.now) c.args.names.now.keys)) c.as_bytes.ensures)
