use Rattle.std.proofs.Common.{◌≡◌, ◌∷◌, true, Some, rules}
use Rattle.std.specs.List.{filter_map}
use Rattle.file_table.specs.Table.{analysis_at}
use Rattle.cache_entries.specs.Winner.{linked}
use Rattle.cache_entries.proofs.Others.{among_both, link_less, passed_among}
use Rattle.cache_entries.proofs.reached.reached_libraries.Goals as goal

pub loop-link-preserved-else-not-is_passed : goal.loop-link-preserved-else-not-is_passed
loop-link-preserved-else-not-is_passed c =
    let files = c.args.files.now in
    let f = linked (analysis_at c.args.table.now) in
    let library = c.in-Some-linked.library in
    let passes : c.is_passed.result ≡ true = search rules in
    let first : c.loop-link.link-iterator ≡ c.in-Some.link ∷ c.next.new.self = search rules in
    let leads : f c.in-Some.link ≡ Some library = search rules in
    let among = c.loop-link.invariant.1 in (
      link_less f files (filter_map f c.args.links.now) c.loop-link.kept.items c.loop-link.link-iterator c.next.new.self c.in-Some.link library first leads
          (passed_among c.loop-link.left files library among (c.is_passed.ensures.passed passes)) c.loop-link.invariant.0,
      among_both c.is_passed.new.left c.loop-link.left files c.is_passed.ensures.left among,
    )
