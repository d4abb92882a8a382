use Rattle.std.proofs.Common.{◌≡◌, ◌≤◌, ◌+◌, sym, ap, arith}
use Rattle.elf_headers.specs.Layout.{word_size, program_header_length}
use Rattle.elf_dynamic.specs.Windows.{ready, header_at}
use Rattle.elf_dynamic.proofs.Found.{segment_known}
use Rattle.elf_dynamic.proofs.Windows.{next_part}
use Rattle.elf_dynamic.proofs.file.ElfFile.read_segment.Goals as goal

pub returns-clause-segment : goal.returns-clause-segment
returns-clause-segment g c =
    let h = c.args.self.now.cursor.head in
    let w = c.hold.new.self in
    let at = header_at h c.args.index in
    let place : c.header_at-at.result ≡ at = c.header_at-at.ensures in
    let enough : program_header_length (word_size h.wide) ≤ ready w at = omega (arith, c.in_ok-hold.ensures.holds.enough, c.header_length-each.ensures, ap (ready w) place) in
    segment_known _ h c.args.index (ready w at) c.from.result.now c.segment_of.result enough c.segment_of.ensures c.requires.cursor.head.content
    (next_part _ _ h w at c.from.result.now c.in_ok-hold.ensures.reads.reads c.in_ok-hold.ensures.reads.window (rw (sym place) c.from.ensures.part))

pub returns-clause-left : goal.returns-clause-left
returns-clause-left g c =
    let h = c.args.self.now.cursor.head in
    let first = c.args.self.now.cursor.headers in
    let at = c.header_at-at.result in
    let after = at + c.header_length-each.result in
    let place : at ≡ header_at h c.args.index = c.header_at-at.ensures in
    let next : after ≡ header_at h (c.args.index + 1) = omega (arith, place, c.header_length-each.ensures) in
    let end_is : c.header_at-end.result ≡ header_at h h.phnum = c.header_at-end.ensures in
    let ready_before : ready first at ≡ ready first (header_at h c.args.index) = ap (ready first) place in
    let ready_after : ready c.hold.new.self after ≡ ready c.hold.new.self (header_at h (c.args.index + 1)) = ap (ready c.hold.new.self) next in
    let left = c.in_ok-hold.ensures.holds.left in
    record {
      taken = omega (arith, left.taken, place, next, end_is, ready_before, ready_after);
      left = omega (arith, left.left, place, next, end_is, ready_before, ready_after);
    }
