use Rattle.std.proofs.Common.{◌≡◌, ◌≤◌, ◌+◌, take, drop, ap, ◌∙◌, arith}
use Rattle.lib_types.specs.Bytes.{field}
use Rattle.lib_types.proofs.Fields.{field_window}
use Rattle.elf_dynamic.specs.Windows.{ready}
use Rattle.elf_dynamic.proofs.Known.{with}
use Rattle.elf_dynamic.proofs.Windows.{next_part}
use Rattle.elf_dynamic.proofs.file.ElfFile.number_at.Goals as goal

pub returns-clause-number : goal.returns-clause-number
returns-clause-number g c =
    let w = c.hold.new.self in
    let at = c.args.place.at + c.args.offset in
    let n = c.args.size in
    let front = c.from.result.now in
    let h = c.in_ok-hold.ensures in
    let enough : n ≤ ready w at = h.holds.enough in
    with {P = λ bytes. front ≡ take (ready w at) (drop at bytes)} {Q = λ bytes. c.read_uint.result ≡ field bytes at n} _
    (next_part _ _ c.args.self.now.cursor.head w at front h.reads.reads h.reads.window c.from.ensures.part)
    (λ bytes here. c.read_uint.ensures ∙ ap (λ xs. field xs 0 n) here ∙ field_window (ready w at) at 0 at n bytes (omega (arith, enough)) (omega arith))
