use Rattle.std.proofs.Common.{◌≡◌, ◌+◌, ◌-◌, ◌*◌, arith}
use Rattle.elf_headers.specs.Layout.{word_size}
use Rattle.elf_dynamic.specs.Windows.{ready}
use Rattle.elf_dynamic.proofs.Windows.{ready_on}
use Rattle.elf_dynamic.proofs.entries.Entries.hold.Goals as goal

pub returns-then-self-each-clause-left : goal.returns-then-self-each-clause-left
returns-then-self-each-clause-left g c =
    let o = c.args.self.now in
    let w = c.args.file.now.cursor.section in
    let on : ready w (o.end - o.left + 2 * word_size o.wide) ≡ ready w (o.end - o.left) - 2 * word_size o.wide =
    ready_on w (o.end - o.left) (2 * word_size o.wide) (omega (arith, c.requires.reader.ready)) in
    record { taken = omega arith; left = omega arith }
