use Rattle.std.proofs.Common.{◌≡◌, Ok, ◌∙◌, length-take}
use Rattle.elf_headers.specs.Header.{head}
use Rattle.elf_headers.specs.Layout.{segment}
use Rattle.elf_headers.specs.Reading.{known_content}
use Rattle.elf_headers.proofs.Windows.{weaken_known, segment_read, least}
use Rattle.elf_headers.proofs.reader.segment_of_class.Goals as goal

pub returns-clause-segment : goal.returns-clause-segment
returns-clause-segment g c =
    let h = c.args.head.now in
    weaken_known {P = λ bytes. head bytes ≡ Ok h} {Q = λ bytes. c.segment.result ≡ segment g.row.W bytes c.args.index} (known_content (g.S.Store.state c.args.store.now))
    (λ bytes known is_head. c.segment.ensures ∙ segment_read g.row.W h _ _ _ c.args.index _ _ c.read_at.new.buf bytes c.requires.width c.in_ok-read_at.ensures c.requires.head c.requires.index (cc) (length-take _ _ ∙ least _ _ c.program_header_length-each.ensures) c.read_at.auto.buf known is_head)
    c.requires.head.content
