use Rattle.std.proofs.Common.{◌++◌, ◌∙◌, [], ◌∷◌, ap, codes, sym}
use Rattle.std.specs.Fmt.{decimal}
use Rattle.update_report.proofs.Numbers.{ended}
use Rattle.update_report.proofs.lines.put_last_line.Goals as goal

pub returns : goal.returns
returns c =
    c.in_ok-extend_from_slice.ensures.items
    ∙ ap (λ text. c.args.out.now.items ++ text)
    (c.as_bytes.ensures.value
    ∙ c.in_ok-line.ensures.ok
    ∙ sym (ended (decimal c.args.entries) (codes " libs, ") (decimal c.args.links) (codes " links, ") (decimal c.args.opened) (codes " files opened") (10 ∷ [])))
