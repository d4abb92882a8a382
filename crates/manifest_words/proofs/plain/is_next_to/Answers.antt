use Rattle.std.proofs.Common.{sym, ◌∙◌, arith}
use Rattle.manifest_words.proofs.NextTo.{plain_next_to}
use Rattle.manifest_words.proofs.plain.is_next_to.Goals as goal

pub returns-then-is_short : goal.returns-then-is_short
returns-then-is_short c above =
    plain_next_to c.args.known.now c.args.path.now c.in-Some.folder.now c.in-Some.name.now c.requires.known c.in-Some.ensures.parts c.in-Some.ensures.own
    (sym c.is_short.ensures ∙ c.if-is_short.true) (c.is_above.ensures above) (omega arith)
