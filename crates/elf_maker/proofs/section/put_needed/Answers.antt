use Rattle.std.proofs.Common.{◌≡◌, get_or, arith}
use Rattle.elf_maker.proofs.Steps.{size_step, entry_step, none_left}
use Rattle.elf_maker.proofs.section.put_needed.Goals as goal

pub loop-text-preserved : goal.loop-text-preserved
loop-text-preserved c =
    let texts = c.args.texts.now in
    let i = c.loop-text.text-index in
    let text = c.as_bytes.result.now in
    let item = c.text-item.is in
    let bytes = c.as_bytes.ensures in
    let is : text ≡ get_or texts i text = cc in
    let put = entry_step c.args.w c.loop-text.next i texts text _ _ (omega arith) is c.loop-text.invariant.put in
    record { put = rw c.in_ok-put_entry.ensures put; following = size_step c.loop-text.next _ i texts text (omega arith) is c.loop-text.invariant.following }

pub returns-clause-put : goal.returns-clause-put
returns-clause-put c = none_left c.args.w c.loop-text.next c.loop-text.text-index c.args.texts.now c.loop-text.out.items _ (omega arith) c.loop-text.invariant.put
