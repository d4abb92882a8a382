use Rattle.std.proofs.Common.{◌≡◌, find, refl, subst, arith, Some}
use Rattle.elf_dynamic.proofs.Found.{found_in, here_known, next_known}
use Rattle.elf_headers.specs.Layout.{segment, segments, word_size}
use Rattle.elf_interpreter.proofs.OpenFile.{keeps_on, on, same_content}
use Rattle.elf_interpreter.specs.Interpreter.{is_interpreter}
use Rattle.elf_interpreter.proofs.reader.find_segment.Goals as goal
use Rattle.tree_face.proofs.StoreUse.{reads_none}
use Rattle.tree_face.specs.Known.{IfKnown}
use Rattle.tree_face.specs.StoreUse.{Complete}

pub loop-index-init : goal.loop-index-init
loop-index-init g c = record {
  begun_head = c.requires.head;
  keeps = record { key = refl; content = refl; size = refl };
  reads = reads_none _ _ _;
  rest = found_in _ c.args.head.now is_interpreter c.requires.head.content;
}

pub loop-index-preserved : goal.loop-index-preserved
loop-index-preserved g c =
    let s = g.S.Store.state c.args.store.now in
    let l = c.loop-index in
    let mid = g.S.Store.state l.store in
    let new = g.S.Store.state c.segment.new.store in
    let h = c.args.head.now in
    let e = c.in_ok-s.ensures in
    record {
      begun_head = e.begun_head;
      keeps = keeps_on s mid new l.invariant.keeps e.keeps;
      reads = on (Some 56) Complete s mid new l.invariant.reads e.reads;
      rest = next_known _ is_interpreter (word_size h.wide) l.index h.phnum c.in_ok-s.s (λ bytes. find is_interpreter (segments (word_size h.wide) bytes)) (omega arith) (cc)
          (subst (λ o. IfKnown o (λ bytes. c.in_ok-s.s ≡ segment (word_size h.wide) bytes l.index)) (same_content s mid l.invariant.reads.held l.invariant.keeps) e.segment) l.invariant.rest;
    }

pub returns-then-is_interpreter-clause-found : goal.returns-then-is_interpreter-clause-found
returns-then-is_interpreter-clause-found g c =
    let s = g.S.Store.state c.args.store.now in
    let l = c.loop-index in
    let mid = g.S.Store.state l.store in
    let h = c.args.head.now in
    here_known _ is_interpreter (word_size h.wide) l.index h.phnum c.in_ok-s.s (λ bytes. find is_interpreter (segments (word_size h.wide) bytes)) (omega arith) (cc)
    (subst (λ o. IfKnown o (λ bytes. c.in_ok-s.s ≡ segment (word_size h.wide) bytes l.index)) (same_content s mid l.invariant.reads.held l.invariant.keeps) c.in_ok-s.ensures.segment) l.invariant.rest
