use Rattle.std.proofs.Common.{◌≡◌, ◌+◌, find, refl, subst, arith, ◌∙◌}
use Rattle.elf_headers.specs.Layout.{word_size, segment, segments}
use Rattle.elf_headers.specs.Reading.{OfKnown}
use Rattle.elf_dynamic.specs.Wanted.{is_wanted}
use Rattle.elf_dynamic.specs.Windows.{Lessens, unread_from}
use Rattle.elf_dynamic.proofs.Known.{before}
use Rattle.elf_dynamic.proofs.Cursors.{on, unmoved}
use Rattle.elf_dynamic.proofs.Found.{found_in, next_known, here_known, unread_first}
use Rattle.elf_dynamic.proofs.file.ElfFile.find_segment.Goals as goal

pub loop-index-init : goal.loop-index-init
loop-index-init g c =
    let f = c.args.self.now.cursor in
    record {
      same_store = refl;
      reads = unmoved _ _ c.requires.cursor;
      section = refl;
      rest = found_in _ f.head (is_wanted c.args.wanted) c.requires.cursor.head.content;
      still = unread_first f.headers f.head;
      taken = omega arith;
    }

pub loop-index-preserved : goal.loop-index-preserved
loop-index-preserved g c =
    let s = g.S.Store.state c.args.self.now.store.now in
    let l = c.loop-index in
    let mid = g.S.Store.state l.self.store.now in
    let new = g.S.Store.state c.read_segment.new.self.store.now in
    let h = c.args.self.now.cursor.head in
    let p = is_wanted c.args.wanted in
    let e = c.in_ok-s.ensures in
    let here = subst (λ h. OfKnown mid (λ bytes. c.in_ok-s.s ≡ segment (word_size h.wide) bytes l.index)) l.invariant.reads.head e.segment in
    let left = subst (λ h. Lessens (unread_from l.self.cursor.headers h l.index) (unread_from c.read_segment.new.self.cursor.headers h (l.index + 1)) mid new) l.invariant.reads.head e.left in
    record {
      same_store = e.same_store ∙ l.invariant.same_store;
      reads = on s mid new c.args.self.now.cursor l.self.cursor c.read_segment.new.self.cursor l.invariant.reads e.reads;
      section = e.section ∙ l.invariant.section;
      rest = next_known _ p (word_size h.wide) l.index h.phnum c.in_ok-s.s (λ bytes. find p (segments (word_size h.wide) bytes)) (omega arith) (cc)
          (before (λ bytes. c.in_ok-s.s ≡ segment (word_size h.wide) bytes l.index) _ _ l.invariant.reads.reads here) l.invariant.rest;
      still = omega (arith, l.invariant.still, left.left);
      taken = omega (arith, l.invariant.still, l.invariant.taken, left.left, left.taken);
    }

pub returns-then-is_wanted-clause-found : goal.returns-then-is_wanted-clause-found
returns-then-is_wanted-clause-found g c =
    let l = c.loop-index in
    let mid = g.S.Store.state l.self.store.now in
    let h = c.args.self.now.cursor.head in
    let p = is_wanted c.args.wanted in
    let here = subst (λ h. OfKnown mid (λ bytes. c.in_ok-s.s ≡ segment (word_size h.wide) bytes l.index)) l.invariant.reads.head c.in_ok-s.ensures.segment in
    here_known _ p (word_size h.wide) l.index h.phnum c.in_ok-s.s (λ bytes. find p (segments (word_size h.wide) bytes)) (omega arith) (cc)
    (before (λ bytes. c.in_ok-s.s ≡ segment (word_size h.wide) bytes l.index) _ _ l.invariant.reads.reads here) l.invariant.rest
