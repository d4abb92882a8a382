use Rattle.std.proofs.Common.{◌≡◌, min, length, take, drop, sym, ◌∙◌, ap, arith, length-take}
use Rattle.elf_headers.specs.Reading.{known_content}
use Rattle.elf_dynamic.specs.Section.{bytes_of}
use Rattle.elf_dynamic.specs.Texts.{before_nul}
use Rattle.elf_dynamic.specs.Windows.{ready}
use Rattle.elf_dynamic.proofs.Known.{before}
use Rattle.elf_dynamic.proofs.Cursors.{on, by_headers}
use Rattle.elf_dynamic.proofs.Nuls.{ended_here, goes_on, front_of}
use Rattle.elf_dynamic.proofs.Windows.{next_part}
use Rattle.elf_dynamic.proofs.file.ElfFile.read_text.Goals as goal

pub returns-then-branch-clause-text : goal.returns-then-branch-clause-text
returns-then-branch-clause-text g c =
    let l = c.loop-left in
    let s = g.S.Store.state c.args.self.now.store.now in
    let w = c.hold.new.self in
    let part = c.from.result.now in
    let piece = c.front-piece.result.now in
    let size : length piece ≡ min l.left (length part) = ap length c.front-piece.ensures ∙ length-take l.left part in
    let through = c.in_ok-hold.ensures.reads in
    let read = next_part _ _ l.self.cursor.head w l.at part through.reads through.window c.from.ensures.part in
    let here = before (λ bytes. part ≡ take (ready w l.at) (drop l.at bytes)) _ _ l.invariant.reads.reads read in
    ended_here (known_content s) l.found.items piece c.from_vec.result l.at (length piece) l.left (λ bytes. before_nul (bytes_of c.args.place bytes)) (omega arith)
    (sym c.in_ok-add_text.ensures.ended ∙ c.if-branch.true) (c.from_vec.ensures ∙ c.in_ok-add_text.ensures.found)
    (front_of (known_content s) piece part l.at (ready w l.at) l.left c.front-piece.ensures here) l.invariant.rest

pub loop-left-preserved : goal.loop-left-preserved
loop-left-preserved g c =
    let l = c.loop-left in
    let s = g.S.Store.state c.args.self.now.store.now in
    let mid = g.S.Store.state l.self.store.now in
    let new = g.S.Store.state c.hold.new.store in
    let w = c.hold.new.self in
    let part = c.from.result.now in
    let piece = c.front-piece.result.now in
    let size : length piece ≡ min l.left (length part) = ap length c.front-piece.ensures ∙ length-take l.left part in
    let through = c.in_ok-hold.ensures.reads in
    let read = next_part _ _ l.self.cursor.head w l.at part through.reads through.window c.from.ensures.part in
    let here = before (λ bytes. part ≡ take (ready w l.at) (drop l.at bytes)) _ _ l.invariant.reads.reads read in
    record {
      same_store = l.invariant.same_store;
      reads = on s mid new _ _ _ l.invariant.reads (by_headers mid new l.self.cursor w l.invariant.reads.cursor through);
      section = l.invariant.section;
      within = omega arith;
      less = omega arith;
      rest = goes_on (known_content s) l.found.items piece c.add_text.new.found.items l.at (length piece) l.left (λ bytes. before_nul (bytes_of c.args.place bytes)) (omega arith)
          (sym c.in_ok-add_text.ensures.ended ∙ c.if-branch.false) c.in_ok-add_text.ensures.found
          (front_of (known_content s) piece part l.at (ready w l.at) l.left c.front-piece.ensures here) l.invariant.rest;
      taken = omega (arith, c.in_ok-hold.ensures.holds.taken, c.from.ensures.length);
    }
