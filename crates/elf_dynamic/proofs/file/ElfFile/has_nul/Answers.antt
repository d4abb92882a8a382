use Rattle.std.proofs.Common.{◌≡◌, ◌+◌, ◌-◌, min, length, take, drop, ◌∙◌, ap, arith, length-take}
use Rattle.std.specs.List.{list_any}
use Rattle.elf_headers.specs.Reading.{known_content}
use Rattle.elf_dynamic.specs.Section.{bytes_of, is_nul}
use Rattle.elf_dynamic.specs.Windows.{ready}
use Rattle.elf_dynamic.proofs.Known.{before}
use Rattle.elf_dynamic.proofs.Cursors.{on, by_headers}
use Rattle.elf_dynamic.proofs.Nuls.{some_nul, nul_here, nul_on, front_of}
use Rattle.elf_dynamic.proofs.Windows.{next_part}
use Rattle.elf_dynamic.proofs.file.ElfFile.has_nul.Goals as goal

pub returns-then-is_some-clause-nul : goal.returns-then-is_some-clause-nul
returns-then-is_some-clause-nul g c =
    let l = c.loop-at in
    let s = g.S.Store.state c.args.self.now.store.now in
    let w = c.hold.new.self in
    let end = c.args.place.at + c.args.place.size in
    let part = c.from.result.now in
    let piece = c.front-piece.result.now in
    let left = end - l.at in
    let size : length piece ≡ min left (length part) = ap length c.front-piece.ensures ∙ length-take left part in
    let through = c.in_ok-hold.ensures.reads in
    let read = next_part _ _ l.self.cursor.head w l.at part through.reads through.window c.from.ensures.part in
    let here = before (λ bytes. part ≡ take (ready w l.at) (drop l.at bytes)) _ _ l.invariant.reads.reads read in
    nul_here (known_content s) piece l.at (length piece) end (λ bytes. list_any is_nul (bytes_of c.args.place bytes)) (omega (arith, size))
    (some_nul piece c.find_byte.result c.is_some.result c.find_byte.ensures.index c.is_some.ensures ∙ c.if-is_some.true)
    (front_of (known_content s) piece part l.at (ready w l.at) left c.front-piece.ensures here) l.invariant.rest

pub loop-at-preserved : goal.loop-at-preserved
loop-at-preserved g c =
    let l = c.loop-at in
    let s = g.S.Store.state c.args.self.now.store.now in
    let mid = g.S.Store.state l.self.store.now in
    let new = g.S.Store.state c.hold.new.store in
    let w = c.hold.new.self in
    let end = c.args.place.at + c.args.place.size in
    let part = c.from.result.now in
    let piece = c.front-piece.result.now in
    let left = end - l.at in
    let size : length piece ≡ min left (length part) = ap length c.front-piece.ensures ∙ length-take left part in
    let through = c.in_ok-hold.ensures.reads in
    let read = next_part _ _ l.self.cursor.head w l.at part through.reads through.window c.from.ensures.part in
    let here = before (λ bytes. part ≡ take (ready w l.at) (drop l.at bytes)) _ _ l.invariant.reads.reads read in
    record {
      same_store = l.invariant.same_store;
      reads = on s mid new _ _ _ l.invariant.reads (by_headers mid new l.self.cursor w l.invariant.reads.cursor through);
      section = l.invariant.section;
      begins = omega (arith, l.invariant.begins);
      ends = omega (arith, size, l.invariant.ends);
      rest = nul_on (known_content s) piece l.at (length piece) end (λ bytes. list_any is_nul (bytes_of c.args.place bytes)) (omega (arith, size))
          (some_nul piece c.find_byte.result c.is_some.result c.find_byte.ensures.index c.is_some.ensures ∙ c.if-is_some.false)
          (front_of (known_content s) piece part l.at (ready w l.at) left c.front-piece.ensures here) l.invariant.rest;
      taken = omega (arith, size, c.in_ok-hold.ensures.holds.taken, c.from.ensures.length);
    }
