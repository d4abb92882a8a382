use Rattle.std.proofs.Common.{refl, ap, arith, ◌∙◌}
use Rattle.elf_headers.specs.Layout.{word_size}
use Rattle.elf_headers.specs.Reading.{known_content}
use Rattle.elf_dynamic.specs.Section.{dynamic_entries}
use Rattle.elf_dynamic.specs.Entries.{rest_of, MovesOn}
use Rattle.elf_dynamic.specs.Values.{values_of}
use Rattle.elf_dynamic.proofs.Known.{at_some}
use Rattle.elf_dynamic.proofs.Cursors.{on, unmoved}
use Rattle.elf_dynamic.proofs.Joined.{joined_first, joined_known, one_text}
use Rattle.elf_dynamic.proofs.Live.{opened, begun, begun_unread, next_before}
use Rattle.elf_dynamic.proofs.values.read_values.Goals as goal

pub loop-entry-init : goal.loop-entry-init
loop-entry-init g c =
    let s = g.S.Store.state c.args.file.now.store.now in
    let f = c.args.file.now.cursor in
    let h = f.head in
    let d = c.args.dynamic in
    let r = c.new-entries.result in
    let new = c.new-entries.ensures in
    let all = begun_unread h d r f.section new in
    record {
      same_store = refl;
      reads = unmoved _ _ c.requires.cursor;
      reader = opened f d r new c.requires.within;
      rest = joined_first (known_content s) c.none-values.result (rest_of r) (λ bytes. dynamic_entries (word_size h.wide) bytes d) c.none-values.ensures
          (begun (known_content s) h d r new);
      few = let none = ap (λ v. v.texts) c.none-values.ensures in let left = ap (λ x. x.left) new in omega (arith, none, left);
      still = omega arith;
      taken = omega arith;
    }

pub loop-entry-preserved : goal.loop-entry-preserved
loop-entry-preserved g c =
    let s = g.S.Store.state c.args.file.now.store.now in
    let l = c.loop-entry in
    let mid = g.S.Store.state l.file.store.now in
    let new = g.S.Store.state c.next.new.file.store.now in
    let h = c.args.file.now.cursor.head in
    let d = c.args.dynamic in
    let e = c.in_ok-entry.ensures in
    let r = c.next.new.self in
    let moves = at_some (λ _. MovesOn l.file.cursor c.next.new.file.cursor l.entries r mid new) _ _ c.in-Some.is e.moves in
    record {
      same_store = e.same_store ∙ l.invariant.same_store;
      reads = on s mid new c.args.file.now.cursor l.file.cursor c.next.new.file.cursor l.invariant.reads e.reads;
      reader = e.reader;
      rest = joined_known (known_content s) l.values c.with-values.result c.in-Some.entry (rest_of l.entries) (rest_of r)
          (λ bytes. values_of (dynamic_entries (word_size h.wide) bytes d)) c.with-values.ensures
          (next_before _ _ l.entries r c.in-Some.entry _ l.invariant.reads.reads c.in-Some.is e.entry) l.invariant.rest;
      few = let few = l.invariant.few in let more = ap (λ v. v.texts) c.with-values.ensures in let one = one_text c.in-Some.entry in omega (arith, few, more, one, moves.fewer);
      still = omega (arith, l.invariant.still, moves.left.left);
      taken = omega (arith, l.invariant.still, l.invariant.taken, moves.left.left, moves.left.taken);
    }
