use Rattle.std.proofs.Common.{◌≡◌, ℕ, List, ◌*◌, Ok, Err, refl, ap, sym, subst, arith, ◌∙◌}
use Rattle.elf_headers.specs.Layout.{word_size}
use Rattle.elf_headers.specs.Reading.{known_content, OfKnown}
use Rattle.elf_dynamic.specs.declared.kinds.Place.{Place}
use Rattle.elf_dynamic.specs.Kept.{kept, kept_of}
use Rattle.elf_dynamic.specs.Section.{bytes_of, dynamic_entries}
use Rattle.elf_dynamic.specs.Entries.{rest_of, MovesOn, unread_in}
use Rattle.elf_dynamic.specs.Faults.{IfBad}
use Rattle.elf_dynamic.specs.Texts.{add_one, gathered}
use Rattle.elf_dynamic.specs.Windows.{Lessens}
use Rattle.elf_dynamic.specs.Values.{texts_in, values_of}
use Rattle.elf_dynamic.proofs.Known.{before, same, at_some, with}
use Rattle.elf_dynamic.proofs.Cursors.{on, unmoved, reader_after}
use Rattle.elf_dynamic.proofs.Live.{opened, begun, begun_unread, next_before}
use Rattle.elf_dynamic.proofs.Gathered.{rests_first, rests_on, fault_on, rests_done, left_first, left_on, stays_first, stays_on, stays_fault, stays_end}
use Rattle.elf_dynamic.proofs.gather.gather.Goals as goal

pub loop-entry-init : goal.loop-entry-init
loop-entry-init g c =
    let s = g.S.Store.state c.args.file.now.store.now in
    let f = c.args.file.now.cursor in
    let h = f.head in
    let d = c.args.dynamic in
    let r = c.new-entries.result in
    let new = c.new-entries.ensures in
    let unread_is = begun_unread h d r f.section new in
    let table = bytes_of f.strings in
    let all = λ (bytes : List ℕ). dynamic_entries (word_size h.wide) bytes d in
    let first = c.args.found.now in
    let same = begun (known_content s) h d r new in
    let texts = with {P = λ bytes. c.args.values ≡ values_of (all bytes)} {Q = λ bytes. c.args.values.texts ≡ texts_in (all bytes)} (known_content s) c.requires.texts.values (λ bytes e. ap (λ v. v.texts) e) in
    record {
      same_store = refl;
      reads = unmoved s f c.requires.cursor;
      reader = opened f d r new c.requires.texts.inside;
      rest = rests_first c.args.keep (known_content s) table (rest_of r) all first first refl same;
      left = left_first (known_content s) c.args.values.texts (rest_of r) all same texts;
      still = omega arith;
      taken = stays_first (known_content s) s (2 * d.filesz) (unread_in f.section r) table (rest_of r) all first first refl same;
    }

pub loop-entry-preserved : goal.loop-entry-preserved
loop-entry-preserved g c =
    let s = g.S.Store.state c.args.file.now.store.now in
    let l = c.loop-entry in
    let start = g.S.Store.state l.file.store.now in
    let mid = g.S.Store.state c.next.new.file.store.now in
    let new = g.S.Store.state c.add.new.file.store.now in
    let f = c.args.file.now.cursor in
    let d = c.args.dynamic in
    let entry = c.in-Some.entry in
    let r = c.next.new.self in
    let e = c.in_ok-entry.ensures in
    let a = c.in-Ok.ensures in
    let table = bytes_of f.strings in
    let all = λ (bytes : List ℕ). dynamic_entries (word_size f.head.wide) bytes d in
    let first = c.args.found.now in
    let moves = at_some (λ _. MovesOn l.file.cursor c.next.new.file.cursor l.entries r start mid) _ _ c.in-Some.is e.moves in
    let less = subst (λ w. Lessens (unread_in l.file.cursor.section l.entries) (unread_in w r) start mid) (sym a.section) moves.left in
    let next = next_before _ _ l.entries r entry _ l.invariant.reads.reads c.in-Some.is e.entry in
    let to = on s start mid f l.file.cursor c.next.new.file.cursor l.invariant.reads e.reads in
    let added = before (λ bytes. kept_of c.args.keep (add_one (table bytes) l.found entry) ≡ Ok (kept c.args.keep c.add.new.found)) s mid to.reads
    (subst (λ (t : Place). OfKnown mid (λ bytes. kept_of c.args.keep (add_one (bytes_of t bytes) l.found entry) ≡ Ok (kept c.args.keep c.add.new.found))) to.strings a.added) in
    record {
      same_store = a.same_store ∙ e.same_store ∙ l.invariant.same_store;
      reads = on s mid new f c.next.new.file.cursor c.add.new.file.cursor to a.reads;
      reader = reader_after c.next.new.file.cursor c.add.new.file.cursor r e.reader a.section a.reads.head;
      rest = rests_on c.args.keep (known_content s) table (rest_of l.entries) (rest_of r) (λ bytes. gathered (table bytes) first (all bytes)) l.found c.add.new.found entry next added l.invariant.rest;
      left = left_on (known_content s) l.left c.left_after-left.result entry (rest_of l.entries) (rest_of r) c.left_after-left.ensures next l.invariant.left;
      still = omega (arith, less.left, l.invariant.still);
      taken = stays_on c.args.keep (known_content s) s start mid new (2 * d.filesz) (unread_in l.file.cursor.section l.entries) (unread_in c.add.new.file.cursor.section r) table (rest_of l.entries) (rest_of r) all l.found c.add.new.found first entry
          l.invariant.taken next added l.invariant.still less.left less.taken a.taken;
    }

pub returns-in-Err-clause-bad : goal.returns-in-Err-clause-bad
returns-in-Err-clause-bad g c =
    let s = g.S.Store.state c.args.file.now.store.now in
    let l = c.loop-entry in
    let start = g.S.Store.state l.file.store.now in
    let mid = g.S.Store.state c.next.new.file.store.now in
    let f = c.args.file.now.cursor in
    let fault = c.in-Err.fault in
    let entry = c.in-Some.entry in
    let r = c.next.new.self in
    let e = c.in_ok-entry.ensures in
    let table = bytes_of f.strings in
    let all = λ (bytes : List ℕ). gathered (table bytes) c.args.found.now (dynamic_entries (word_size f.head.wide) bytes c.args.dynamic) in
    let next = next_before _ _ l.entries r entry _ l.invariant.reads.reads c.in-Some.is e.entry in
    let to = on s start mid f l.file.cursor c.next.new.file.cursor l.invariant.reads e.reads in
    fault_on c.args.keep (known_content s) (known_content mid) table (rest_of l.entries) (rest_of r) all l.found entry fault (same s mid to.reads) next l.invariant.rest
    (subst (λ (t : Place). IfBad {X = Unit {0}} (Err fault) (λ d. OfKnown mid (λ bytes. add_one (bytes_of t bytes) l.found entry ≡ Err d))) to.strings c.in-Err.ensures.bad)

pub returns-in-Err-clause-taken : goal.returns-in-Err-clause-taken
returns-in-Err-clause-taken g c =
    let s = g.S.Store.state c.args.file.now.store.now in
    let l = c.loop-entry in
    let start = g.S.Store.state l.file.store.now in
    let mid = g.S.Store.state c.next.new.file.store.now in
    let new = g.S.Store.state c.add.new.file.store.now in
    let f = c.args.file.now.cursor in
    let d = c.args.dynamic in
    let entry = c.in-Some.entry in
    let r = c.next.new.self in
    let e = c.in_ok-entry.ensures in
    let all = λ (bytes : List ℕ). dynamic_entries (word_size f.head.wide) bytes d in
    let moves = at_some (λ _. MovesOn l.file.cursor c.next.new.file.cursor l.entries r start mid) _ _ c.in-Some.is e.moves in
    let next = next_before _ _ l.entries r entry _ l.invariant.reads.reads c.in-Some.is e.entry in
    stays_fault (known_content s) s start mid new (2 * d.filesz) (unread_in l.file.cursor.section l.entries) (unread_in c.next.new.file.cursor.section r) (bytes_of f.strings) (rest_of l.entries) (rest_of r) all l.found
    c.args.found.now entry l.invariant.taken next l.invariant.still moves.left.left moves.left.taken c.add.ensures.taken

-- all texts are gathered
pub returns-then-left-eq0-clause-gathered : goal.returns-then-left-eq0-clause-gathered
returns-then-left-eq0-clause-gathered g c =
    let s = g.S.Store.state c.args.file.now.store.now in
    let l = c.loop-entry in
    let start = g.S.Store.state l.file.store.now in
    let mid = g.S.Store.state c.next.new.file.store.now in
    let f = c.args.file.now.cursor in
    let entry = c.in-Some.entry in
    let r = c.next.new.self in
    let e = c.in_ok-entry.ensures in
    let table = bytes_of f.strings in
    let all = λ (bytes : List ℕ). gathered (table bytes) c.args.found.now (dynamic_entries (word_size f.head.wide) bytes c.args.dynamic) in
    let next = next_before _ _ l.entries r entry _ l.invariant.reads.reads c.in-Some.is e.entry in
    let to = on s start mid f l.file.cursor c.next.new.file.cursor l.invariant.reads e.reads in
    let added = before (λ bytes. kept_of c.args.keep (add_one (table bytes) l.found entry) ≡ Ok (kept c.args.keep c.add.new.found)) s mid to.reads
    (subst (λ (t : Place). OfKnown mid (λ bytes. kept_of c.args.keep (add_one (bytes_of t bytes) l.found entry) ≡ Ok (kept c.args.keep c.add.new.found))) to.strings c.in-Ok.ensures.added) in
    let rest = rests_on c.args.keep (known_content s) table (rest_of l.entries) (rest_of r) all l.found c.add.new.found entry next added l.invariant.rest in
    rests_done c.args.keep (known_content s) table c.left_after-left.result (rest_of r) all c.add.new.found c.if-left-eq0.true
    (left_on (known_content s) l.left c.left_after-left.result entry (rest_of l.entries) (rest_of r) c.left_after-left.ensures next l.invariant.left) rest

pub returns-then-left-eq0-clause-taken : goal.returns-then-left-eq0-clause-taken
returns-then-left-eq0-clause-taken g c =
    let s = g.S.Store.state c.args.file.now.store.now in
    let l = c.loop-entry in
    let start = g.S.Store.state l.file.store.now in
    let mid = g.S.Store.state c.next.new.file.store.now in
    let new = g.S.Store.state c.add.new.file.store.now in
    let f = c.args.file.now.cursor in
    let d = c.args.dynamic in
    let entry = c.in-Some.entry in
    let r = c.next.new.self in
    let e = c.in_ok-entry.ensures in
    let table = bytes_of f.strings in
    let all = λ (bytes : List ℕ). dynamic_entries (word_size f.head.wide) bytes d in
    let first = c.args.found.now in
    let moves = at_some (λ _. MovesOn l.file.cursor c.next.new.file.cursor l.entries r start mid) _ _ c.in-Some.is e.moves in
    let next = next_before _ _ l.entries r entry _ l.invariant.reads.reads c.in-Some.is e.entry in
    let to = on s start mid f l.file.cursor c.next.new.file.cursor l.invariant.reads e.reads in
    let added = before (λ bytes. kept_of c.args.keep (add_one (table bytes) l.found entry) ≡ Ok (kept c.args.keep c.add.new.found)) s mid to.reads
    (subst (λ (t : Place). OfKnown mid (λ bytes. kept_of c.args.keep (add_one (bytes_of t bytes) l.found entry) ≡ Ok (kept c.args.keep c.add.new.found))) to.strings c.in-Ok.ensures.added) in
    let unread = unread_in c.next.new.file.cursor.section r in
    stays_end (known_content s) s new new (2 * d.filesz) unread table (rest_of r) all c.add.new.found first
    (stays_on c.args.keep (known_content s) s start mid new (2 * d.filesz) (unread_in l.file.cursor.section l.entries) unread table (rest_of l.entries) (rest_of r) all l.found c.add.new.found first entry
    l.invariant.taken next added l.invariant.still moves.left.left moves.left.taken c.in-Ok.ensures.taken)
    (omega (arith, moves.left.left, l.invariant.still)) (omega arith)
