use Rattle.std.proofs.Common.{refl, ◌≡◌, Ok, Err, sym, ap, subst, rules}
use Rattle.tree_face.specs.Known.{IfKnown}
use Rattle.elf_headers.specs.Layout.{word_size}
use Rattle.lib_types.specs.Ranges.{IsInRange}
use Rattle.elf_headers.specs.Reading.{known_content, OfKnown, TakesAtMost}
use Rattle.elf_dynamic.specs.Faults.{IfBad}
use Rattle.elf_dynamic.specs.Kept.{kept, kept_of}
use Rattle.elf_dynamic.specs.Section.{bytes_of, dynamic_entries}
use Rattle.elf_dynamic.specs.Sections.{section_in}
use Rattle.elf_dynamic.specs.Taken.{most_gathered}
use Rattle.elf_dynamic.specs.Texts.{gathered}
use Rattle.elf_dynamic.proofs.Cursors.{given_strings}
use Rattle.elf_dynamic.proofs.Known.{same, before}
use Rattle.elf_dynamic.proofs.Memory.{fault_is, texts_known}
use Rattle.elf_dynamic.proofs.Sections.{table_fault, text_fault, texts_taken_by, known_bad_name, known_good, flagged}
use Rattle.elf_dynamic.proofs.section.read_texts.Goals as goal

pub returns-in-Err-clause-fault : goal.returns-in-Err-clause-fault
returns-in-Err-clause-fault g c =
    let t = c.requires.texts in
    record {
      bad = table_fault c.args.keep (known_content (g.S.Store.state c.args.file.now.store.now)) (word_size c.args.file.now.cursor.head.wide) c.args.dynamic c.args.values c.in-Err.fault t.values t.some c.in-Err.ensures.bad;
      range = search rules;
      no_memory = λ none. absurd (c.in-Err.ensures.no_memory (fault_is _ _ _ _ none));
    }

pub returns-in-Err-gather-clause-fault : goal.returns-in-Err-gather-clause-fault
returns-in-Err-gather-clause-fault g c =
    let s = g.S.Store.state c.args.file.now.store.now in
    let mid = g.S.Store.state c.find_strings.new.file.store.now in
    let h = c.args.file.now.cursor.head in
    let d = c.args.dynamic in
    let fault = c.in-Err-gather.fault in
    let first = c.args.found.now in
    let t = c.requires.texts in
    let bad = given_strings (λ s h p. IfBad {X = Unit {0}} (Err fault) (λ x. OfKnown s (λ bytes. gathered (bytes_of p bytes) first (dynamic_entries (word_size h.wide) bytes d) ≡ Err x)))
    _ mid _ c.find_strings.new.file.cursor h c.in-Ok.strings (ap (λ r. g.S.Store.state r.now) c.set_strings.ensures.same_store) c.set_strings.ensures.strings c.in-Ok.ensures.reads.head c.in-Err-gather.ensures.bad in
    record {
      bad = text_fault c.args.keep (known_content s) (known_content mid) (word_size h.wide) d c.args.values (bytes_of c.in-Ok.strings) first fault (same s mid c.in-Ok.ensures.reads.reads)
          c.requires.first t.values t.some c.in-Ok.ensures.found.bytes bad;
      range = search rules;
      no_memory = λ none. texts_known (known_content s) (word_size h.wide) d c.args.values (bytes_of c.in-Ok.strings) t.values t.some c.in-Ok.ensures.found.bytes;
    }

pub returns-in-Err-gather-clause-taken : goal.returns-in-Err-gather-clause-taken
returns-in-Err-gather-clause-taken g c =
    let s = g.S.Store.state c.args.file.now.store.now in
    let mid = g.S.Store.state c.find_strings.new.file.store.now in
    let new = g.S.Store.state c.gather.new.file.store.now in
    let h = c.args.file.now.cursor.head in
    let first = c.args.found.now in
    let taken = given_strings (λ s h p. OfKnown s (λ bytes. TakesAtMost (most_gathered (bytes_of p bytes) first (word_size h.wide) bytes c.args.dynamic) s new))
    _ mid _ c.find_strings.new.file.cursor h c.in-Ok.strings (ap (λ r. g.S.Store.state r.now) c.set_strings.ensures.same_store) c.set_strings.ensures.strings c.in-Ok.ensures.reads.head c.gather.ensures.taken in
    texts_taken_by s mid new _ _ _ c.args.dynamic _ first c.in-Ok.strings c.requires.first c.in-Ok.ensures.reads.reads c.in-Ok.ensures.taken taken

pub returns-in-Ok-name-clause-taken : goal.returns-in-Ok-name-clause-taken
returns-in-Ok-name-clause-taken g c =
    let s = g.S.Store.state c.args.file.now.store.now in
    let mid = g.S.Store.state c.find_strings.new.file.store.now in
    let new = g.S.Store.state c.gather.new.file.store.now in
    let h = c.args.file.now.cursor.head in
    let first = c.args.found.now in
    let taken = given_strings (λ s h p. OfKnown s (λ bytes. TakesAtMost (most_gathered (bytes_of p bytes) first (word_size h.wide) bytes c.args.dynamic) s new))
    _ mid _ c.find_strings.new.file.cursor h c.in-Ok.strings (ap (λ r. g.S.Store.state r.now) c.set_strings.ensures.same_store) c.set_strings.ensures.strings c.in-Ok.ensures.reads.head c.gather.ensures.taken in
    texts_taken_by s mid new _ _ _ c.args.dynamic _ first c.in-Ok.strings c.requires.first c.in-Ok.ensures.reads.reads c.in-Ok.ensures.taken taken

pub returns-in-Err-name-clause-taken : goal.returns-in-Err-name-clause-taken
returns-in-Err-name-clause-taken g c =
    let s = g.S.Store.state c.args.file.now.store.now in
    let mid = g.S.Store.state c.find_strings.new.file.store.now in
    let new = g.S.Store.state c.gather.new.file.store.now in
    let h = c.args.file.now.cursor.head in
    let first = c.args.found.now in
    let taken = given_strings (λ s h p. OfKnown s (λ bytes. TakesAtMost (most_gathered (bytes_of p bytes) first (word_size h.wide) bytes c.args.dynamic) s new))
    _ mid _ c.find_strings.new.file.cursor h c.in-Ok.strings (ap (λ r. g.S.Store.state r.now) c.set_strings.ensures.same_store) c.set_strings.ensures.strings c.in-Ok.ensures.reads.head c.gather.ensures.taken in
    texts_taken_by s mid new _ _ _ c.args.dynamic _ first c.in-Ok.strings c.requires.first c.in-Ok.ensures.reads.reads c.in-Ok.ensures.taken taken

pub returns-in-Ok-name-clause-section : goal.returns-in-Ok-name-clause-section
returns-in-Ok-name-clause-section g c =
    let s = g.S.Store.state c.args.file.now.store.now in
    let mid = g.S.Store.state c.find_strings.new.file.store.now in
    let h = c.args.file.now.cursor.head in
    let w = word_size h.wide in
    let d = c.args.dynamic in
    let keep = c.args.keep in
    let first = c.args.found.now in
    let new = c.gather.new.found in
    let t = c.requires.texts in
    let table = bytes_of c.in-Ok.strings in
    let gathers = given_strings (λ s h p. OfKnown s (λ bytes. kept_of keep (gathered (bytes_of p bytes) first (dynamic_entries (word_size h.wide) bytes d)) ≡ Ok (kept keep new)))
    _ mid _ c.find_strings.new.file.cursor h c.in-Ok.strings (ap (λ r. g.S.Store.state r.now) c.set_strings.ensures.same_store) c.set_strings.ensures.strings c.in-Ok.ensures.reads.head c.in-Ok-gather.ensures.gathered in
    record {
      kept = known_good keep (known_content s) w d c.args.values t.values table new c.name.new.found t.some c.in-Ok-name.ensures.good c.in-Ok-name.ensures.named c.in-Ok.ensures.found.bytes
          (flagged keep (known_content s) w d table first c.args.values new c.requires.first
          (before (λ bytes. kept_of keep (gathered (table bytes) first (dynamic_entries w bytes d)) ≡ Ok (kept keep new)) s mid c.in-Ok.ensures.reads.reads gathers));
      name = c.in-Ok-name.ensures.name;
    }

pub returns-in-Err-name-clause-fault : goal.returns-in-Err-name-clause-fault
returns-in-Err-name-clause-fault g c =
    let s = g.S.Store.state c.args.file.now.store.now in
    let mid = g.S.Store.state c.find_strings.new.file.store.now in
    let h = c.args.file.now.cursor.head in
    let w = word_size h.wide in
    let d = c.args.dynamic in
    let keep = c.args.keep in
    let first = c.args.found.now in
    let new = c.gather.new.found in
    let t = c.requires.texts in
    let table = bytes_of c.in-Ok.strings in
    let gathers = given_strings (λ s h p. OfKnown s (λ bytes. kept_of keep (gathered (bytes_of p bytes) first (dynamic_entries (word_size h.wide) bytes d)) ≡ Ok (kept keep new)))
    _ mid _ c.find_strings.new.file.cursor h c.in-Ok.strings (ap (λ r. g.S.Store.state r.now) c.set_strings.ensures.same_store) c.set_strings.ensures.strings c.in-Ok.ensures.reads.head c.in-Ok-gather.ensures.gathered in
    record {
      bad = subst (λ x. IfKnown (known_content s) (λ bytes. section_in w bytes d ≡ Err x)) (sym c.in-Err-name.ensures.bad)
          (known_bad_name keep (known_content s) w d c.args.values t.values table new t.some c.in-Err-name.ensures.bad_name c.in-Ok.ensures.found.bytes
          (flagged keep (known_content s) w d table first c.args.values new c.requires.first
          (before (λ bytes. kept_of keep (gathered (table bytes) first (dynamic_entries w bytes d)) ≡ Ok (kept keep new)) s mid c.in-Ok.ensures.reads.reads gathers)));
      range = subst IsInRange (sym c.in-Err-name.ensures.bad) refl;
      no_memory = λ none. absurd (cc);
    }
