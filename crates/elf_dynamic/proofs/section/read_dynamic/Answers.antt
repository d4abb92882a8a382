use Rattle.std.proofs.Common.{◌≡◌, ◌+◌, ◌*◌, true, false, nat_lt, Ok, Err, IfErr, sym, subst, ◌∙◌, rules}
use Rattle.elf_headers.specs.declared.kinds.Head.{Head}
use Rattle.elf_headers.specs.Layout.{word_size}
use Rattle.elf_headers.specs.Reading.{OfKnown, TakesAtMost}
use Rattle.elf_dynamic.specs.declared.kinds.Dynamic.{Dynamic}
use Rattle.elf_dynamic.specs.Faults.{IfBad}
use Rattle.elf_dynamic.specs.Kept.{kept, kept_of}
use Rattle.elf_dynamic.specs.Memory.{IsAfterTexts}
use Rattle.elf_dynamic.specs.Sections.{section_in, counting_in}
use Rattle.elf_dynamic.proofs.Files.{file_without, file_outside, file_section, file_fault, file_takes, file_taken}
use Rattle.elf_dynamic.proofs.Memory.{fault_is}
use Rattle.elf_dynamic.proofs.section.read_dynamic.Goals as goal
use Rattle.elf_dynamic.specs.declared.text.TheConstants.{TEXT_LIMIT}

pub returns-in_default-clause-dynamic : goal.returns-in_default-clause-dynamic
returns-in_default-clause-dynamic g c = record {
  kept = file_without (g.S.Store.state c.args.file.now.store.now) c.args.file.now.cursor.head c.in_ok-dynamic.field-0 c.in_ok-dynamic.ensures.found c.args.keep c.in_default.is;
  name = search rules;
}

pub returns-then-is_outside-clause-bad : goal.returns-then-is_outside-clause-bad
returns-then-is_outside-clause-bad g c =
    let h = c.args.file.now.cursor.head in
    let d = c.in-Some.dynamic in
    let e = c.in_ok-dynamic.ensures in
    let outside = subst (λ (h : Head). nat_lt h.length (d.offset + d.filesz) ≡ true) e.reads.head (sym c.is_outside.ensures.outside ∙ c.if-is_outside.true) in
    file_outside (g.S.Store.state c.args.file.now.store.now) h c.in_ok-dynamic.field-0 e.found c.requires.cursor.head d c.in-Some.is outside

pub returns-in-Ok-clause-dynamic : goal.returns-in-Ok-clause-dynamic
returns-in-Ok-clause-dynamic g c =
    let mid = g.S.Store.state c.find_segment.new.self.store.now in
    let h = c.args.file.now.cursor.head in
    let d = c.in-Some.dynamic in
    let keep = c.args.keep in
    let e = c.in_ok-dynamic.ensures in
    let new = c.in-Ok.dynamic in
    let inside = subst (λ (h : Head). nat_lt h.length (d.offset + d.filesz) ≡ false) e.reads.head (sym c.is_outside.ensures.outside ∙ c.if-is_outside.false) in
    record {
      kept = file_section (g.S.Store.state c.args.file.now.store.now) h c.in_ok-dynamic.field-0 e.found c.requires.cursor.head d c.in-Some.is mid e.reads.reads inside keep new
          (subst (λ (h : Head). OfKnown mid (λ bytes. kept_of keep (section_in (word_size h.wide) bytes d) ≡ Ok (kept keep new))) e.reads.head c.in-Ok.ensures.section.kept);
      name = c.in-Ok.ensures.section.name;
    }

pub returns-in-Ok-clause-taken : goal.returns-in-Ok-clause-taken
returns-in-Ok-clause-taken g c =
    let mid = g.S.Store.state c.find_segment.new.self.store.now in
    let last = g.S.Store.state c.read_section.new.file.store.now in
    let h = c.args.file.now.cursor.head in
    let d = c.in-Some.dynamic in
    let e = c.in_ok-dynamic.ensures in
    let inside = subst (λ (h : Head). nat_lt h.length (d.offset + d.filesz) ≡ false) e.reads.head (sym c.is_outside.ensures.outside ∙ c.if-is_outside.false) in
    file_taken (g.S.Store.state c.args.file.now.store.now) h c.in_ok-dynamic.field-0 e.found c.requires.cursor.head d c.in-Some.is mid e.reads.reads inside last e.taken
    (subst (λ (h : Head). OfKnown mid (λ bytes. TakesAtMost (112 * h.phnum + 4 * d.filesz + TEXT_LIMIT * counting_in (word_size h.wide) bytes d) mid last)) e.reads.head c.read_section.ensures.taken)

pub returns-in-Err-clause-bad : goal.returns-in-Err-clause-bad
returns-in-Err-clause-bad g c =
    let mid = g.S.Store.state c.find_segment.new.self.store.now in
    let h = c.args.file.now.cursor.head in
    let d = c.in-Some.dynamic in
    let e = c.in_ok-dynamic.ensures in
    let fault = c.in-Err.fault in
    let inside = subst (λ (h : Head). nat_lt h.length (d.offset + d.filesz) ≡ false) e.reads.head (sym c.is_outside.ensures.outside ∙ c.if-is_outside.false) in
    file_fault (g.S.Store.state c.args.file.now.store.now) h c.in_ok-dynamic.field-0 e.found c.requires.cursor.head d c.in-Some.is mid e.reads.reads inside fault
    (subst (λ (h : Head). IfBad {X = Dynamic} (Err fault) (λ x. OfKnown mid (λ bytes. section_in (word_size h.wide) bytes d ≡ Err x))) e.reads.head c.in-Err.ensures.fault.bad)

pub returns-in-Err-clause-taken : goal.returns-in-Err-clause-taken
returns-in-Err-clause-taken g c =
    let mid = g.S.Store.state c.find_segment.new.self.store.now in
    let last = g.S.Store.state c.read_section.new.file.store.now in
    let h = c.args.file.now.cursor.head in
    let d = c.in-Some.dynamic in
    let e = c.in_ok-dynamic.ensures in
    let inside = subst (λ (h : Head). nat_lt h.length (d.offset + d.filesz) ≡ false) e.reads.head (sym c.is_outside.ensures.outside ∙ c.if-is_outside.false) in
    file_taken (g.S.Store.state c.args.file.now.store.now) h c.in_ok-dynamic.field-0 e.found c.requires.cursor.head d c.in-Some.is mid e.reads.reads inside last e.taken
    (subst (λ (h : Head). OfKnown mid (λ bytes. TakesAtMost (112 * h.phnum + 4 * d.filesz + TEXT_LIMIT * counting_in (word_size h.wide) bytes d) mid last)) e.reads.head c.read_section.ensures.taken)

pub returns-in-Err-clause-no_memory : goal.returns-in-Err-clause-no_memory
returns-in-Err-clause-no_memory g c none =
    let mid = g.S.Store.state c.find_segment.new.self.store.now in
    let h = c.args.file.now.cursor.head in
    let d = c.in-Some.dynamic in
    let e = c.in_ok-dynamic.ensures in
    let inside = subst (λ (h : Head). nat_lt h.length (d.offset + d.filesz) ≡ false) e.reads.head (sym c.is_outside.ensures.outside ∙ c.if-is_outside.false) in
    file_takes (g.S.Store.state c.args.file.now.store.now) h c.in_ok-dynamic.field-0 e.found c.requires.cursor.head d c.in-Some.is mid e.reads.reads inside
    (subst (λ (h : Head). OfKnown mid (λ bytes. IfErr (section_in (word_size h.wide) bytes d) IsAfterTexts)) e.reads.head (c.in-Err.ensures.fault.no_memory (fault_is _ _ _ _ none)))
