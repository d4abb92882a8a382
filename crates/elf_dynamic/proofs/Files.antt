-- The dynamic section of a file in known content.
use Rattle.std.proofs.Common.{◌≡◌, ℕ, ◌+◌, ◌*◌, ◌≤◌, Bool, true, false, nat_lt, List, length, Option, Some, None, Result, Ok, Err, IfErr, refl, ap, sym, subst, ◌∙◌, arith}
use Rattle.lib_types.specs.declared.analysis.Defect.{Defect}
use Rattle.lib_types.specs.declared.analysis.Defect.TheVariants.{DynOutside}
use Rattle.tree_face.specs.Store.{StoreState}
use Rattle.tree_face.specs.StoreUse.{Ending}
use Rattle.tree_face.proofs.StoreUse.{raised-add, raised-mono}
use Rattle.elf_headers.specs.declared.kinds.Head.{Head}
use Rattle.elf_headers.specs.Layout.{word_size}
use Rattle.elf_headers.specs.Reading.{known_content, OfKnown, OnlyReads, TakesAtMost, IsHeadOf}
use Rattle.elf_headers.specs.declared.kinds.Segment.{Segment}
use Rattle.elf_dynamic.specs.declared.fault.ObjectFault.{ObjectFault}
use Rattle.elf_dynamic.specs.declared.fault.ObjectFault.TheVariants as faults
use Rattle.elf_dynamic.specs.declared.kinds.Dynamic.{Dynamic}
use Rattle.elf_dynamic.specs.Faults.{IfBad}
use Rattle.elf_dynamic.specs.declared.gather.Keep.{Keep}
use Rattle.elf_dynamic.specs.Kept.{kept, kept_of, kept_in_file}
use Rattle.elf_dynamic.specs.Memory.{IsAfterTexts, SectionTakesMemory}
use Rattle.elf_dynamic.specs.Section.{dynamic_segment, is_outside}
use Rattle.elf_dynamic.specs.Taken.{section_reading, readable_section}
use Rattle.elf_dynamic.specs.Sections.{section_in, sections_in, counting_in}
use Rattle.elf_dynamic.proofs.Known.{with, three, before, sized}
use Rattle.elf_dynamic.proofs.Kept.{unkept}
use Rattle.elf_dynamic.proofs.Sections.{some_of, without, outside_file, in_file}
use Rattle.elf_dynamic.specs.declared.text.TheConstants.{TEXT_LIMIT}

abbrev there_is : Dynamic → Result (Option Dynamic) Defect
there_is d = Ok (Some d)

some_takes : (r : Result Dynamic Defect) → IfErr r IsAfterTexts → SectionTakesMemory (some_of r)
some_takes (Ok d) takes = refl
some_takes (Err x) takes = takes

module _ (s : StoreState) (h : Head) (o : Option Segment) (found : OfKnown s (λ bytes. o ≡ dynamic_segment (word_size h.wide) bytes)) where
  pub file_without : (keep : Keep) → o ≡ None → OfKnown s (λ bytes. kept_in_file keep (sections_in (word_size h.wide) bytes) ≡ Ok None)
  file_without keep none =
      let w = word_size h.wide in
      with {P = λ bytes. o ≡ dynamic_segment w bytes} {Q = λ bytes. kept_in_file keep (sections_in w bytes) ≡ Ok None} (known_content s) found (λ bytes found. ap (kept_in_file keep) (without w bytes (sym found ∙ none)))

module _ (s : StoreState) (h : Head) (o : Option Segment) (found : OfKnown s (λ bytes. o ≡ dynamic_segment (word_size h.wide) bytes)) (is_head : IsHeadOf s h) (d : Segment) (is : o ≡ Some d) where
  -- A fact about the section's segment, by whether the segment ends past the end of the file.
  here : (outside : Bool) (P Q : List ℕ → Type 0) → nat_lt h.length (d.offset + d.filesz) ≡ outside → OfKnown s P →
      ((bytes : List ℕ) → dynamic_segment (word_size h.wide) bytes ≡ Some d → is_outside bytes d ≡ outside → P bytes → Q bytes) → OfKnown s Q
  here outside P Q e read f =
      three {P = λ bytes. o ≡ dynamic_segment (word_size h.wide) bytes} {Q = λ bytes. length bytes ≡ h.length} {R = P} {X = Q} (known_content s) found (sized s h is_head) read
      (λ bytes found sized read. f bytes (sym found ∙ is) (ap (λ n. nat_lt n (d.offset + d.filesz)) sized ∙ e) read)

  pub file_outside : nat_lt h.length (d.offset + d.filesz) ≡ true → OfKnown s (λ bytes. sections_in (word_size h.wide) bytes ≡ Err DynOutside)
  file_outside e =
      let w = word_size h.wide in
      here true (λ bytes. o ≡ dynamic_segment w bytes) (λ bytes. sections_in w bytes ≡ Err DynOutside) e found (λ bytes there outside _. outside_file w bytes d there outside)

  module _ {ending : Ending} (t : StoreState) (reads : OnlyReads ending s t) (e : nat_lt h.length (d.offset + d.filesz) ≡ false) where
    file_is : (r : Result Dynamic Defect) → OfKnown t (λ bytes. section_in (word_size h.wide) bytes d ≡ r) → OfKnown s (λ bytes. sections_in (word_size h.wide) bytes ≡ some_of r)
    file_is r read =
        let w = word_size h.wide in
        here false (λ bytes. section_in w bytes d ≡ r) (λ bytes. sections_in w bytes ≡ some_of r) e (before (λ bytes. section_in w bytes d ≡ r) s t reads read) (λ bytes there inside read. in_file w bytes d r there inside read)

    pub file_section : (keep : Keep) (new : Dynamic) → OfKnown t (λ bytes. kept_of keep (section_in (word_size h.wide) bytes d) ≡ Ok (kept keep new)) →
        OfKnown s (λ bytes. kept_in_file keep (sections_in (word_size h.wide) bytes) ≡ Ok (Some (kept keep new)))
    file_section keep new read =
        let w = word_size h.wide in
        let P = λ (bytes : List ℕ). kept_of keep (section_in w bytes d) ≡ Ok (kept keep new) in
        here false P (λ bytes. kept_in_file keep (sections_in w bytes) ≡ Ok (Some (kept keep new))) e (before P s t reads read)
        (λ bytes there inside read.
        let (x, is, alike) = unkept keep (section_in w bytes d) new read in
        ap (kept_in_file keep) (in_file w bytes d (Ok x) there inside is) ∙ ap there_is alike)

    pub file_fault : (fault : ObjectFault) → IfBad {X = Dynamic} (Err fault) (λ x. OfKnown t (λ bytes. section_in (word_size h.wide) bytes d ≡ Err x)) →
        IfBad {X = Option Dynamic} (Err fault) (λ x. OfKnown s (λ bytes. sections_in (word_size h.wide) bytes ≡ Err x))
    file_fault (faults.Bad x) bad = file_is (Err x) bad
    file_fault faults.StoreFault bad = tt
    file_fault faults.NoMemory bad = tt

    pub file_takes : OfKnown t (λ bytes. IfErr (section_in (word_size h.wide) bytes d) IsAfterTexts) → OfKnown s (λ bytes. SectionTakesMemory (sections_in (word_size h.wide) bytes))
    file_takes takes =
        let w = word_size h.wide in
        let P = λ (bytes : List ℕ). IfErr (section_in w bytes d) IsAfterTexts in
        here false P (λ bytes. SectionTakesMemory (sections_in w bytes)) e (before P s t reads takes)
        (λ bytes there inside takes. subst SectionTakesMemory (sym (in_file w bytes d (section_in w bytes d) there inside refl)) (some_takes (section_in w bytes d) takes))

    reading : (w : ℕ) (bytes : List ℕ) → dynamic_segment w bytes ≡ Some d → is_outside bytes d ≡ false → section_reading w bytes (readable_section w bytes) ≡ 8 * d.filesz + 131072 * counting_in w bytes d
    unfolding counting_in
    reading w bytes there h = rw (there, h) refl

    below : (p f m : ℕ) → 112 * p + (112 * p + 4 * f + TEXT_LIMIT * m) ≤ 448 * p + (8 * f + 2 * TEXT_LIMIT * m)
    below p f m = omega arith

    pub file_taken : (u : StoreState) → TakesAtMost (112 * h.phnum) s t → OfKnown t (λ bytes. TakesAtMost (112 * h.phnum + 4 * d.filesz + TEXT_LIMIT * counting_in (word_size h.wide) bytes d) t u) →
        OfKnown s (λ bytes. TakesAtMost (448 * h.phnum + section_reading (word_size h.wide) bytes (readable_section (word_size h.wide) bytes)) s u)
    file_taken u first taken =
        let w = word_size h.wide in
        let P = λ (bytes : List ℕ). TakesAtMost (112 * h.phnum + 4 * d.filesz + TEXT_LIMIT * counting_in w bytes d) t u in
        let Q = λ (bytes : List ℕ). TakesAtMost (448 * h.phnum + section_reading w bytes (readable_section w bytes)) s u in
        here false P Q e (before P s t reads taken)
        (λ bytes there inside taken.
        let all = reading w bytes there inside in
        raised-mono s.taken u.taken (112 * h.phnum + (112 * h.phnum + 4 * d.filesz + TEXT_LIMIT * counting_in w bytes d)) (448 * h.phnum + section_reading w bytes (readable_section w bytes)) (rw all (below h.phnum d.filesz (counting_in w bytes d)))
        (raised-add s.taken t.taken u.taken (112 * h.phnum) (112 * h.phnum + 4 * d.filesz + TEXT_LIMIT * counting_in w bytes d) first taken))
