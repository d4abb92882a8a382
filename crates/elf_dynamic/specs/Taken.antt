-- The maximum number of bytes that are read from a file.
use Rattle.std.specs.Prelude.{ℕ, ◌+◌, ◌*◌, Bool, true, false, not, List, length, Option, Some, None, option_map}
use Rattle.std.specs.Option.{option_map_or}
use Rattle.lib_types.specs.declared.analysis.Defect.{Defect}
use Rattle.tree_face.specs.Store.{Contents, StoreState}
use Rattle.elf_headers.specs.declared.kinds.Segment.{Segment}
use Rattle.elf_headers.specs.Reading.{OfKnown, TakesAtMost}
use Rattle.elf_dynamic.specs.declared.kinds.Dynamic.{Dynamic}
use Rattle.elf_headers.specs.Layout.{is_wide, word_size, phnum}
use Rattle.elf_headers.specs.Header.{first_defect, header_sentences}
use Rattle.elf_dynamic.specs.declared.text.TheConstants.{TEXT_LIMIT}
use Rattle.elf_dynamic.specs.Texts.{counted}
use Rattle.elf_dynamic.specs.Section.{dynamic_segment, is_outside, dynamic_entries, counting_entries}

-- the PT_DYNAMIC, if it is read
abbrev pub section_if : Bool → Option Segment → Option Segment
section_if true s = s
section_if false s = None

abbrev pub readable_section : ℕ → List ℕ → Option Segment
readable_section w bytes =
    let s = dynamic_segment w bytes in section_if (not (option_map_or (is_outside bytes) s false)) s

-- for the section: 8 bytes for each of its bytes, and two texts for each entry that counts
abbrev pub section_reading : ℕ → List ℕ → Option Segment → ℕ
section_reading w bytes s = option_map_or (λ s. 8 * s.filesz + 2 * TEXT_LIMIT * length (counting_entries (dynamic_entries w bytes s))) s 0

-- for gathering more texts: the section's bytes twice, and one text for each entry that counts
abbrev pub most_gathered : List ℕ → Dynamic → ℕ → List ℕ → Segment → ℕ
most_gathered texts found w bytes s = 2 * s.filesz + TEXT_LIMIT * counted texts found (dynamic_entries w bytes s)

-- 128 bytes for the file header, 448 for each program header, and the bytes for the section
abbrev pub reading_after : Option Defect → ℕ → List ℕ → ℕ
reading_after (Some d) w bytes = 128
reading_after None w bytes = 128 + 448 * phnum w bytes + section_reading w bytes (readable_section w bytes)

-- the maximum for a whole file
unfoldable pub most_taken : List ℕ → ℕ
most_taken bytes = reading_after (first_defect (header_sentences bytes)) (word_size (is_wide bytes)) bytes

-- the maximum for the file of a key, 0 if the key isn't held
abbrev pub most_under : Contents → List ℕ → ℕ
most_under held key = option_map_or most_taken (held key) 0

-- the same, if contents are known
abbrev pub most_known : Option Contents → List ℕ → Option ℕ
most_known held key = option_map (λ held. most_under held key) held

-- At most `most` bytes are read from the content of the open file, if the content is known.
abbrev pub TakesBy : (List ℕ → ℕ) → StoreState → StoreState → Type 0
TakesBy most old new = OfKnown old (λ bytes. TakesAtMost (most bytes) old new)
