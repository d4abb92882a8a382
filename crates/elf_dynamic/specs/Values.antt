-- The values of the entries that have no texts. Contracts of private functions use these definitions.
use Rattle.std.specs.Prelude.{◌≡◌, ◌≤◌, ◌<◌, ℕ, ◌+◌, List, filter, length, Option, Some, None}
use Rattle.tree_face.specs.Store.{StoreState}
use Rattle.elf_headers.specs.declared.kinds.Head.{Head}
use Rattle.elf_headers.specs.declared.kinds.Segment.{Segment}
use Rattle.elf_headers.specs.Layout.{word_size}
use Rattle.elf_headers.specs.Reading.{OfKnown}
use Rattle.elf_dynamic.specs.declared.kinds.DynamicEntry.{DynamicEntry}
use Rattle.elf_dynamic.specs.declared.values.Values.{Values}
use Rattle.elf_dynamic.specs.Section.{dynamic_entries, strtab, strsz, flags_1, value_of, has_text}

-- the number of entries with a text
abbrev pub texts_in : List DynamicEntry → ℕ
texts_in es = length (filter has_text es)

abbrev pub first_of : Option ℕ → Option ℕ → Option ℕ
first_of (Some a) b = Some a
first_of None b = b

-- the values joined with those of further entries
abbrev pub joined : Values → List DynamicEntry → Values
joined v es = record {
  texts = v.texts + texts_in es;
  strtab = first_of v.strtab (value_of strtab es);
  strsz = first_of v.strsz (value_of strsz es);
  flags_1 = first_of v.flags_1 (value_of flags_1 es);
}

abbrev pub values_of : List DynamicEntry → Values
values_of es = record {
  texts = texts_in es;
  strtab = value_of strtab es;
  strsz = value_of strsz es;
  flags_1 = value_of flags_1 es;
}

-- These are the values of the entries of a segment in the file, and some entries have texts.
pub record HasTexts (s : StoreState) (h : Head) (dynamic : Segment) (v : Values) : Type 0 where
  pub inside : dynamic.offset + dynamic.filesz ≤ h.length
  pub values : OfKnown s (λ bytes. v ≡ values_of (dynamic_entries (word_size h.wide) bytes dynamic))
  pub some : 0 < v.texts
