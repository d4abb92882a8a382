-- Parts of a generated file. Contracts of private functions use these definitions.
use Rattle.std.specs.Prelude.{◌≡◌, ◌≤◌, ◌<◌, ◌⊎◌, ℕ, ◌+◌, List, length, map, All, Option, IfSome}
use Rattle.std.specs.List.{flat_map}
use Rattle.std.specs.Option.{MatchOption}
use Rattle.elf_dynamic.specs.declared.kinds.DynamicEntry.{DynamicEntry}
use Rattle.elf_dynamic.specs.declared.kinds.Dynamic.{Dynamic}
use Rattle.elf_dynamic.specs.Section.{needed}
use Rattle.elf_dynamic.specs.declared.text.TheConstants.{TEXT_LIMIT}
use Rattle.elf_maker.specs.declared.kinds.Spec.{Spec}
use Rattle.elf_maker.specs.declared.layout.Layout.{Layout}
use Rattle.elf_maker.specs.declared.layout.TheConstants.{FILE_MAX}
use Rattle.elf_maker.specs.Fields.{bytes_of}
use Rattle.elf_maker.specs.Texts.{Tagged, strings}
use Rattle.elf_maker.specs.Made.{width, section_at, section_size, strings_at, entry_fields}

abbrev pub IsWidth : ℕ → Type 0
IsWidth w = (w ≡ 4) ⊎ (w ≡ 8)

abbrev pub IsShort : List ℕ → Type 0
IsShort text = length text < TEXT_LIMIT

-- each text is shorter than the range that is searched for its NUL
pub record AreShort (d : Dynamic) : Type 0 where
  pub needed : All IsShort d.needed
  pub soname : IfSome d.soname IsShort
  pub rpath : IfSome d.rpath IsShort
  pub runpath : IfSome d.runpath IsShort

abbrev pub needed_texts : List (List ℕ) → List Tagged
needed_texts texts = map (λ text. (needed, text)) texts

unfoldable pub entries_bytes : ℕ → List DynamicEntry → List ℕ
entries_bytes w es = bytes_of (flat_map (entry_fields w) es)

-- the number of these bytes, or None if it is more than a file may have
abbrev pub IsSizeIfFit : Option ℕ → List ℕ → Type 0
IsSizeIfFit result bytes = MatchOption result (FILE_MAX < length bytes) (λ n. n ≡ length bytes)

-- the offsets and sizes of the parts, in a file that isn't too long
pub record IsLayoutOf (l : Layout) (spec : Spec) : Type 0 where
  pub word : IsWidth l.w
  pub of_abi : l.w ≡ width spec
  pub section_is : l.section ≡ section_at l.w
  pub section_size_is : l.section_size ≡ section_size l.w spec.dynamic
  pub strings_is : l.strings ≡ strings_at l.w spec.dynamic
  pub strings_size_is : l.strings_size ≡ length (strings spec.dynamic)
  pub small : l.strings + l.strings_size ≤ FILE_MAX
