-- The texts of a generated dynamic section, their string table, and the entries for them (gABI, "Dynamic Section" and "String Table").
use Rattle.std.specs.Prelude.{ℕ, ◌+◌, Bool, ◌&&◌, not, nat_lt, List, [], ◌∷◌, ◌++◌, length, map, Option, Some, None}
use Rattle.std.specs.List.{flat_map, list_any}
use Rattle.elf_dynamic.specs.declared.kinds.DynamicEntry.{DynamicEntry}
use Rattle.elf_dynamic.specs.declared.kinds.Dynamic.{Dynamic}
use Rattle.elf_dynamic.specs.Section.{needed, soname, rpath, runpath, is_nul}
use Rattle.elf_dynamic.specs.declared.text.TheConstants.{TEXT_LIMIT}

-- a text without a NUL, short enough that its end is found
abbrev pub is_text : List ℕ → Bool
is_text text = not (list_any is_nul text) && nat_lt (length text) TEXT_LIMIT

-- a tag and the text of its entry
abbrev pub Tagged : Type 0
Tagged = ℕ × List ℕ

abbrev pub tagged_if : ℕ → Option (List ℕ) → List Tagged
tagged_if tag None = []
tagged_if tag (Some text) = (tag, text) ∷ []

-- the texts, in the order of their entries
unfoldable pub tagged : Dynamic → List Tagged
tagged d = map (λ text. (needed, text)) d.needed ++ tagged_if soname d.soname ++ tagged_if rpath d.rpath ++ tagged_if runpath d.runpath

abbrev pub ended : Tagged → List ℕ
ended t = t.1 ++ 0 ∷ []

abbrev pub ended_texts : List Tagged → List ℕ
ended_texts texts = flat_map ended texts

-- one NUL, then each text with its NUL
unfoldable pub strings : Dynamic → List ℕ
strings d = 0 ∷ ended_texts (tagged d)

-- the entries of these texts, if the first text is at this offset of the string table
abbrev pub text_entries : ℕ → List Tagged → List DynamicEntry
text_entries at [] = []
text_entries at (t ∷ rest) = record { tag = t.0; value = at } ∷ text_entries (at + length (ended t)) rest
