-- The fault line of a cache that has a defect.
use Rattle.std.specs.Prelude.{ℕ, List, ◌++◌, codes, Option, Some, None}
use Rattle.cache_reader.specs.declared.defect.CacheDefect.{CacheDefect}
use Rattle.cache_reader.specs.declared.defect.CacheDefect.TheVariants.{OldFormat, Short, BadMagic, BadEndian, EntriesOutside, StringOutside, NoNul, BadExtension, BadHwcap, Unsorted}
use Rattle.lib_types.specs.Defects.{number_text}
use Rattle.update_report.specs.Lines.{line}

abbrev pub defect_name : CacheDefect → List ℕ
defect_name OldFormat = codes "OldFormat"
defect_name (Short length) = codes "Short"
defect_name BadMagic = codes "BadMagic"
defect_name (BadEndian flags) = codes "BadEndian"
defect_name (EntriesOutside count) = codes "EntriesOutside"
defect_name (StringOutside entry) = codes "StringOutside"
defect_name (NoNul entry) = codes "NoNul"
defect_name (BadExtension offset) = codes "BadExtension"
defect_name (BadHwcap entry) = codes "BadHwcap"
defect_name (Unsorted entry) = codes "Unsorted"

abbrev pub defect_number : CacheDefect → Option ℕ
defect_number OldFormat = None
defect_number BadMagic = None
defect_number (Short length) = Some length
defect_number (BadEndian flags) = Some flags
defect_number (EntriesOutside count) = Some count
defect_number (StringOutside entry) = Some entry
defect_number (NoNul entry) = Some entry
defect_number (BadExtension offset) = Some offset
defect_number (BadHwcap entry) = Some entry
defect_number (Unsorted entry) = Some entry

-- its name, with a blank and the number if it has one
unfoldable pub cache_fault : CacheDefect → List ℕ
cache_fault defect = line (codes "fault: BadCache: " ++ defect_name defect ++ number_text (defect_number defect))
