-- Names and sonames in one text. They stay the same when the text gets longer.
use Rattle.std.proofs.Common.{◌≡◌, ◌≤◌, ℕ, List, ◌++◌, length, ap, ◌∙◌}
use Rattle.lib_types.proofs.Offsets.{part_kept, part_within}
use Rattle.place_libraries.specs.OneText.{library_in, IsRowWithin}
use Rattle.lib_types.specs.Part.{part_of}
use Rattle.place_libraries.specs.declared.best.Row.{Row}

pub row_within : (count more : ℕ) (row : Row) → count ≤ more → IsRowWithin count row → IsRowWithin more row
row_within count more row le h = (part_within count more row.name le h.0, part_within count more row.soname le h.1)

pub library_kept : (text more : List ℕ) (row : Row) → IsRowWithin (length text) row → library_in (text ++ more) row ≡ library_in text row
library_kept text more row h =
    ap (λ n. record { name = n; soname = part_of (text ++ more) row.soname; abi = row.abi }) (part_kept text more row.name h.0)
    ∙ ap (λ n. record { name = part_of text row.name; soname = n; abi = row.abi }) (part_kept text more row.soname h.1)
