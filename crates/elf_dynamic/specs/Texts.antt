-- The texts that are gathered from the string table, one entry at a time. Contracts of private functions use these definitions.
use Rattle.std.specs.Prelude.{ℕ, ◌+◌, Bool, if◌then◌else◌, ◌==◌, ◌||◌, ◌&&◌, not, List, [], ◌∷◌, ◌++◌, take_while, Option, Some, None, is_none, Result, Ok, Err}
use Rattle.std.specs.List.{list_any}
use Rattle.lib_types.specs.declared.analysis.Defect.{Defect}
use Rattle.lib_types.specs.declared.analysis.Defect.TheVariants.{BadString}
use Rattle.elf_dynamic.specs.declared.kinds.DynamicEntry.{DynamicEntry}
use Rattle.elf_dynamic.specs.declared.kinds.Dynamic.{Dynamic}
use Rattle.elf_dynamic.specs.Section.{is_nul, has_text_at, text_at}

-- the bytes before the first NUL, if there is one
abbrev pub before_nul : List ℕ → Option (List ℕ)
before_nul bytes = if list_any is_nul bytes then Some (take_while (λ b. not (is_nul b)) bytes) else None

abbrev pub text_found : List ℕ → ℕ → Option (List ℕ)
text_found t at = if has_text_at t at then Some (text_at t at) else None

-- whether an entry with this tag counts after the texts so far
abbrev pub counts : Dynamic → ℕ → Bool
counts d tag = (tag == 1) || ((tag == 14) && is_none d.soname) || ((tag == 15) && is_none d.rpath) || ((tag == 29) && is_none d.runpath)

abbrev pub with_text : ℕ → List ℕ → Dynamic → Dynamic
with_text tag text d =
    if tag == 1 then record d { needed = d.needed ++ text ∷ [] }
    else if tag == 14 then record d { soname = Some text }
    else if tag == 15 then record d { rpath = Some text }
    else record d { runpath = Some text }

abbrev pub no_texts : Bool → Dynamic
no_texts nodeflib = record { soname = None; needed = []; rpath = None; runpath = None; nodeflib = nodeflib }

-- the texts after one more entry, if it counts
abbrev pub add_one : List ℕ → Dynamic → DynamicEntry → Result Dynamic Defect
add_one t d e =
    if counts d e.tag
    then (if has_text_at t e.value then Ok (with_text e.tag (text_at t e.value) d) else Err (BadString e.tag))
    else Ok d

abbrev pub gathered : List ℕ → Dynamic → List DynamicEntry → Result Dynamic Defect
gathered t d [] = Ok d
gathered t d (e ∷ rest) =
    if counts d e.tag
    then (if has_text_at t e.value then gathered t (with_text e.tag (text_at t e.value) d) rest else Err (BadString e.tag))
    else gathered t d rest

-- the number of entries that count
abbrev pub counted : List ℕ → Dynamic → List DynamicEntry → ℕ
counted t d [] = 0
counted t d (e ∷ rest) =
    if counts d e.tag then 1 + counted t (with_text e.tag (text_at t e.value) d) rest else counted t d rest
