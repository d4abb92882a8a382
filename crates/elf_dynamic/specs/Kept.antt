-- The part of a section that is kept, if not all texts are kept. A text that isn't kept becomes an empty text: later entries must
-- still see that there is one. Contracts of private functions use these definitions.
use Rattle.std.specs.Prelude.{◌≡◌, ℕ, Bool, true, false, ◌==◌, List, [], Option, option_map, IfSome, Result, Ok, Err}
use Rattle.lib_types.specs.declared.analysis.Defect.{Defect}
use Rattle.tree_face.specs.Store.{StoreState}
use Rattle.elf_headers.specs.Reading.{OfKnown}
use Rattle.elf_dynamic.specs.Faults.{HasSoname}
use Rattle.elf_dynamic.specs.declared.gather.Keep.{Keep}
use Rattle.elf_dynamic.specs.declared.gather.Keep.TheVariants.{All, Soname}
use Rattle.elf_dynamic.specs.declared.kinds.Dynamic.{Dynamic}
use Rattle.elf_dynamic.specs.declared.kinds.Object.{Object}

-- the text of an entry with this tag is kept
abbrev pub keeps : Keep → ℕ → Bool
keeps All tag = true
keeps Soname tag = tag == 14

abbrev pub kept_text : Bool → List ℕ → List ℕ
kept_text true text = text
kept_text false text = []

abbrev pub kept : Keep → Dynamic → Dynamic
kept All d = d
kept Soname d = record d { needed = []; rpath = option_map (kept_text false) d.rpath; runpath = option_map (kept_text false) d.runpath }

-- the same for a section or its defect
abbrev pub kept_of : Keep → Result Dynamic Defect → Result Dynamic Defect
kept_of keep (Ok d) = Ok (kept keep d)
kept_of keep (Err x) = Err x

-- the same for a file, which may have no section
abbrev pub kept_in_file : Keep → Result (Option Dynamic) Defect → Result (Option Dynamic) Defect
kept_in_file keep (Ok d) = Ok (option_map (kept keep) d)
kept_in_file keep (Err x) = Err x

abbrev pub kept_object : Keep → Object → Object
kept_object keep o = record o { dynamic = option_map (kept keep) o.dynamic }

abbrev pub kept_object_of : Keep → Result Object Defect → Result Object Defect
kept_object_of keep (Ok o) = Ok (kept_object keep o)
kept_object_of keep (Err x) = Err x

-- This is the kept part of the section. Its soname is a name even if contents aren't known.
pub record IsKeptSection (keep : Keep) (s : StoreState) (section : List ℕ → Result Dynamic Defect) (d : Dynamic) : Type 0 where
  pub kept : OfKnown s (λ bytes. kept_of keep (section bytes) ≡ Ok (kept keep d))
  pub name : HasSoname d

-- the same for a file, which may have no section
pub record IsKeptInFile (keep : Keep) (s : StoreState) (section : List ℕ → Result (Option Dynamic) Defect) (d : Option Dynamic) : Type 0 where
  pub kept : OfKnown s (λ bytes. kept_in_file keep (section bytes) ≡ Ok (option_map (kept keep) d))
  pub name : IfSome d HasSoname
