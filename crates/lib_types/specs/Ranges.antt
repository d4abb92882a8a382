-- The range of the numbers in a defect, whatever content the store returns.
use Rattle.std.specs.Prelude.{ℕ, Bool, true, false, IsTrue, ◌==◌, ◌&&◌, ◌||◌, not, nat_lt}
use Rattle.lib_types.specs.declared.analysis.Defect.{Defect}
use Rattle.lib_types.specs.declared.analysis.Defect.TheVariants.{TooShort, BadClass, BadData, BadMachine, NotShared, BadString, Unsearchable}

-- DT_NEEDED, DT_SONAME, DT_RPATH and DT_RUNPATH (gABI, "Dynamic Section")
abbrev pub is_text_tag : ℕ → Bool
is_text_tag tag = tag == 1 || tag == 14 || tag == 15 || tag == 29

abbrev pub is_in_range : Defect → Bool
is_in_range (TooShort size) = nat_lt size 64
is_in_range (BadClass value) = nat_lt value 256 && not (value == 1) && not (value == 2)
is_in_range (BadData value) = nat_lt value 256 && not (value == 1)
is_in_range (BadMachine number) = nat_lt number 65536
is_in_range (NotShared etype) = nat_lt etype 65536 && not (etype == 3)
is_in_range (BadString tag) = is_text_tag tag
-- it is about a name, and not about content
is_in_range Unsearchable = false
is_in_range _ = true

abbrev pub IsTextTag : ℕ → Type 0
IsTextTag tag = IsTrue (is_text_tag tag)

abbrev pub IsInRange : Defect → Type 0
IsInRange defect = IsTrue (is_in_range defect)
