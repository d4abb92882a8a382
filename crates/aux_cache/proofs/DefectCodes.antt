-- Defects as two numbers of a record.
use Rattle.std.proofs.Common.{◌≡◌, ℕ, ◌<◌, ◌^◌, ◌==◌, ◌&&◌, ◌||◌, Bool, true, false, not, nat_lt, Some, refl, arith}
use Rattle.std.proofs.lemmas.Bool.{and_parts}
use Rattle.std.proofs.lemmas.Bool.Decides.{nat_tests}
use Rattle.lib_types.specs.Ranges.{IsInRange, IsTextTag, is_in_range}
use Rattle.lib_types.specs.declared.analysis.Defect.{Defect}
use Rattle.lib_types.specs.declared.analysis.Defect.TheVariants.{NotElf, TooShort, BadClass, BadData, BadMachine, NotShared, BadPhdrs, NoDynamic, DynOutside, NoStrtab, OutsideLoad, BadString, BadSoname, Unsearchable}
use Rattle.tree_face.proofs.Pairs.{find-passes}
use Rattle.aux_cache.specs.DefectCodes.{defect_code, defect_of, defect_value, defects_with, has_numbers}

-- ---- the range

below : (n m : ℕ) → nat_lt n m ≡ true → n < m
below n m h = grind (arith, nat_tests)

is_same : (n : ℕ) → (n == n) ≡ true
is_same n = grind (arith, nat_tests)

tag_small : (n : ℕ) → IsTextTag n → n < 2 ^ 32
tag_small n h = by (n == 1) (n == 14) (n == 15) (n == 29) refl refl refl refl h
  where
    same : (m : ℕ) → (n == m) ≡ true → n ≡ m
    same m e = grind (arith, nat_tests)

    by : (a b c d : Bool) → (n == 1) ≡ a → (n == 14) ≡ b → (n == 15) ≡ c → (n == 29) ≡ d → (a || b || c || d) ≡ true → n < 2 ^ 32
    by true b c d e f g i all = omega (arith, same 1 e)
    by false true c d e f g i all = omega (arith, same 14 f)
    by false false true d e f g i all = omega (arith, same 15 g)
    by false false false true e f g i all = omega (arith, same 29 i)
    by false false false false e f g i all = absurd cc

-- ---- the numbers fit in four bytes

pub code_small : (d : Defect) → defect_code d < 2 ^ 32
code_small NotElf = omega arith
code_small (TooShort n) = omega arith
code_small (BadClass n) = omega arith
code_small (BadData n) = omega arith
code_small (BadMachine n) = omega arith
code_small (NotShared n) = omega arith
code_small BadPhdrs = omega arith
code_small NoDynamic = omega arith
code_small DynOutside = omega arith
code_small NoStrtab = omega arith
code_small OutsideLoad = omega arith
code_small (BadString n) = omega arith
code_small BadSoname = omega arith
code_small Unsearchable = omega arith

pub value_small : (d : Defect) → IsInRange d → defect_value d < 2 ^ 32
value_small NotElf h = omega arith
value_small (TooShort n) h = omega (arith, below n 64 h)
value_small (BadClass n) h =
    let a = and_parts (nat_lt n 256 && not (n == 1)) (not (n == 2)) h in
    let b = and_parts (nat_lt n 256) (not (n == 1)) a.0 in
    omega (arith, below n 256 b.0)
value_small (BadData n) h = omega (arith, below n 256 (and_parts (nat_lt n 256) (not (n == 1)) h).0)
value_small (BadMachine n) h = omega (arith, below n 65536 h)
value_small (NotShared n) h = omega (arith, below n 65536 (and_parts (nat_lt n 65536) (not (n == 3)) h).0)
value_small BadPhdrs h = omega arith
value_small NoDynamic h = omega arith
value_small DynOutside h = omega arith
value_small NoStrtab h = omega arith
value_small OutsideLoad h = omega arith
value_small (BadString n) h = tag_small n h
value_small BadSoname h = omega arith
value_small Unsearchable h = absurd cc

-- ---- the defect with two numbers

pub found_in_range : (code value : ℕ) (d : Defect) → defect_of code value ≡ Some d → IsInRange d
unfolding defect_of
found_in_range code value d h =
    let found = find-passes (has_numbers code value) (defects_with value) d h in
    (and_parts (defect_code d == code && defect_value d == value) (is_in_range d) found).1

-- The numbers of a defect give this defect.
pub defect_back : (d : Defect) → IsInRange d → defect_of (defect_code d) (defect_value d) ≡ Some d
unfolding defect_of
defect_back NotElf h = refl
defect_back (TooShort n) h = rw (is_same n, h) refl
defect_back (BadClass n) h = rw (is_same n, h) refl
defect_back (BadData n) h = rw (is_same n, h) refl
defect_back (BadMachine n) h = rw (is_same n, h) refl
defect_back (NotShared n) h = rw (is_same n, h) refl
defect_back BadPhdrs h = refl
defect_back NoDynamic h = refl
defect_back DynOutside h = refl
defect_back NoStrtab h = refl
defect_back OutsideLoad h = refl
defect_back (BadString n) h = rw (is_same n, h) refl
defect_back BadSoname h = refl
defect_back Unsearchable h = absurd cc

-- Only a library has the code 0.
pub code_not_zero : (d : Defect) → IsInRange d → (defect_code d == 0) ≡ false
code_not_zero NotElf h = refl
code_not_zero (TooShort n) h = refl
code_not_zero (BadClass n) h = refl
code_not_zero (BadData n) h = refl
code_not_zero (BadMachine n) h = refl
code_not_zero (NotShared n) h = refl
code_not_zero BadPhdrs h = refl
code_not_zero NoDynamic h = refl
code_not_zero DynOutside h = refl
code_not_zero NoStrtab h = refl
code_not_zero OutsideLoad h = refl
code_not_zero (BadString n) h = refl
code_not_zero BadSoname h = refl
code_not_zero Unsearchable h = absurd cc
