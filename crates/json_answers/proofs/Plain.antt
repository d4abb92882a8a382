-- The answers have no floats, and nest at most six levels deep. So JSON readers take them.
use Rattle.std.proofs.Common.{◌≡◌, ◌≤◌, ◌||◌, ℕ, suc, List, [], ◌∷◌, Bool, true, false, Option, Some, None, Result, Ok, Err, map, if◌then◌else◌, ◌∙◌, ◌++◌, ap, refl, subst, sym, arith}
use Rattle.std.proofs.Math.Nat.{max-le}
use Rattle.std.specs.Str.{is_utf8}
use Rattle.lib_types.specs.Abi.{abi_of_flags}
use Rattle.lib_types.specs.declared.abi.Abi.{Abi}
use Rattle.cache_reader.specs.Cache.{CachedEntry, generator, read}
use Rattle.ldd_resolve.specs.declared.kinds.Item.{Item}
use Rattle.ldd_resolve.specs.declared.kinds.ProgramFault.{ProgramFault}
use Rattle.ldd_resolve.specs.declared.kinds.ProgramFault.TheVariants.{NoProgram, BadProgram}
use Rattle.ldd_resolve.specs.declared.kinds.ProgramScope.{ProgramScope}
use Rattle.ldd_resolve.specs.declared.kinds.Scope.{Scope}
use Rattle.serde_json.specs.Data.{Data, null, array, object, Items, Members, no_members, member, depth, items_depth, members_depth}
use Rattle.serde_json.specs.Read.{max_depth}
use Rattle.serde_json.specs.Read as reading
use Rattle.serde_json.specs.View.{items_of}
use Rattle.serde_json.specs.Written.{compact_text, has_float, items_have_float, members_have_float}
use Rattle.json_texts.specs.Texts.{bytes_data, optional_data}
use Rattle.json_answers.specs.Cached.{abi_data, cache_data, entry_data, hwcap_data}
use Rattle.json_answers.specs.Looked.{lookup_data}
use Rattle.json_answers.specs.Texts.{IsReadBack, json_text}
use Rattle.json_answers.specs.Programs.{defect_data, fault_data, item_data, libraries_data, program_data, programs_data}

record IsPlain (n : ℕ) (d : Data) : Type 0 where
  float : has_float d ≡ false
  deep : depth d ≤ n

record AreItemsPlain (n : ℕ) (ds : Items) : Type 0 where
  float : items_have_float ds ≡ false
  deep : items_depth ds ≤ n

record AreMembersPlain (n : ℕ) (ms : Members) : Type 0 where
  float : members_have_float ms ≡ false
  deep : members_depth ms ≤ n

neither : (a b : Bool) → a ≡ false → b ≡ false → (a || b) ≡ false
neither false b first second = second
neither true b first second = absurd (cc)

-- ---- from the parts to the whole

each_plain : {A : Type 0} (f : A → Data) (n : ℕ) → ((a : A) → IsPlain n (f a)) → (xs : List A) → AreItemsPlain n (items_of (map f xs))
each_plain f n one [] = record { float = refl; deep = omega arith }
each_plain f n one (x ∷ xs) =
    let first = one x in
    let others = each_plain f n one xs in
    record { float = neither _ _ first.float others.float; deep = max-le first.deep others.deep }

array_plain : {A : Type 0} (f : A → Data) (n : ℕ) → ((a : A) → IsPlain n (f a)) → (xs : List A) → IsPlain (suc n) (array (items_of (map f xs)))
array_plain f n one xs =
    let items = each_plain f n one xs in
    let deep = items.deep in
    record { float = items.float; deep = omega (arith, deep) }

no_more : (n : ℕ) → AreMembersPlain n no_members
no_more n = record { float = refl; deep = omega arith }

and : (n : ℕ) (key : List ℕ) (d : Data) (ms : Members) → IsPlain n d → AreMembersPlain n ms → AreMembersPlain n (member key d ms)
and n key d ms first others = record { float = neither _ _ first.float others.float; deep = max-le first.deep others.deep }

object_plain : (n : ℕ) (ms : Members) → AreMembersPlain n ms → IsPlain (suc n) (object ms)
object_plain n ms members =
    let deep = members.deep in
    record { float = members.float; deep = omega (arith, deep) }

-- ---- texts

by_test : (n : ℕ) (b : Bool) (c d : Data) → IsPlain n c → IsPlain n d → IsPlain n (if b then c else d)
by_test n true c d first second = first
by_test n false c d first second = second

bytes_plain : (n : ℕ) (bytes : List ℕ) → IsPlain (suc n) (bytes_data bytes)
bytes_plain n bytes = by_test (suc n) (is_utf8 bytes) _ _ (record { float = refl; deep = omega arith }) (record { float = refl; deep = omega arith })

null_plain : (n : ℕ) → IsPlain n null
null_plain n = record { float = refl; deep = omega arith }

optional_plain : (n : ℕ) (bytes : Option (List ℕ)) → IsPlain (suc n) (optional_data bytes)
optional_plain n None = null_plain (suc n)
optional_plain n (Some bytes) = bytes_plain n bytes

-- ---- the text of a value

pub written_as : (d e : Data) (text : List ℕ) → d ≡ e → has_float e ≡ false → (has_float d ≡ false → text ≡ compact_text d ++ 10 ∷ []) → text ≡ json_text e
written_as d e text is float written = written (ap has_float is ∙ float) ∙ ap json_text is

pub read_as : (d e : Data) → d ≡ e → has_float e ≡ false → depth e ≤ max_depth
    → (has_float d ≡ false → depth d ≤ max_depth → reading.read (compact_text d) ≡ Some d) → IsReadBack e
read_as d e is float deep back = subst IsReadBack is (back (ap has_float is ∙ float) (subst (λ (x : Data). depth x ≤ max_depth) (sym is) deep))

-- ---- a cache

abi_plain : (abi : Option Abi) → IsPlain 1 (abi_data abi)
abi_plain None = null_plain 1
abi_plain (Some abi) = bytes_plain 0 _

hwcap_plain : (bits : ℕ) (cap : Option (List ℕ)) → IsPlain 1 (hwcap_data bits cap)
hwcap_plain bits None = record { float = refl; deep = omega arith }
hwcap_plain bits (Some cap) = null_plain 1

entry_plain : (e : CachedEntry) → IsPlain 2 (entry_data e)
entry_plain e =
    object_plain 1 _
    (and 1 _ _ _ (abi_plain (abi_of_flags e.flags))
    (and 1 _ _ _ (record { float = refl; deep = omega arith })
    (and 1 _ _ _ (hwcap_plain e.hwcap e.cap)
    (and 1 _ _ _ (optional_plain 0 e.cap)
    (and 1 _ _ _ (bytes_plain 0 e.name)
    (and 1 _ _ _ (bytes_plain 0 e.path) (no_more 1)))))))

cache_plain : (name bytes : List ℕ) → IsPlain 4 (cache_data name bytes)
cache_plain name bytes =
    object_plain 3 _
    (and 3 _ _ _ (bytes_plain 2 name)
    (and 3 _ _ _ (array_plain entry_data 2 entry_plain (read bytes))
    (and 3 _ _ _ (optional_plain 2 (generator bytes)) (no_more 3))))

pub cache_float : (name bytes : List ℕ) → has_float (cache_data name bytes) ≡ false
cache_float name bytes = (cache_plain name bytes).float

pub cache_depth : (name bytes : List ℕ) → depth (cache_data name bytes) ≤ max_depth
cache_depth name bytes =
    let deep = (cache_plain name bytes).deep in
    omega (arith, deep)

-- ---- a lookup

lookup_plain : (name : List ℕ) (abi : Abi) (path : Option (List ℕ)) → IsPlain 2 (lookup_data name abi path)
lookup_plain name abi path =
    object_plain 1 _
    (and 1 _ _ _ (bytes_plain 0 _)
    (and 1 _ _ _ (bytes_plain 0 name)
    (and 1 _ _ _ (optional_plain 0 path) (no_more 1))))

pub lookup_float : (name : List ℕ) (abi : Abi) (path : Option (List ℕ)) → has_float (lookup_data name abi path) ≡ false
lookup_float name abi path = (lookup_plain name abi path).float

pub lookup_depth : (name : List ℕ) (abi : Abi) (path : Option (List ℕ)) → depth (lookup_data name abi path) ≤ max_depth
lookup_depth name abi path =
    let deep = (lookup_plain name abi path).deep in
    omega (arith, deep)

-- ---- programs

item_plain : (i : Item) → IsPlain 2 (item_data i)
item_plain i = object_plain 1 _ (and 1 _ _ _ (bytes_plain 0 i.name) (and 1 _ _ _ (optional_plain 0 i.path) (no_more 1)))

libraries_plain : (scope : Result Scope ProgramFault) → IsPlain 3 (libraries_data scope)
libraries_plain (Ok scope) = array_plain item_data 2 item_plain scope.listing
libraries_plain (Err fault) = null_plain 3

fault_plain : (scope : Result Scope ProgramFault) → IsPlain 3 (fault_data scope)
fault_plain (Ok scope) = null_plain 3
fault_plain (Err NoProgram) = bytes_plain 2 _
fault_plain (Err (BadProgram defect)) = bytes_plain 2 _

defect_plain : (scope : Result Scope ProgramFault) → IsPlain 3 (defect_data scope)
defect_plain (Ok scope) = null_plain 3
defect_plain (Err NoProgram) = null_plain 3
defect_plain (Err (BadProgram defect)) = bytes_plain 2 _

program_plain : (p : ProgramScope) → IsPlain 4 (program_data p)
program_plain p =
    object_plain 3 _
    (and 3 _ _ _ (defect_plain p.scope)
    (and 3 _ _ _ (fault_plain p.scope)
    (and 3 _ _ _ (libraries_plain p.scope)
    (and 3 _ _ _ (bytes_plain 2 p.path) (no_more 3)))))

programs_plain : (ps : List ProgramScope) → IsPlain 6 (programs_data ps)
programs_plain ps = object_plain 5 _ (and 5 _ _ _ (array_plain program_data 4 program_plain ps) (no_more 5))

pub programs_float : (ps : List ProgramScope) → has_float (programs_data ps) ≡ false
programs_float ps = (programs_plain ps).float

pub programs_depth : (ps : List ProgramScope) → depth (programs_data ps) ≤ max_depth
programs_depth ps =
    let deep = (programs_plain ps).deep in
    omega (arith, deep)
