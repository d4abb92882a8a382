-- What is found before memory is allocated.
use Rattle.std.proofs.Common.{◌≡◌, ℕ, ◌<◌, ◌||◌, ◌==◌, Bool, true, false, cond, not, is_some, is_none, List, Option, Some, None, Result, Ok, Err, IfErr, IsErrOf, IsSome, refl, sym, ap, subst, arith}
use Rattle.std.proofs.lemmas.Bool.Decides.{nat_tests}
use Rattle.std.specs.List.{list_any}
use Rattle.std.specs.Option.{option_map_or}
use Rattle.lib_types.specs.Name.{is_name}
use Rattle.lib_types.specs.declared.abi.Abi.{Abi}
use Rattle.lib_types.specs.declared.analysis.Analysis.TheVariants.{Lib, Not}
use Rattle.lib_types.specs.declared.analysis.Defect.{Defect}
use Rattle.lib_types.specs.declared.analysis.Defect.TheVariants.{BadString, BadSoname, NotShared}
use Rattle.tree_face.specs.Known.{IfKnown}
use Rattle.tree_face.specs.Store.{Contents}
use Rattle.elf_headers.specs.declared.kinds.Head.{Head}
use Rattle.elf_headers.specs.declared.kinds.Segment.{Segment}
use Rattle.elf_headers.specs.Header.{head}
use Rattle.elf_headers.specs.Layout.{word_size}
use Rattle.elf_headers.specs.Reading.{OfContent}
use Rattle.elf_headers.proofs.Windows.{weaken}
use Rattle.elf_dynamic.specs.declared.fault.ObjectFault.{ObjectFault}
use Rattle.elf_dynamic.specs.declared.kinds.Dynamic.{Dynamic}
use Rattle.elf_dynamic.specs.declared.kinds.DynamicEntry.{DynamicEntry}
use Rattle.elf_dynamic.specs.declared.kinds.Object.{Object}
use Rattle.elf_dynamic.specs.declared.values.Values.{Values}
use Rattle.elf_dynamic.specs.Analysis.{analysis, library_of}
use Rattle.elf_dynamic.specs.Memory.{IsAfterTexts, SectionTakesMemory, ObjectTakesMemory, AnalysisTakesMemory}
use Rattle.elf_dynamic.specs.Object.{bad_entry, soname_of, dynamic_of, object}
use Rattle.elf_dynamic.specs.Section.{strtab, strsz, value_of, has_text, dynamic_entries}
use Rattle.elf_dynamic.specs.Sections.{section_of, section_in, sections_in, table_by}
use Rattle.elf_dynamic.specs.Values.{values_of}
use Rattle.elf_dynamic.proofs.Known.{both}
use Rattle.elf_dynamic.proofs.Objects.{object_ok, object_bad, analysis_ok, analysis_bad, at_known}
use Rattle.elf_dynamic.proofs.Sections.{with_table, strings_there, some_with_text}

-- the fault of the inner call is the fault of the function
pub fault_is : (X Y : Type 0) (f g : ObjectFault) → IsErrOf {T = X} (Err f) g → IsErrOf {T = Y} (Err f) g
fault_is X Y f g h = let same : f ≡ g = cc in ap Err same

-- ---- a section that has a string table

by_texts : (a b : Bool) (tag : ℕ) (d : Dynamic) → IfErr (cond a (Err (BadString tag)) (cond b (Err BadSoname) (Ok d))) IsAfterTexts
by_texts true b tag d = tt
by_texts false true tag d = tt
by_texts false false tag d = tt

with_texts : (t : List ℕ) (es : List DynamicEntry) → list_any has_text es ≡ true → (is_none (value_of strtab es) || is_none (value_of strsz es)) ≡ false → IfErr (section_of (Some t) es) IsAfterTexts
with_texts t es h k =
    let bad = bad_entry (Some t) es in
    subst (λ r. IfErr r IsAfterTexts) (sym (with_table t es h k)) (by_texts (is_some bad) (not (option_map_or is_name (soname_of (Some t) es) true)) (option_map_or (λ e. e.tag) bad 0) (dynamic_of (Some t) es))

pub texts_known : (known : Option (List ℕ)) (w : ℕ) (s : Segment) (v : Values) (t : List ℕ → List ℕ) → IfKnown known (λ bytes. v ≡ values_of (dynamic_entries w bytes s)) → 0 < v.texts →
    IfKnown known (λ bytes. table_by w bytes v.strtab v.strsz ≡ Ok (t bytes)) → IfKnown known (λ bytes. IfErr (section_in w bytes s) IsAfterTexts)
unfolding section_in
texts_known known w s v t is h there =
    both {P = λ bytes. v ≡ values_of (dynamic_entries w bytes s)} {Q = λ bytes. table_by w bytes v.strtab v.strsz ≡ Ok (t bytes)} {R = λ bytes. IfErr (section_in w bytes s) IsAfterTexts} known is there
    (λ bytes e there.
    let es = dynamic_entries w bytes s in
    let strings = strings_there w bytes v.strtab v.strsz (t bytes) es (sym (ap (λ v. v.strtab) e)) (sym (ap (λ v. v.strsz) e)) there in
    subst (λ t. IfErr (section_of t es) IsAfterTexts) (sym strings.0) (with_texts (t bytes) es (some_with_text es (subst (λ n. 0 < n) (ap (λ v. v.texts) e) h)) strings.1))

-- ---- an object

object_takes : (bytes : List ℕ) (h : Head) → head bytes ≡ Ok h → SectionTakesMemory (sections_in (word_size h.wide) bytes) → ObjectTakesMemory (object bytes)
object_takes bytes h is_head takes = by (sections_in (word_size h.wide) bytes) refl takes
  where
    by : (r : Result (Option Dynamic) Defect) → sections_in (word_size h.wide) bytes ≡ r → SectionTakesMemory r → ObjectTakesMemory (object bytes)
    by (Ok d) e takes = subst ObjectTakesMemory (sym (object_ok bytes h d is_head e)) takes
    by (Err x) e takes = subst ObjectTakesMemory (sym (object_bad bytes h x is_head e)) takes

pub content_takes : (held : Option Contents) (key : List ℕ) (known : Option (List ℕ)) (h : Head) → OfContent held key (λ bytes. known ≡ Some bytes) → IfKnown known (λ bytes. head bytes ≡ Ok h) →
    IfKnown known (λ bytes. SectionTakesMemory (sections_in (word_size h.wide) bytes)) → OfContent held key (λ bytes. ObjectTakesMemory (object bytes))
content_takes held key known h content is_head takes =
    weaken {P = λ bytes. known ≡ Some bytes} {Q = λ bytes. ObjectTakesMemory (object bytes)} held key
    (λ bytes e. object_takes bytes h (at_known (λ bytes. head bytes ≡ Ok h) known bytes e is_head) (at_known (λ bytes. SectionTakesMemory (sections_in (word_size h.wide) bytes)) known bytes e takes))
    content

-- ---- the analysis of an object

library_takes : (abi : Abi) (type : ℕ) (d : Option Dynamic) → IsSome d → AnalysisTakesMemory (library_of abi type d)
library_takes abi type None some = absurd (cc)
library_takes abi type (Some d) some = by (type == 2) refl
  where
    by : (b : Bool) → (type == 2) ≡ b → AnalysisTakesMemory (cond b (Not (NotShared type)) (Lib abi d.soname))
    by true e = grind (arith, nat_tests)
    by false e = tt

analysis_takes : (bytes : List ℕ) → ObjectTakesMemory (object bytes) → AnalysisTakesMemory (analysis bytes)
analysis_takes bytes takes = by (object bytes) refl takes
  where
    by : (r : Result Object Defect) → object bytes ≡ r → ObjectTakesMemory r → AnalysisTakesMemory (analysis bytes)
    by (Ok o) e takes = subst AnalysisTakesMemory (sym (analysis_ok bytes o e)) (library_takes o.abi o.etype o.dynamic takes)
    by (Err x) e takes = subst AnalysisTakesMemory (sym (analysis_bad bytes x e)) takes

pub library_content : (held : Option Contents) (key : List ℕ) → OfContent held key (λ bytes. ObjectTakesMemory (object bytes)) → OfContent held key (λ bytes. AnalysisTakesMemory (analysis bytes))
library_content held key takes =
    weaken {P = λ bytes. ObjectTakesMemory (object bytes)} {Q = λ bytes. AnalysisTakesMemory (analysis bytes)} held key analysis_takes takes
