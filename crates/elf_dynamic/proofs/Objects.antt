-- The object and the analysis of a file, from its header and its dynamic section.
use Rattle.std.proofs.Common.{◌≡◌, ℕ, Bool, true, false, cond, ◌==◌, List, [], ◌∷◌, ◌++◌, length, Option, Some, None, is_none, option_map, Result, Ok, Err, IfOk, refl, ap, sym, subst, ◌∙◌}
use Rattle.std.specs.Option.{option_map_or}
use Rattle.lib_types.specs.declared.abi.Abi.{Abi}
use Rattle.lib_types.specs.declared.analysis.Analysis.{Analysis}
use Rattle.lib_types.specs.declared.analysis.Analysis.TheVariants.{Lib, Not}
use Rattle.lib_types.specs.declared.analysis.Defect.{Defect}
use Rattle.lib_types.specs.declared.analysis.Defect.TheVariants.{BadMachine, NotShared, NoDynamic}
use Rattle.tree_face.specs.Known.{IfKnown}
use Rattle.tree_face.specs.Store.{Contents}
use Rattle.elf_headers.specs.declared.kinds.Head.{Head}
use Rattle.elf_headers.specs.declared.kinds.Segment.{Segment}
use Rattle.elf_headers.specs.Layout.{is_wide, word_size, etype, machine}
use Rattle.elf_headers.specs.Header.{Sentence, first_defect, unless_defect, header_sentences, abi, head}
use Rattle.elf_headers.specs.Reading.{OfContent}
use Rattle.elf_headers.proofs.Heads.{gives, defect_of, has_abi}
use Rattle.elf_headers.proofs.Windows.{weaken}
use Rattle.elf_dynamic.specs.declared.kinds.Dynamic.{Dynamic}
use Rattle.elf_dynamic.specs.declared.kinds.Object.{Object}
use Rattle.elf_dynamic.specs.declared.fault.ObjectFault.{ObjectFault}
use Rattle.elf_dynamic.specs.declared.fault.ObjectFault.TheVariants as faults
use Rattle.elf_dynamic.specs.declared.gather.Keep.{Keep}
use Rattle.elf_dynamic.specs.declared.gather.Keep.TheVariants.{All, Soname}
use Rattle.elf_dynamic.specs.Kept.{kept, kept_in_file, kept_object, kept_object_of}
use Rattle.elf_dynamic.proofs.Kept.{unkept_in_file, unkept_object, whole_object, library_alike}
use Rattle.elf_dynamic.specs.Faults.{IfBad, of_head}
use Rattle.elf_headers.specs.declared.fault.HeadFault.{HeadFault}
use Rattle.elf_headers.specs.declared.fault.HeadFault.TheVariants as head_faults
use Rattle.elf_headers.specs.Faults as head_facts
use Rattle.elf_dynamic.specs.Section.{dynamic_segment}
use Rattle.elf_dynamic.specs.Object.{entries, table, soname_of, dynamic_of, dynamic_sentences, object_sentences, dynamic, as_object, object}
use Rattle.elf_dynamic.specs.Analysis.{sentences, as_library, analysis_by, analysis, library_of}
use Rattle.elf_dynamic.specs.Sections.{sections_in}
use Rattle.elf_dynamic.proofs.Sections.{no_section}

-- ---- lists of rules

abbrev first : Option Defect → Option Defect → Option Defect
first (Some a) b = Some a
first None b = b

first_append : (xs ys : List Sentence) → first_defect (xs ++ ys) ≡ first (first_defect xs) (first_defect ys)
first_append [] ys = refl
first_append ((true, d) ∷ xs) ys = refl
first_append ((false, d) ∷ xs) ys = first_append xs ys

both_none : (a b : Option Defect) → first a b ≡ None → (a ≡ None) × (b ≡ None)
both_none None None h = (refl, refl)
both_none None (Some y) h = absurd (cc)
both_none (Some x) b h = absurd (cc)

ok_defect : {X : Type 0} (o : Option Defect) (r : Result X Defect) (x : X) → unless_defect o r ≡ Ok x → (o ≡ None) × (r ≡ Ok x)
ok_defect None r x h = (refl, h)
ok_defect (Some d) r x h = absurd (cc)

-- ---- the object

abbrev pub w_of : List ℕ → ℕ
w_of bytes = word_size (is_wide bytes)

object_first : (bytes : List ℕ) → first_defect (object_sentences bytes) ≡ first (first_defect (header_sentences bytes)) (first_defect (dynamic_sentences (w_of bytes) bytes))
object_first bytes = first_append (header_sentences bytes) (dynamic_sentences (w_of bytes) bytes)

pub object_head : (bytes : List ℕ) (x : Defect) → head bytes ≡ Err x → object bytes ≡ Err x
unfolding object
object_head bytes x h =
    ap (λ o. unless_defect o (as_object bytes)) (object_first bytes ∙ ap (λ o. first o (first_defect (dynamic_sentences (w_of bytes) bytes))) (defect_of (length bytes) bytes x h))

clean_first : (bytes : List ℕ) (h : Head) → head bytes ≡ Ok h → first_defect (object_sentences bytes) ≡ first_defect (dynamic_sentences (w_of bytes) bytes)
clean_first bytes h e =
    let given = gives {size = length bytes} {bytes = bytes} {h = h} e in
    object_first bytes ∙ ap (λ o. first o (first_defect (dynamic_sentences (w_of bytes) bytes))) given.no_defect

sections_bad : (o : Option Defect) (d : Option Dynamic) (x : Defect) → unless_defect {X = Option Dynamic} o (Ok d) ≡ Err x → o ≡ Some x
sections_bad None d x h = absurd (cc)
sections_bad (Some y) d x h = cc

sections_ok : (o : Option Defect) (d e : Option Dynamic) → unless_defect {X = Option Dynamic} o (Ok d) ≡ Ok e → (o ≡ None) × (d ≡ e)
sections_ok None d e h = (refl, cc)
sections_ok (Some y) d e h = absurd (cc)

at_width : (bytes : List ℕ) (h : Head) (r : Result (Option Dynamic) Defect) → head bytes ≡ Ok h → sections_in (word_size h.wide) bytes ≡ r → sections_in (w_of bytes) bytes ≡ r
at_width bytes h r e s =
    let given = gives {size = length bytes} {bytes = bytes} {h = h} e in
    ap (λ b. sections_in (word_size b) bytes) (sym given.wide_is) ∙ s

bad_sections : (bytes : List ℕ) (x : Defect) → sections_in (w_of bytes) bytes ≡ Err x → first_defect (dynamic_sentences (w_of bytes) bytes) ≡ Some x
unfolding sections_in
bad_sections bytes x h = sections_bad (first_defect (dynamic_sentences (w_of bytes) bytes)) (dynamic (w_of bytes) bytes) x h

good_sections : (bytes : List ℕ) (d : Option Dynamic) → sections_in (w_of bytes) bytes ≡ Ok d → (first_defect (dynamic_sentences (w_of bytes) bytes) ≡ None) × (dynamic (w_of bytes) bytes ≡ d)
unfolding sections_in
good_sections bytes d h = sections_ok (first_defect (dynamic_sentences (w_of bytes) bytes)) (dynamic (w_of bytes) bytes) d h

pub object_bad : (bytes : List ℕ) (h : Head) (x : Defect) → head bytes ≡ Ok h → sections_in (word_size h.wide) bytes ≡ Err x → object bytes ≡ Err x
unfolding object
object_bad bytes h x e s =
    ap (λ o. unless_defect o (as_object bytes)) (clean_first bytes h e ∙ bad_sections bytes x (at_width bytes h (Err x) e s))

abbrev made : Abi → ℕ → Option Dynamic → Object
made a t d = record { abi = a; etype = t; dynamic = d }

abbrev ok_of : Object → Result Object Defect
ok_of o = Ok o

pub object_ok : (bytes : List ℕ) (h : Head) (d : Option Dynamic) → head bytes ≡ Ok h → sections_in (word_size h.wide) bytes ≡ Ok d → object bytes ≡ Ok (record { abi = h.abi; etype = h.etype; dynamic = d })
unfolding object
object_ok bytes h d e s =
    let given = gives {size = length bytes} {bytes = bytes} {h = h} e in
    let good = good_sections bytes d (at_width bytes h (Ok d) e s) in
    let as_one : as_object bytes ≡ ok_of (made h.abi (etype bytes) (dynamic (w_of bytes) bytes)) =
    ap (λ a. option_map_or (λ a. ok_of (made a (etype bytes) (dynamic (w_of bytes) bytes))) a (Err (BadMachine (machine bytes)))) given.abi_is in
    ap (λ o. unless_defect o (as_object bytes)) (clean_first bytes h e ∙ good.0) ∙ as_one ∙ ap (λ t. ok_of (made h.abi t (dynamic (w_of bytes) bytes))) (sym given.etype_is) ∙ ap (λ d. ok_of (made h.abi h.etype d)) good.1

-- ---- the analysis

abbrev no_dynamic : ℕ → List ℕ → List Sentence
no_dynamic w bytes = (is_none (dynamic_segment w bytes), NoDynamic) ∷ []

abbrev executable : List ℕ → List Sentence
executable bytes = (etype bytes == 2, NotShared (etype bytes)) ∷ []

analysis_first : (bytes : List ℕ) → first_defect (sentences bytes)
    ≡ first (first (first (first_defect (header_sentences bytes)) (first_defect (no_dynamic (w_of bytes) bytes))) (first_defect (dynamic_sentences (w_of bytes) bytes))) (first_defect (executable bytes))
analysis_first bytes =
    let hs = header_sentences bytes in
    let ns = no_dynamic (w_of bytes) bytes in
    let ds = dynamic_sentences (w_of bytes) bytes in
    first_append (hs ++ ns ++ ds) (executable bytes)
    ∙ ap (λ o. first o (first_defect (executable bytes))) (first_append (hs ++ ns) ds ∙ ap (λ o. first o (first_defect ds)) (first_append hs ns))

abbrev not_of : Defect → Analysis
not_of d = Not d

-- the analysis, by whether the file is a program at fixed addresses
abbrev library_case : Abi → ℕ → Bool → Option Dynamic → Analysis
library_case a t two None = Not NoDynamic
library_case a t two (Some d) = cond two (Not (NotShared t)) (Lib a d.soname)

library_same : (a : Abi) (t : ℕ) (d : Option Dynamic) → library_case a t (t == 2) d ≡ library_of a t d
library_same a t None = refl
library_same a t (Some d) = refl

object_cases : (bytes : List ℕ) (o : Object) → object bytes ≡ Ok o → (first_defect (object_sentences bytes) ≡ None) × (as_object bytes ≡ Ok o)
unfolding object
object_cases bytes o h = ok_defect (first_defect (object_sentences bytes)) (as_object bytes) o h

object_made : (a : Option Abi) (t : ℕ) (d : Option Dynamic) (m : Defect) (o : Object) → option_map_or (λ a. ok_of (made a t d)) a (Err m) ≡ Ok o → (x : Abi) × (a ≡ Some x) × (made x t d ≡ o)
object_made None t d m o h = absurd (cc)
object_made (Some x) t d m o h = (x, refl, cc)

library_by : (seg : Option Segment) (two : Bool) (bytes : List ℕ) (a : Abi) (d : Dynamic) → as_library (w_of bytes) bytes ≡ Lib a d.soname →
    analysis_by (first (first (first None (first_defect ((is_none seg, NoDynamic) ∷ []))) None) (first_defect ((two, NotShared (etype bytes)) ∷ []))) bytes
    ≡ library_case a (etype bytes) two (option_map (λ _. d) seg)
library_by None two bytes a d lib = refl
library_by (Some s) true bytes a d lib = refl
library_by (Some s) false bytes a d lib = lib

pub analysis_ok : (bytes : List ℕ) (o : Object) → object bytes ≡ Ok o → analysis bytes ≡ library_of o.abi o.etype o.dynamic
unfolding analysis
analysis_ok bytes o h =
    let w = w_of bytes in
    let cases = object_cases bytes o h in
    let none = both_none (first_defect (header_sentences bytes)) (first_defect (dynamic_sentences w bytes)) (sym (object_first bytes) ∙ cases.0) in
    let (a, known, same) = object_made (abi bytes) (etype bytes) (dynamic w bytes) (BadMachine (machine bytes)) o cases.1 in
    let d = dynamic_of (table w bytes) (entries w bytes) in
    let lib : as_library w bytes ≡ Lib a d.soname = ap (λ x. option_map_or (λ a. Lib a (soname_of (table w bytes) (entries w bytes))) x (Not (BadMachine (machine bytes)))) known in
    let all : first_defect (sentences bytes) ≡ first (first (first None (first_defect (no_dynamic w bytes))) None) (first_defect (executable bytes)) =
    analysis_first bytes
    ∙ ap (λ x. first (first (first x (first_defect (no_dynamic w bytes))) (first_defect (dynamic_sentences w bytes))) (first_defect (executable bytes))) none.0
    ∙ ap (λ x. first (first (first None (first_defect (no_dynamic w bytes))) x) (first_defect (executable bytes))) none.1 in
    ap (λ o. analysis_by o bytes) all
    ∙ library_by (dynamic_segment w bytes) (etype bytes == 2) bytes a d lib
    ∙ library_same a (etype bytes) (dynamic w bytes)
    ∙ ap (λ o. library_of o.abi o.etype o.dynamic) same

bad_as : (a : Option Abi) (t : ℕ) (d : Option Dynamic) (m x : Defect) → option_map_or (λ a. ok_of (made a t d)) a (Err m) ≡ Err x → is_none a ≡ true
bad_as None t d m x h = refl
bad_as (Some y) t d m x h = absurd (cc)

object_fails : (bytes : List ℕ) (x : Defect) → object bytes ≡ Err x → first_defect (object_sentences bytes) ≡ Some x
unfolding object
object_fails bytes x h = by (first_defect (object_sentences bytes)) refl h
  where
    by : (o : Option Defect) → first_defect (object_sentences bytes) ≡ o → unless_defect o (as_object bytes) ≡ Err x → o ≡ Some x
    by (Some y) e h = cc
    by None e h =
        let none = both_none (first_defect (header_sentences bytes)) (first_defect (dynamic_sentences (w_of bytes) bytes)) (sym (object_first bytes) ∙ e) in
        let known = has_abi (length bytes) bytes none.0 in
        let unknown = bad_as (abi bytes) (etype bytes) (dynamic (w_of bytes) bytes) (BadMachine (machine bytes)) x h in
        absurd (cc)

not_by : (seg : Option Segment) (fh fd fe : Option Defect) (x : Defect) (bytes : List ℕ) → (seg ≡ None → fd ≡ None) → first fh fd ≡ Some x →
    analysis_by (first (first (first fh (first_defect ((is_none seg, NoDynamic) ∷ []))) fd) fe) bytes ≡ Not x
not_by seg (Some y) fd fe x bytes none h = let same : y ≡ x = cc in ap not_of same
not_by None None fd fe x bytes none h = absurd (let e = none refl in cc)
not_by (Some s) None None fe x bytes none h = absurd (cc)
not_by (Some s) None (Some y) fe x bytes none h = let same : y ≡ x = cc in ap not_of same

pub analysis_bad : (bytes : List ℕ) (x : Defect) → object bytes ≡ Err x → analysis bytes ≡ Not x
unfolding analysis
analysis_bad bytes x h =
    ap (λ o. analysis_by o bytes) (analysis_first bytes)
    ∙ not_by (dynamic_segment (w_of bytes) bytes) (first_defect (header_sentences bytes)) (first_defect (dynamic_sentences (w_of bytes) bytes)) (first_defect (executable bytes)) x bytes (no_section (w_of bytes) bytes)
    (sym (object_first bytes) ∙ object_fails bytes x h)

-- ---- if the content is known

pub at_known : (P : List ℕ → Type 0) (known : Option (List ℕ)) (bytes : List ℕ) → known ≡ Some bytes → IfKnown known P → P bytes
at_known P known bytes e h = subst (λ o. IfKnown o P) e h

pub content_object : (keep : Keep) (held : Option Contents) (key : List ℕ) (known : Option (List ℕ)) (h : Head) (d : Option Dynamic) (o : Object) → o ≡ record { abi = h.abi; etype = h.etype; dynamic = d } →
    OfContent held key (λ bytes. known ≡ Some bytes) → IfKnown known (λ bytes. head bytes ≡ Ok h) → IfKnown known (λ bytes. kept_in_file keep (sections_in (word_size h.wide) bytes) ≡ Ok (option_map (kept keep) d)) →
    OfContent held key (λ bytes. kept_object_of keep (object bytes) ≡ Ok (kept_object keep o))
content_object keep held key known h d o is content is_head read =
    weaken {P = λ bytes. known ≡ Some bytes} {Q = λ bytes. kept_object_of keep (object bytes) ≡ Ok (kept_object keep o)} held key
    (λ bytes e.
    let P = λ (bytes : List ℕ). kept_in_file keep (sections_in (word_size h.wide) bytes) ≡ Ok (option_map (kept keep) d) in
    let (x, is_x, alike) = unkept_in_file keep (sections_in (word_size h.wide) bytes) d (at_known P known bytes e read) in
    ap (kept_object_of keep) (object_ok bytes h x (at_known (λ bytes. head bytes ≡ Ok h) known bytes e is_head) is_x)
    ∙ ap (λ d. ok_of (made h.abi h.etype d)) alike
    ∙ ap (λ o. ok_of (kept_object keep o)) (sym is))
    content

-- the object with all texts
pub content_whole : (held : Option Contents) (key : List ℕ) (r : Result Object ObjectFault) → IfOk r (λ o. OfContent held key (λ bytes. kept_object_of All (object bytes) ≡ Ok (kept_object All o))) →
    IfOk r (λ o. OfContent held key (λ bytes. object bytes ≡ Ok o))
content_whole held key (Err f) content = tt
content_whole held key (Ok o) content =
    weaken {P = λ bytes. kept_object_of All (object bytes) ≡ Ok (kept_object All o)} {Q = λ bytes. object bytes ≡ Ok o} held key
    (λ bytes e. let (x, is, alike) = unkept_object All (object bytes) o e in is ∙ ap ok_of (sym (whole_object x) ∙ alike ∙ whole_object o))
    content

pub content_bad : (held : Option Contents) (key : List ℕ) (known : Option (List ℕ)) (h : Head) (x : Defect) →
    OfContent held key (λ bytes. known ≡ Some bytes) → IfKnown known (λ bytes. head bytes ≡ Ok h) → IfKnown known (λ bytes. sections_in (word_size h.wide) bytes ≡ Err x) → OfContent held key (λ bytes. object bytes ≡ Err x)
content_bad held key known h x content is_head read =
    weaken {P = λ bytes. known ≡ Some bytes} {Q = λ bytes. object bytes ≡ Err x} held key
    (λ bytes e. object_bad bytes h x (at_known (λ bytes. head bytes ≡ Ok h) known bytes e is_head) (at_known (λ bytes. sections_in (word_size h.wide) bytes ≡ Err x) known bytes e read))
    content

pub content_fault : (held : Option Contents) (key : List ℕ) (known : Option (List ℕ)) (h : Head) (fault : ObjectFault) → OfContent held key (λ bytes. known ≡ Some bytes) → IfKnown known (λ bytes. head bytes ≡ Ok h) →
    IfBad {X = Option Dynamic} (Err fault) (λ d. IfKnown known (λ bytes. sections_in (word_size h.wide) bytes ≡ Err d)) → IfBad {X = Object} (Err fault) (λ d. OfContent held key (λ bytes. object bytes ≡ Err d))
content_fault held key known h (faults.Bad d) content is_head bad = content_bad held key known h d content is_head bad
content_fault held key known h faults.StoreFault content is_head bad = tt
content_fault held key known h faults.NoMemory content is_head bad = tt

pub content_head : (held : Option Contents) (key : List ℕ) (x : Defect) → OfContent held key (λ bytes. head bytes ≡ Err x) → OfContent held key (λ bytes. object bytes ≡ Err x)
content_head held key x content = weaken {P = λ bytes. head bytes ≡ Err x} {Q = λ bytes. object bytes ≡ Err x} held key (λ bytes e. object_head bytes x e) content

pub content_analysis : (held : Option Contents) (key : List ℕ) (o : Object) (a : Analysis) → a ≡ library_of o.abi o.etype o.dynamic → OfContent held key (λ bytes. kept_object_of Soname (object bytes) ≡ Ok (kept_object Soname o)) → OfContent held key (λ bytes. analysis bytes ≡ a)
content_analysis held key o a is content =
    weaken {P = λ bytes. kept_object_of Soname (object bytes) ≡ Ok (kept_object Soname o)} {Q = λ bytes. analysis bytes ≡ a} held key
    (λ bytes e. let (x, is_x, alike) = unkept_object Soname (object bytes) o e in analysis_ok bytes x is_x ∙ library_alike x o alike ∙ sym is)
    content

pub content_not : (held : Option Contents) (key : List ℕ) (x : Defect) → OfContent held key (λ bytes. object bytes ≡ Err x) → OfContent held key (λ bytes. analysis bytes ≡ Not x)
content_not held key x content = weaken {P = λ bytes. object bytes ≡ Err x} {Q = λ bytes. analysis bytes ≡ Not x} held key (λ bytes e. analysis_bad bytes x e) content

-- ---- the faults of other calls

pub head_fault : (P Q : Defect → Type 0) (f : HeadFault) (r : ObjectFault) → r ≡ of_head f → ((x : Defect) → P x → Q x) → head_facts.IfBad (Err f) P → IfBad {X = Object} (Err r) Q
head_fault P Q (head_faults.Bad x) r e f h = subst (λ r. IfBad {X = Object} (Err r) Q) (sym e) (f x h)
head_fault P Q head_faults.StoreFault r e f h = subst (λ r. IfBad {X = Object} (Err r) Q) (sym e) tt

pub object_not : (held : Option Contents) (key : List ℕ) (f : ObjectFault) (x : Defect) → f ≡ faults.Bad x → IfBad {X = Object} (Err f) (λ d. OfContent held key (λ bytes. object bytes ≡ Err d)) → OfContent held key (λ bytes. analysis bytes ≡ Not x)
object_not held key f x e h = content_not held key x (subst (λ f. IfBad {X = Object} (Err f) (λ d. OfContent held key (λ bytes. object bytes ≡ Err d))) e h)
