-- The part of a section that is kept, if not all texts are kept. What later entries add doesn't depend on the texts that are dropped.
use Rattle.std.proofs.Common.{◌≡◌, ℕ, ◌+◌, Bool, true, false, cond, ◌==◌, List, [], ◌∷◌, ◌++◌, Option, Some, None, is_none, option_map, Result, Ok, Err, refl, ap, sym, ◌∙◌}
use Rattle.lib_types.specs.declared.abi.Abi.{Abi}
use Rattle.lib_types.specs.declared.analysis.Defect.{Defect}
use Rattle.lib_types.specs.declared.analysis.Defect.TheVariants.{BadString}
use Rattle.elf_dynamic.specs.declared.gather.Keep.{Keep}
use Rattle.elf_dynamic.specs.declared.gather.Keep.TheVariants.{All, Soname}
use Rattle.elf_dynamic.specs.declared.kinds.DynamicEntry.{DynamicEntry}
use Rattle.elf_dynamic.specs.declared.kinds.Dynamic.{Dynamic}
use Rattle.elf_dynamic.specs.declared.kinds.Object.{Object}
use Rattle.elf_dynamic.specs.Analysis.{library_of}
use Rattle.elf_dynamic.specs.Kept.{kept_text, kept, kept_of, kept_in_file, kept_object, kept_object_of}
use Rattle.elf_dynamic.specs.Section.{has_text_at, text_at}
use Rattle.elf_dynamic.specs.Sections.{name_of}
use Rattle.elf_dynamic.specs.Texts.{counts, with_text, gathered, counted}

-- ---- two sections whose kept parts are equal

pub unkept : (keep : Keep) (r : Result Dynamic Defect) (d : Dynamic) → kept_of keep r ≡ Ok (kept keep d) → (x : Dynamic) × (r ≡ Ok x) × (kept keep x ≡ kept keep d)
unkept keep (Ok x) d h = (x, refl, cc)
unkept keep (Err x) d h = absurd (cc)

pub unkept_bad : (keep : Keep) (r : Result Dynamic Defect) (x : Defect) → kept_of keep r ≡ Err x → r ≡ Err x
unkept_bad keep (Ok d) x h = absurd (cc)
unkept_bad keep (Err y) x h = cc

pub unkept_in_file : (keep : Keep) (r : Result (Option Dynamic) Defect) (d : Option Dynamic) → kept_in_file keep r ≡ Ok (option_map (kept keep) d) →
    (x : Option Dynamic) × (r ≡ Ok x) × (option_map (kept keep) x ≡ option_map (kept keep) d)
unkept_in_file keep (Ok x) d h = (x, refl, cc)
unkept_in_file keep (Err x) d h = absurd (cc)

pub unkept_object : (keep : Keep) (r : Result Object Defect) (o : Object) → kept_object_of keep r ≡ Ok (kept_object keep o) → (x : Object) × (r ≡ Ok x) × (kept_object keep x ≡ kept_object keep o)
unkept_object keep (Ok x) o h = (x, refl, cc)
unkept_object keep (Err x) o h = absurd (cc)

all_kept : (d : Option Dynamic) → option_map (kept All) d ≡ d
all_kept None = refl
all_kept (Some d) = refl

pub whole_object : (o : Object) → kept_object All o ≡ o
whole_object o = ap (λ d. record o { dynamic = d }) (all_kept o.dynamic)

-- ---- what is read from the kept part

pub soname_alike : (keep : Keep) (d e : Dynamic) → kept keep d ≡ kept keep e → d.soname ≡ e.soname
soname_alike All d e h = ap (λ (d : Dynamic). d.soname) h
soname_alike Soname d e h = ap (λ (d : Dynamic). d.soname) h

abbrev pub with_name : Dynamic → Dynamic
with_name d = record d { soname = name_of d.soname }

pub name_alike : (keep : Keep) (d e : Dynamic) → kept keep d ≡ kept keep e → kept keep (record d { soname = name_of d.soname }) ≡ kept keep (record e { soname = name_of e.soname })
name_alike All d e h = ap with_name h
name_alike Soname d e h = ap with_name h

library_of_kept : (a : Abi) (type : ℕ) (d : Option Dynamic) → library_of a type (option_map (kept Soname) d) ≡ library_of a type d
library_of_kept a type None = refl
library_of_kept a type (Some d) = refl

pub library_alike : (o p : Object) → kept_object Soname o ≡ kept_object Soname p → library_of o.abi o.etype o.dynamic ≡ library_of p.abi p.etype p.dynamic
library_alike o p h =
    sym (library_of_kept o.abi o.etype o.dynamic) ∙ ap (λ (o : Object). library_of o.abi o.etype o.dynamic) h ∙ library_of_kept p.abi p.etype p.dynamic

none_kept : (o : Option (List ℕ)) → is_none (option_map (kept_text false) o) ≡ is_none o
none_kept None = refl
none_kept (Some x) = refl

counts_kept : (keep : Keep) (d : Dynamic) (tag : ℕ) → counts (kept keep d) tag ≡ counts d tag
counts_kept All d tag = refl
counts_kept Soname d tag = rw (none_kept d.rpath, none_kept d.runpath) refl

counts_alike : (keep : Keep) (d e : Dynamic) (tag : ℕ) → kept keep d ≡ kept keep e → counts d tag ≡ counts e tag
counts_alike keep d e tag h = sym (counts_kept keep d tag) ∙ ap (λ (d : Dynamic). counts d tag) h ∙ counts_kept keep e tag

-- ---- one more text

twice : (o : Option (List ℕ)) → option_map (kept_text false) (option_map (kept_text false) o) ≡ option_map (kept_text false) o
twice None = refl
twice (Some x) = refl

abbrev left_of : Option (List ℕ) → Option (List ℕ) → Option (List ℕ) → Bool → Dynamic
left_of s r u f = record { soname = s; needed = []; rpath = r; runpath = u; nodeflib = f }

left_alike : (s : Option (List ℕ)) (f : Bool) (r q u v : Option (List ℕ)) → r ≡ q → u ≡ v → left_of s r u f ≡ left_of s q v f
left_alike s f r q u v h k = ap (λ r. left_of s r u f) h ∙ ap (λ u. left_of s q u f) k

text_kept : (keep : Keep) (tag : ℕ) (text : List ℕ) (d : Dynamic) → kept keep (with_text tag text (kept keep d)) ≡ kept keep (with_text tag text d)
text_kept All tag text d = refl
text_kept Soname tag text d = by (tag == 1) (tag == 14) (tag == 15)
  where
    by : (a b c : Bool) →
        kept Soname
        (cond a (record (kept Soname d) { needed = [] ++ text ∷ [] })
        (cond b (record (kept Soname d) { soname = Some text }) (cond c (record (kept Soname d) { rpath = Some text }) (record (kept Soname d) { runpath = Some text }))))
        ≡ kept Soname (cond a (record d { needed = d.needed ++ text ∷ [] }) (cond b (record d { soname = Some text }) (cond c (record d { rpath = Some text }) (record d { runpath = Some text }))))
    by true b c = left_alike d.soname d.nodeflib _ _ _ _ (twice d.rpath) (twice d.runpath)
    by false true c = left_alike (Some text) d.nodeflib _ _ _ _ (twice d.rpath) (twice d.runpath)
    by false false true = left_alike d.soname d.nodeflib _ _ _ _ refl (twice d.runpath)
    by false false false = left_alike d.soname d.nodeflib _ _ _ _ (twice d.rpath) refl

text_alike : (keep : Keep) (tag : ℕ) (text : List ℕ) (d e : Dynamic) → kept keep d ≡ kept keep e → kept keep (with_text tag text d) ≡ kept keep (with_text tag text e)
text_alike keep tag text d e h = sym (text_kept keep tag text d) ∙ ap (λ (d : Dynamic). kept keep (with_text tag text d)) h ∙ text_kept keep tag text e

-- ---- all later texts

abbrev pub ok_of : Dynamic → Result Dynamic Defect
ok_of d = Ok d

pub gathered_alike : (keep : Keep) (t : List ℕ) (es : List DynamicEntry) (d e : Dynamic) → kept keep d ≡ kept keep e → kept_of keep (gathered t d es) ≡ kept_of keep (gathered t e es)
gathered_alike keep t [] d e h = ap ok_of h
gathered_alike keep t (x ∷ rest) d e h =
    by (counts d x.tag) (counts e x.tag) (has_text_at t x.value) (counts_alike keep d e x.tag h)
    (gathered_alike keep t rest (with_text x.tag (text_at t x.value) d) (with_text x.tag (text_at t x.value) e) (text_alike keep x.tag (text_at t x.value) d e h))
    (gathered_alike keep t rest d e h)
  where
    by : (a b c : Bool) → a ≡ b →
        kept_of keep (gathered t (with_text x.tag (text_at t x.value) d) rest) ≡ kept_of keep (gathered t (with_text x.tag (text_at t x.value) e) rest) →
        kept_of keep (gathered t d rest) ≡ kept_of keep (gathered t e rest) →
        kept_of keep (cond a (cond c (gathered t (with_text x.tag (text_at t x.value) d) rest) (Err (BadString x.tag))) (gathered t d rest))
        ≡ kept_of keep (cond b (cond c (gathered t (with_text x.tag (text_at t x.value) e) rest) (Err (BadString x.tag))) (gathered t e rest))
    by true true true same more on = more
    by true true false same more on = refl
    by false false c same more on = on
    by true false c same more on = absurd (cc)
    by false true c same more on = absurd (cc)

pub counted_alike : (keep : Keep) (t : List ℕ) (es : List DynamicEntry) (d e : Dynamic) → kept keep d ≡ kept keep e → counted t d es ≡ counted t e es
counted_alike keep t [] d e h = refl
counted_alike keep t (x ∷ rest) d e h =
    by (counts d x.tag) (counts e x.tag) (counts_alike keep d e x.tag h)
    (counted_alike keep t rest (with_text x.tag (text_at t x.value) d) (with_text x.tag (text_at t x.value) e) (text_alike keep x.tag (text_at t x.value) d e h))
    (counted_alike keep t rest d e h)
  where
    by : (a b : Bool) → a ≡ b → counted t (with_text x.tag (text_at t x.value) d) rest ≡ counted t (with_text x.tag (text_at t x.value) e) rest → counted t d rest ≡ counted t e rest →
        cond a (1 + counted t (with_text x.tag (text_at t x.value) d) rest) (counted t d rest) ≡ cond b (1 + counted t (with_text x.tag (text_at t x.value) e) rest) (counted t e rest)
    by true true same more on = ap (λ n. 1 + n) more
    by false false same more on = on
    by true false same more on = absurd (cc)
    by false true same more on = absurd (cc)
