-- The values of the entries, one entry at a time.
use Rattle.std.proofs.Common.{◌≡◌, ℕ, ◌+◌, ◌≤◌, Bool, true, false, cond, List, [], ◌∷◌, length, filter, find, Option, Some, None, option_map, refl, ap, sym, ◌∙◌, arith}
use Rattle.tree_face.specs.Known.{IfKnown}
use Rattle.elf_dynamic.specs.declared.kinds.DynamicEntry.{DynamicEntry}
use Rattle.elf_dynamic.specs.declared.values.Values.{Values}
use Rattle.elf_dynamic.specs.Section.{strtab, strsz, flags_1, has_tag, has_text}
use Rattle.elf_dynamic.specs.Values.{texts_in, first_of, joined, values_of}
use Rattle.elf_dynamic.proofs.Known.{with, both}

first_by : (b : Bool) (o : Option ℕ) (e : DynamicEntry) (rest : Option DynamicEntry) →
    first_of (first_of o (option_map (λ e. e.value) (cond b (Some e) None))) (option_map (λ e. e.value) rest) ≡ first_of o (option_map (λ e. e.value) (cond b (Some e) rest))
first_by b (Some a) e rest = refl
first_by true None e rest = refl
first_by false None e rest = refl

pub texts_more : (e : DynamicEntry) (rest : List DynamicEntry) → texts_in (e ∷ []) + texts_in rest ≡ texts_in (e ∷ rest)
texts_more e rest = by (has_text e)
  where
    by : (b : Bool) → length (cond b (e ∷ []) []) + texts_in rest ≡ length (cond b (e ∷ filter has_text rest) (filter has_text rest))
    by true = omega arith
    by false = omega arith

pub one_text : (e : DynamicEntry) → texts_in (e ∷ []) ≤ 1
one_text e = by (has_text e)
  where
    by : (b : Bool) → length (cond b (e ∷ []) []) ≤ 1
    by true = omega arith
    by false = omega arith

texts_on : (n : ℕ) (e : DynamicEntry) (rest : List DynamicEntry) → n + texts_in (e ∷ []) + texts_in rest ≡ n + texts_in (e ∷ rest)
texts_on n e rest = let more = texts_more e rest in omega (arith, more)

joined_on : (v : Values) (e : DynamicEntry) (rest : List DynamicEntry) → joined (joined v (e ∷ [])) rest ≡ joined v (e ∷ rest)
joined_on v e rest =
    rw (
      texts_on v.texts e rest,
      first_by (has_tag strtab e) v.strtab e (find (has_tag strtab) rest),
      first_by (has_tag strsz e) v.strsz e (find (has_tag strsz) rest),
      first_by (has_tag flags_1 e) v.flags_1 e (find (has_tag flags_1) rest),
    )
    refl

pub joined_known : (known : Option (List ℕ)) (v w : Values) (e : DynamicEntry) (before after : List ℕ → List DynamicEntry) (all : List ℕ → Values) → w ≡ joined v (e ∷ []) →
    IfKnown known (λ bytes. before bytes ≡ e ∷ after bytes) → IfKnown known (λ bytes. joined v (before bytes) ≡ all bytes) → IfKnown known (λ bytes. joined w (after bytes) ≡ all bytes)
joined_known known v w e before after all is on whole =
    both {P = λ bytes. before bytes ≡ e ∷ after bytes} {Q = λ bytes. joined v (before bytes) ≡ all bytes} {R = λ bytes. joined w (after bytes) ≡ all bytes} known on whole
    (λ bytes on whole. ap (λ w. joined w (after bytes)) is ∙ joined_on v e (after bytes) ∙ ap (joined v) (sym on) ∙ whole)

joined_none : (es : List DynamicEntry) → joined (record { texts = 0; strtab = None; strsz = None; flags_1 = None }) es ≡ values_of es
joined_none es = let e : 0 + texts_in es ≡ texts_in es = omega arith in rw e refl

pub joined_first : (known : Option (List ℕ)) (v : Values) (first all : List ℕ → List DynamicEntry) → v ≡ record { texts = 0; strtab = None; strsz = None; flags_1 = None } →
    IfKnown known (λ bytes. first bytes ≡ all bytes) → IfKnown known (λ bytes. joined v (first bytes) ≡ values_of (all bytes))
joined_first known v first all none same =
    with {P = λ bytes. first bytes ≡ all bytes} {Q = λ bytes. joined v (first bytes) ≡ values_of (all bytes)} known same
    (λ bytes same. ap (λ v. joined v (first bytes)) none ∙ joined_none (first bytes) ∙ ap values_of same)
