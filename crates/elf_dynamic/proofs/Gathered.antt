-- Gathering the texts entry by entry gives the texts of the section.
use Rattle.std.proofs.Common.{◌≡◌, ℕ, suc, ◌+◌, ◌-◌, ◌*◌, ◌≤◌, Bool, true, false, cond, not, ◌==◌, List, [], ◌∷◌, ◌++◌, length, map, filter, find, Option, Some, None, is_some, Result, Ok, Err, refl, ap, sym, subst, ◌∙◌, arith, append_assoc, append-nil}
use Rattle.std.proofs.lemmas.Bool.{eqb-true}
use Rattle.std.specs.List.{list_any}
use Rattle.lib_types.specs.declared.analysis.Defect.{Defect}
use Rattle.lib_types.specs.declared.analysis.Defect.TheVariants.{BadString}
use Rattle.lib_types.specs.Counts.{raised}
use Rattle.tree_face.specs.Known.{IfKnown}
use Rattle.tree_face.specs.Store.{StoreState}
use Rattle.tree_face.proofs.StoreUse.{raised-add, raised-mono}
use Rattle.elf_dynamic.specs.declared.kinds.DynamicEntry.{DynamicEntry}
use Rattle.elf_dynamic.specs.declared.kinds.Dynamic.{Dynamic}
use Rattle.elf_dynamic.specs.Section.{has_tag, has_text, value_of, counts_after, counting_after, counting_entries, has_text_at, text_at}
use Rattle.elf_dynamic.specs.declared.fault.ObjectFault.{ObjectFault}
use Rattle.elf_dynamic.specs.declared.fault.ObjectFault.TheVariants as faults
use Rattle.elf_dynamic.specs.Faults.{IfBad}
use Rattle.elf_dynamic.specs.declared.gather.Keep.{Keep}
use Rattle.elf_dynamic.specs.Kept.{kept, kept_of}
use Rattle.elf_dynamic.specs.Object.{text_in, text_of}
use Rattle.elf_dynamic.specs.Values.{texts_in}
use Rattle.elf_dynamic.proofs.Joined.{texts_more}
use Rattle.elf_dynamic.specs.Texts.{counts, with_text, no_texts, add_one, gathered, counted}
use Rattle.elf_dynamic.proofs.Kept.{unkept, unkept_bad, gathered_alike, counted_alike}
use Rattle.elf_dynamic.specs.declared.text.TheConstants.{TEXT_LIMIT}

-- ---- one more entry

gather_ok : (t : List ℕ) (d new : Dynamic) (e : DynamicEntry) (rest : List DynamicEntry) → add_one t d e ≡ Ok new → gathered t d (e ∷ rest) ≡ gathered t new rest
gather_ok t d new e rest h = by (counts d e.tag) (has_text_at t e.value) h
  where
    by : (a b : Bool) → cond a (cond b (Ok (with_text e.tag (text_at t e.value) d)) (Err (BadString e.tag))) (Ok d) ≡ Ok new →
        cond a (cond b (gathered t (with_text e.tag (text_at t e.value) d) rest) (Err (BadString e.tag))) (gathered t d rest) ≡ gathered t new rest
    by true true h = ap (λ d. gathered t d rest) (cc)
    by true false h = absurd (cc)
    by false b h = ap (λ d. gathered t d rest) (cc)

gather_bad : (t : List ℕ) (d : Dynamic) (x : Defect) (e : DynamicEntry) (rest : List DynamicEntry) → add_one t d e ≡ Err x → gathered t d (e ∷ rest) ≡ Err x
gather_bad t d x e rest h = by (counts d e.tag) (has_text_at t e.value) h
  where
    by : (a b : Bool) → cond a (cond b (Ok (with_text e.tag (text_at t e.value) d)) (Err (BadString e.tag))) (Ok d) ≡ Err x →
        cond a (cond b (gathered t (with_text e.tag (text_at t e.value) d) rest) (Err (BadString e.tag))) (gathered t d rest) ≡ Err x
    by true true h = absurd (cc)
    by true false h = cc
    by false b h = absurd (cc)

abbrev one_if : Bool → ℕ
one_if b = cond b 1 0

count_ok : (t : List ℕ) (d new : Dynamic) (e : DynamicEntry) (rest : List DynamicEntry) → add_one t d e ≡ Ok new → counted t d (e ∷ rest) ≡ one_if (counts d e.tag) + counted t new rest
count_ok t d new e rest h = by (counts d e.tag) (has_text_at t e.value) h
  where
    by : (a b : Bool) → cond a (cond b (Ok (with_text e.tag (text_at t e.value) d)) (Err (BadString e.tag))) (Ok d) ≡ Ok new →
        cond a (1 + counted t (with_text e.tag (text_at t e.value) d) rest) (counted t d rest) ≡ one_if a + counted t new rest
    by true true h = ap (λ d. 1 + counted t d rest) (cc)
    by true false h = absurd (cc)
    by false b h = let same : d ≡ new = cc in let e = ap (λ d. counted t d rest) same in omega arith

-- the same for the texts that are kept
kept_ok : (keep : Keep) (t : List ℕ) (d new : Dynamic) (e : DynamicEntry) (rest : List DynamicEntry) → kept_of keep (add_one t d e) ≡ Ok (kept keep new) →
    kept_of keep (gathered t d (e ∷ rest)) ≡ kept_of keep (gathered t new rest)
kept_ok keep t d new e rest h =
    let (x, added, alike) = unkept keep (add_one t d e) new h in
    ap (kept_of keep) (gather_ok t d x e rest added) ∙ gathered_alike keep t rest x new alike

count_kept : (keep : Keep) (t : List ℕ) (d new : Dynamic) (e : DynamicEntry) (rest : List DynamicEntry) → kept_of keep (add_one t d e) ≡ Ok (kept keep new) →
    counted t d (e ∷ rest) ≡ one_if (counts d e.tag) + counted t new rest
count_kept keep t d new e rest h =
    let (x, added, alike) = unkept keep (add_one t d e) new h in
    count_ok t d x e rest added ∙ ap (λ n. one_if (counts d e.tag) + n) (counted_alike keep t rest x new alike)

-- If this entry counts, it is one of the counted entries.
count_one : (t : List ℕ) (d : Dynamic) (e : DynamicEntry) (rest : List DynamicEntry) → one_if (counts d e.tag) ≤ counted t d (e ∷ rest)
count_one t d e rest = by (counts d e.tag)
  where
    by : (a : Bool) → one_if a ≤ cond a (1 + counted t (with_text e.tag (text_at t e.value) d) rest) (counted t d rest)
    by true = omega arith
    by false = omega arith

-- ---- the bytes read so far

pub record Stays (old new : StoreState) (most unread : ℕ) (t : List ℕ) (d : Dynamic) (rest : List DynamicEntry) (first : Dynamic) (all : List DynamicEntry) : Type 0 where
  pub fewer : counted t d rest ≤ counted t first all
  pub taken : new.taken ≤ raised old.taken (most - unread + TEXT_LIMIT * (counted t first all - counted t d rest))

-- ---- the loop over the entries, if the content is known

pub rests_on : (keep : Keep) (known : Option (List ℕ)) (table : List ℕ → List ℕ) (rest next : List ℕ → List DynamicEntry) (all : List ℕ → Result Dynamic Defect) (d new : Dynamic) (e : DynamicEntry) →
    IfKnown known (λ bytes. rest bytes ≡ e ∷ next bytes) → IfKnown known (λ bytes. kept_of keep (add_one (table bytes) d e) ≡ Ok (kept keep new)) →
    IfKnown known (λ bytes. kept_of keep (gathered (table bytes) d (rest bytes)) ≡ kept_of keep (all bytes)) → IfKnown known (λ bytes. kept_of keep (gathered (table bytes) new (next bytes)) ≡ kept_of keep (all bytes))
rests_on keep None table rest next all d new e on added whole = tt
rests_on keep (Some bytes) table rest next all d new e on added whole =
    sym (kept_ok keep (table bytes) d new e (next bytes) added) ∙ ap (λ es. kept_of keep (gathered (table bytes) d es)) (sym on) ∙ whole

rests_bad : (keep : Keep) (known : Option (List ℕ)) (table : List ℕ → List ℕ) (rest next : List ℕ → List DynamicEntry) (all : List ℕ → Result Dynamic Defect) (d : Dynamic) (x : Defect) (e : DynamicEntry) →
    IfKnown known (λ bytes. rest bytes ≡ e ∷ next bytes) → IfKnown known (λ bytes. add_one (table bytes) d e ≡ Err x) →
    IfKnown known (λ bytes. kept_of keep (gathered (table bytes) d (rest bytes)) ≡ kept_of keep (all bytes)) →
    IfKnown known (λ bytes. all bytes ≡ Err x)
rests_bad keep None table rest next all d x e on bad whole = tt
rests_bad keep (Some bytes) table rest next all d x e on bad whole =
    unkept_bad keep (all bytes) x (sym whole ∙ ap (λ es. kept_of keep (gathered (table bytes) d es)) on ∙ ap (kept_of keep) (gather_bad (table bytes) d x e (next bytes) bad))

-- ---- the bytes that were read, if the content is known

raised_three : (a b c d n m k p : ℕ) → b ≤ raised a n → c ≤ raised b m → d ≤ raised c k → n + m + k ≤ p → d ≤ raised a p
raised_three a b c d n m k p x y z h = raised-mono a d (n + m + k) p h (raised-add a c d (n + m) k (raised-add a b c n m x y) z)

sum_on : (most u v all had left one size : ℕ) → had ≡ one + left → had ≤ all → u ≤ most → v ≤ u → size ≡ TEXT_LIMIT * one → most - u + TEXT_LIMIT * (all - had) + (u - v) + size ≤ most - v + TEXT_LIMIT * (all - left)
sum_on most u v all had left one size e h k l s = omega arith

sum_fault : (most u v all had one size : ℕ) → one ≤ had → had ≤ all → u ≤ most → v ≤ u → size ≡ TEXT_LIMIT * one → most - u + TEXT_LIMIT * (all - had) + (u - v) + size ≤ most + TEXT_LIMIT * all
sum_fault most u v all had one size e h k l s = omega arith

sum_end : (most u all had : ℕ) → u ≤ most → most - u + TEXT_LIMIT * (all - had) + u ≤ most + TEXT_LIMIT * all
sum_end most u all had h = omega arith

pub stays_on : (keep : Keep) (known : Option (List ℕ)) (old mid mid2 new : StoreState) (most u v : ℕ) (table : List ℕ → List ℕ) (rest next all : List ℕ → List DynamicEntry) (d found first : Dynamic) (e : DynamicEntry) →
    IfKnown known (λ bytes. Stays old mid most u (table bytes) d (rest bytes) first (all bytes)) → IfKnown known (λ bytes. rest bytes ≡ e ∷ next bytes) → IfKnown known (λ bytes. kept_of keep (add_one (table bytes) d e) ≡ Ok (kept keep found)) →
    u ≤ most → v ≤ u → mid2.taken ≤ raised mid.taken (u - v) → new.taken ≤ raised mid2.taken (cond (counts d e.tag) TEXT_LIMIT 0) →
    IfKnown known (λ bytes. Stays old new most v (table bytes) found (next bytes) first (all bytes))
stays_on keep None old mid mid2 new most u v table rest next all d found first e stays on added h k a b = tt
stays_on keep (Some bytes) old mid mid2 new most u v table rest next all d found first e stays on added h k a b =
    let count : counted (table bytes) d (rest bytes) ≡ one_if (counts d e.tag) + counted (table bytes) found (next bytes) =
    ap (counted (table bytes) d) on ∙ count_kept keep (table bytes) d found e (next bytes) added in
    by (counts d e.tag) count b
  where
    by : (c : Bool) → counted (table bytes) d (rest bytes) ≡ one_if c + counted (table bytes) found (next bytes) → new.taken ≤ raised mid2.taken (cond c TEXT_LIMIT 0) →
        Stays old new most v (table bytes) found (next bytes) first (all bytes)
    by true count b = record {
      fewer = let less = stays.fewer in omega (arith, count, less);
      taken = raised_three old.taken mid.taken mid2.taken new.taken (most - u + TEXT_LIMIT * (counted (table bytes) first (all bytes) - counted (table bytes) d (rest bytes))) (u - v) TEXT_LIMIT (most - v + TEXT_LIMIT * (counted (table bytes) first (all bytes) - counted (table bytes) found (next bytes))) stays.taken a b
          (sum_on most u v (counted (table bytes) first (all bytes)) (counted (table bytes) d (rest bytes)) (counted (table bytes) found (next bytes)) 1 TEXT_LIMIT count stays.fewer h k refl);
    }
    by false count b = record {
      fewer = let less = stays.fewer in omega (arith, count, less);
      taken = raised_three old.taken mid.taken mid2.taken new.taken (most - u + TEXT_LIMIT * (counted (table bytes) first (all bytes) - counted (table bytes) d (rest bytes))) (u - v) 0 (most - v + TEXT_LIMIT * (counted (table bytes) first (all bytes) - counted (table bytes) found (next bytes))) stays.taken a b
          (sum_on most u v (counted (table bytes) first (all bytes)) (counted (table bytes) d (rest bytes)) (counted (table bytes) found (next bytes)) 0 0 count stays.fewer h k refl);
    }

-- A call that fails has read at most the bytes that the whole loop may read.
pub stays_fault : (known : Option (List ℕ)) (old mid mid2 new : StoreState) (most u v : ℕ) (table : List ℕ → List ℕ) (rest next all : List ℕ → List DynamicEntry) (d first : Dynamic) (e : DynamicEntry) →
    IfKnown known (λ bytes. Stays old mid most u (table bytes) d (rest bytes) first (all bytes)) → IfKnown known (λ bytes. rest bytes ≡ e ∷ next bytes) →
    u ≤ most → v ≤ u → mid2.taken ≤ raised mid.taken (u - v) → new.taken ≤ raised mid2.taken (cond (counts d e.tag) TEXT_LIMIT 0) →
    IfKnown known (λ bytes. new.taken ≤ raised old.taken (most + TEXT_LIMIT * counted (table bytes) first (all bytes)))
stays_fault None old mid mid2 new most u v table rest next all d first e stays on h k a b = tt
stays_fault (Some bytes) old mid mid2 new most u v table rest next all d first e stays on h k a b =
    let one : one_if (counts d e.tag) ≤ counted (table bytes) d (rest bytes) = subst (λ xs. one_if (counts d e.tag) ≤ counted (table bytes) d xs) (sym on) (count_one (table bytes) d e (next bytes)) in
    by (counts d e.tag) one b
  where
    by : (c : Bool) → one_if c ≤ counted (table bytes) d (rest bytes) → new.taken ≤ raised mid2.taken (cond c TEXT_LIMIT 0) →
        new.taken ≤ raised old.taken (most + TEXT_LIMIT * counted (table bytes) first (all bytes))
    by true one b = raised_three old.taken mid.taken mid2.taken new.taken (most - u + TEXT_LIMIT * (counted (table bytes) first (all bytes) - counted (table bytes) d (rest bytes))) (u - v) TEXT_LIMIT (most + TEXT_LIMIT * counted (table bytes) first (all bytes)) stays.taken a b (sum_fault most u v (counted (table bytes) first (all bytes)) (counted (table bytes) d (rest bytes)) 1 TEXT_LIMIT one stays.fewer h k refl)
    by false one b = raised_three old.taken mid.taken mid2.taken new.taken (most - u + TEXT_LIMIT * (counted (table bytes) first (all bytes) - counted (table bytes) d (rest bytes))) (u - v) 0 (most + TEXT_LIMIT * counted (table bytes) first (all bytes)) stays.taken a b (sum_fault most u v (counted (table bytes) first (all bytes)) (counted (table bytes) d (rest bytes)) 0 0 one stays.fewer h k refl)

pub stays_end : (known : Option (List ℕ)) (old mid new : StoreState) (most u : ℕ) (table : List ℕ → List ℕ) (rest all : List ℕ → List DynamicEntry) (d first : Dynamic) →
    IfKnown known (λ bytes. Stays old mid most u (table bytes) d (rest bytes) first (all bytes)) → u ≤ most → new.taken ≤ raised mid.taken u →
    IfKnown known (λ bytes. new.taken ≤ raised old.taken (most + TEXT_LIMIT * counted (table bytes) first (all bytes)))
stays_end None old mid new most u table rest all d first stays h a = tt
stays_end (Some bytes) old mid new most u table rest all d first stays h a =
    raised-mono old.taken new.taken (most - u + TEXT_LIMIT * (counted (table bytes) first (all bytes) - counted (table bytes) d (rest bytes)) + u) (most + TEXT_LIMIT * counted (table bytes) first (all bytes)) (sum_end most u (counted (table bytes) first (all bytes)) (counted (table bytes) d (rest bytes)) h)
    (raised-add old.taken mid.taken new.taken (most - u + TEXT_LIMIT * (counted (table bytes) first (all bytes) - counted (table bytes) d (rest bytes))) u stays.taken a)

pub stays_first : (known : Option (List ℕ)) (old : StoreState) (most u : ℕ) (table : List ℕ → List ℕ) (rest all : List ℕ → List DynamicEntry) (d first : Dynamic) →
    d ≡ first → IfKnown known (λ bytes. rest bytes ≡ all bytes) → IfKnown known (λ bytes. Stays old old most u (table bytes) d (rest bytes) first (all bytes))
stays_first None old most u table rest all d first e same = tt
stays_first (Some bytes) old most u table rest all d first e same =
    let count : counted (table bytes) d (rest bytes) ≡ counted (table bytes) first (all bytes) = ap (λ d. counted (table bytes) d (rest bytes)) e ∙ ap (counted (table bytes) first) same in
    record { fewer = omega arith; taken = omega arith }

pub rests_first : (keep : Keep) (known : Option (List ℕ)) (table : List ℕ → List ℕ) (rest all : List ℕ → List DynamicEntry) (d first : Dynamic) →
    d ≡ first → IfKnown known (λ bytes. rest bytes ≡ all bytes) → IfKnown known (λ bytes. kept_of keep (gathered (table bytes) d (rest bytes)) ≡ kept_of keep (gathered (table bytes) first (all bytes)))
rests_first keep None table rest all d first e same = tt
rests_first keep (Some bytes) table rest all d first e same = ap (λ d. kept_of keep (gathered (table bytes) d (rest bytes))) e ∙ ap (λ es. kept_of keep (gathered (table bytes) first es)) same

-- the fault at an entry is the fault of the whole section
pub fault_on : (keep : Keep) (known mid : Option (List ℕ)) (table : List ℕ → List ℕ) (rest next : List ℕ → List DynamicEntry) (all : List ℕ → Result Dynamic Defect) (d : Dynamic) (e : DynamicEntry) (fault : ObjectFault) → mid ≡ known →
    IfKnown known (λ bytes. rest bytes ≡ e ∷ next bytes) → IfKnown known (λ bytes. kept_of keep (gathered (table bytes) d (rest bytes)) ≡ kept_of keep (all bytes)) →
    IfBad {X = Unit {0}} (Err fault) (λ x. IfKnown mid (λ bytes. add_one (table bytes) d e ≡ Err x)) → IfBad {X = Unit {0}} (Err fault) (λ x. IfKnown known (λ bytes. all bytes ≡ Err x))
fault_on keep known mid table rest next all d e (faults.Bad x) same on whole bad =
    rests_bad keep known table rest next all d x e on (subst (λ o. IfKnown o (λ bytes. add_one (table bytes) d e ≡ Err x)) same bad) whole
fault_on keep known mid table rest next all d e faults.StoreFault same on whole bad = tt
fault_on keep known mid table rest next all d e faults.NoMemory same on whole bad = tt

-- ---- entries without texts

uncounted : (d : Dynamic) (e : DynamicEntry) → has_text e ≡ false → counts d e.tag ≡ false
uncounted d e h =
    let a : (e.tag == 1) ≡ false = grind arith in
    let b : (e.tag == 14) ≡ false = grind arith in
    let c : (e.tag == 15) ≡ false = grind arith in
    let f : (e.tag == 29) ≡ false = grind arith in
    rw (a, b, c, f) refl

gathered_none : (t : List ℕ) (d : Dynamic) (es : List DynamicEntry) → texts_in es ≡ 0 → gathered t d es ≡ Ok d
gathered_none t d [] h = refl
gathered_none t d (e ∷ rest) h = by (gathered_none t d rest) (has_text e) refl h
  where
    by : (texts_in rest ≡ 0 → gathered t d rest ≡ Ok d) → (b : Bool) → has_text e ≡ b → length (cond b (e ∷ filter has_text rest) (filter has_text rest)) ≡ 0 → gathered t d (e ∷ rest) ≡ Ok d
    by ih true k h = absurd (omega (arith, h))
    by ih false k h = rw (uncounted d e k) (ih h)

pub rests_done : (keep : Keep) (known : Option (List ℕ)) (table : List ℕ → List ℕ) (left : ℕ) (rest : List ℕ → List DynamicEntry) (all : List ℕ → Result Dynamic Defect) (d : Dynamic) → left ≡ 0 →
    IfKnown known (λ bytes. left ≡ texts_in (rest bytes)) → IfKnown known (λ bytes. kept_of keep (gathered (table bytes) d (rest bytes)) ≡ kept_of keep (all bytes)) → IfKnown known (λ bytes. kept_of keep (all bytes) ≡ Ok (kept keep d))
rests_done keep None table left rest all d none is whole = tt
rests_done keep (Some bytes) table left rest all d none is whole = sym whole ∙ ap (kept_of keep) (gathered_none (table bytes) d (rest bytes) (sym is ∙ none))

-- the number of entries with a text that are left after one more entry
pub left_on : (known : Option (List ℕ)) (left new : ℕ) (e : DynamicEntry) (rest next : List ℕ → List DynamicEntry) → new ≡ left - texts_in (e ∷ []) →
    IfKnown known (λ bytes. rest bytes ≡ e ∷ next bytes) → IfKnown known (λ bytes. left ≡ texts_in (rest bytes)) → IfKnown known (λ bytes. new ≡ texts_in (next bytes))
left_on None left new e rest next is on had = tt
left_on (Some bytes) left new e rest next is on had =
    let more = texts_more e (next bytes) in
    let all = ap texts_in on in
    omega (arith, is, had, more, all)

pub left_first : (known : Option (List ℕ)) (left : ℕ) (rest all : List ℕ → List DynamicEntry) → IfKnown known (λ bytes. rest bytes ≡ all bytes) → IfKnown known (λ bytes. left ≡ texts_in (all bytes)) →
    IfKnown known (λ bytes. left ≡ texts_in (rest bytes))
left_first None left rest all same is = tt
left_first (Some bytes) left rest all same is = is ∙ ap texts_in (sym same)

-- ---- all entries

abbrev dyn : Option (List ℕ) → List (List ℕ) → Option (List ℕ) → Option (List ℕ) → Bool → Dynamic
dyn s n r u f = record { soname = s; needed = n; rpath = r; runpath = u; nodeflib = f }

abbrev or_else : Option (List ℕ) → Option (List ℕ) → Option (List ℕ)
or_else (Some x) o = Some x
or_else None o = o

abbrev filled : List ℕ → Option (List ℕ) → List (List ℕ) → Option (List ℕ) → Option (List ℕ) → Bool → List DynamicEntry → Dynamic
filled t s n r u f es =
    dyn (or_else s (text_in (Some t) (value_of 14 es))) (n ++ map (λ e. text_at t e.value) (filter (has_tag 1) es)) (or_else r (text_in (Some t) (value_of 15 es))) (or_else u (text_in (Some t) (value_of 29 es))) f

abbrev pick : Option DynamicEntry → Dynamic → Result Dynamic Defect
pick None d = Ok d
pick (Some e) d = Err (BadString e.tag)

abbrev bad_in : List ℕ → DynamicEntry → Bool
bad_in t e = not (has_text_at t e.value)

record Seen (s r u : Option (List ℕ)) (earlier : List DynamicEntry) : Type 0 where
  sonames : list_any (has_tag 14) earlier ≡ is_some s
  rpaths : list_any (has_tag 15) earlier ≡ is_some r
  runpaths : list_any (has_tag 29) earlier ≡ is_some u

-- the texts gathered from the entries, and the number of entries that count
record Is (t : List ℕ) (es earlier : List DynamicEntry) (s : Option (List ℕ)) (n : List (List ℕ)) (r u : Option (List ℕ)) (f : Bool) : Type 0 where
  all : gathered t (dyn s n r u f) es ≡ pick (find (bad_in t) (counting_after earlier es)) (filled t s n r u f es)
  count : counted t (dyn s n r u f) es ≡ length (counting_after earlier es)

abbrev Claim : List ℕ → List DynamicEntry → Type 0
Claim t es = (earlier : List DynamicEntry) (s : Option (List ℕ)) (n : List (List ℕ)) (r u : Option (List ℕ)) (f : Bool) → Seen s r u earlier → Is t es earlier s n r u f

or_none : (o : Option (List ℕ)) → or_else o None ≡ o
or_none (Some x) = refl
or_none None = refl

claim_none : (t : List ℕ) → Claim t []
claim_none t earlier s n r u f seen = record { all = rw (or_none s, append-nil n, or_none r, or_none u) refl; count = refl }

abbrev at : ℕ → ℕ → DynamicEntry
at tag value = record { tag = tag; value = value }

-- an entry that counts
counts_on : (t : List ℕ) (rest : List DynamicEntry) (tag value : ℕ) (earlier : List DynamicEntry) (d new : Dynamic) (whole : Dynamic) → counts d tag ≡ true → counts_after earlier (at tag value) ≡ true →
    with_text tag (text_at t value) d ≡ new →
    gathered t new rest ≡ pick (find (bad_in t) (counting_after (at tag value ∷ earlier) rest)) whole → counted t new rest ≡ length (counting_after (at tag value ∷ earlier) rest) →
    (gathered t d (at tag value ∷ rest) ≡ pick (find (bad_in t) (counting_after earlier (at tag value ∷ rest))) whole) × (counted t d (at tag value ∷ rest) ≡ length (counting_after earlier (at tag value ∷ rest)))
counts_on t rest tag value earlier d new whole c k w all count = rw (c, k, w) (by (has_text_at t value), one_more)
  where
    one_more : 1 + counted t new rest ≡ suc (length (counting_after (at tag value ∷ earlier) rest))
    one_more = omega (arith, count)

    by : (b : Bool) → cond b (gathered t new rest) (Err (BadString tag)) ≡ pick (cond (not b) (Some (at tag value)) (find (bad_in t) (counting_after (at tag value ∷ earlier) rest))) whole
    by true = all
    by false = refl

-- an entry that doesn't count
passes_on : (t : List ℕ) (rest : List DynamicEntry) (e : DynamicEntry) (earlier : List DynamicEntry) (d : Dynamic) (whole : Dynamic) → counts d e.tag ≡ false → counts_after earlier e ≡ false →
    gathered t d rest ≡ pick (find (bad_in t) (counting_after (e ∷ earlier) rest)) whole → counted t d rest ≡ length (counting_after (e ∷ earlier) rest) →
    (gathered t d (e ∷ rest) ≡ pick (find (bad_in t) (counting_after earlier (e ∷ rest))) whole) × (counted t d (e ∷ rest) ≡ length (counting_after earlier (e ∷ rest)))
passes_on t rest e earlier d whole c k all count = rw (c, k) (all, count)

claim_needed : (t : List ℕ) (rest : List DynamicEntry) (value : ℕ) → Claim t rest → Claim t (at 1 value ∷ rest)
claim_needed t rest value ih earlier s n r u f seen =
    let next = ih (at 1 value ∷ earlier) s (n ++ text_at t value ∷ []) r u f (record { sonames = seen.sonames; rpaths = seen.rpaths; runpaths = seen.runpaths }) in
    let whole : filled t s (n ++ text_at t value ∷ []) r u f rest ≡ filled t s n r u f (at 1 value ∷ rest) =
    ap (λ xs. dyn (or_else s (text_in (Some t) (value_of 14 rest))) xs (or_else r (text_in (Some t) (value_of 15 rest))) (or_else u (text_in (Some t) (value_of 29 rest))) f)
    (let e : (n ++ text_at t value ∷ []) ++ map (λ e. text_at t e.value) (filter (has_tag 1) rest) ≡ n ++ text_at t value ∷ map (λ e. text_at t e.value) (filter (has_tag 1) rest) = rw append_assoc refl in e) in
    let both = counts_on t rest 1 value earlier (dyn s n r u f) (dyn s (n ++ text_at t value ∷ []) r u f) (filled t s n r u f (at 1 value ∷ rest)) refl refl refl
    (next.all ∙ ap (pick (find (bad_in t) (counting_after (at 1 value ∷ earlier) rest))) whole) next.count in
    record { all = both.0; count = both.1 }

not_later : (p : DynamicEntry → Bool) (earlier : List DynamicEntry) (b : Bool) → list_any p earlier ≡ b → not (list_any p earlier) ≡ not b
not_later p earlier b h = ap not h

claim_soname : (t : List ℕ) (rest : List DynamicEntry) (value : ℕ) → Claim t rest → Claim t (at 14 value ∷ rest)
claim_soname t rest value ih earlier (Some x) n r u f seen =
    let next = ih (at 14 value ∷ earlier) (Some x) n r u f (record { sonames = refl; rpaths = seen.rpaths; runpaths = seen.runpaths }) in
    let both = passes_on t rest (at 14 value) earlier (dyn (Some x) n r u f) (filled t (Some x) n r u f (at 14 value ∷ rest)) refl (not_later (has_tag 14) earlier true seen.sonames) next.all next.count in
    record { all = both.0; count = both.1 }
claim_soname t rest value ih earlier None n r u f seen =
    let next = ih (at 14 value ∷ earlier) (Some (text_at t value)) n r u f (record { sonames = refl; rpaths = seen.rpaths; runpaths = seen.runpaths }) in
    let both = counts_on t rest 14 value earlier (dyn None n r u f) (dyn (Some (text_at t value)) n r u f) (filled t None n r u f (at 14 value ∷ rest)) refl (not_later (has_tag 14) earlier false seen.sonames) refl next.all next.count in
    record { all = both.0; count = both.1 }

claim_rpath : (t : List ℕ) (rest : List DynamicEntry) (value : ℕ) → Claim t rest → Claim t (at 15 value ∷ rest)
claim_rpath t rest value ih earlier s n (Some x) u f seen =
    let next = ih (at 15 value ∷ earlier) s n (Some x) u f (record { sonames = seen.sonames; rpaths = refl; runpaths = seen.runpaths }) in
    let both = passes_on t rest (at 15 value) earlier (dyn s n (Some x) u f) (filled t s n (Some x) u f (at 15 value ∷ rest)) refl (not_later (has_tag 15) earlier true seen.rpaths) next.all next.count in
    record { all = both.0; count = both.1 }
claim_rpath t rest value ih earlier s n None u f seen =
    let next = ih (at 15 value ∷ earlier) s n (Some (text_at t value)) u f (record { sonames = seen.sonames; rpaths = refl; runpaths = seen.runpaths }) in
    let both = counts_on t rest 15 value earlier (dyn s n None u f) (dyn s n (Some (text_at t value)) u f) (filled t s n None u f (at 15 value ∷ rest)) refl (not_later (has_tag 15) earlier false seen.rpaths) refl next.all next.count in
    record { all = both.0; count = both.1 }

claim_runpath : (t : List ℕ) (rest : List DynamicEntry) (value : ℕ) → Claim t rest → Claim t (at 29 value ∷ rest)
claim_runpath t rest value ih earlier s n r (Some x) f seen =
    let next = ih (at 29 value ∷ earlier) s n r (Some x) f (record { sonames = seen.sonames; rpaths = seen.rpaths; runpaths = refl }) in
    let both = passes_on t rest (at 29 value) earlier (dyn s n r (Some x) f) (filled t s n r (Some x) f (at 29 value ∷ rest)) refl (not_later (has_tag 29) earlier true seen.runpaths) next.all next.count in
    record { all = both.0; count = both.1 }
claim_runpath t rest value ih earlier s n r None f seen =
    let next = ih (at 29 value ∷ earlier) s n r (Some (text_at t value)) f (record { sonames = seen.sonames; rpaths = seen.rpaths; runpaths = refl }) in
    let both = counts_on t rest 29 value earlier (dyn s n r None f) (dyn s n r (Some (text_at t value)) f) (filled t s n r None f (at 29 value ∷ rest)) refl (not_later (has_tag 29) earlier false seen.runpaths) refl next.all next.count in
    record { all = both.0; count = both.1 }

-- an entry of another tag
claim_other : (t : List ℕ) (rest : List DynamicEntry) (e : DynamicEntry) → (e.tag == 1) ≡ false → (e.tag == 14) ≡ false → (e.tag == 15) ≡ false → (e.tag == 29) ≡ false → Claim t rest → Claim t (e ∷ rest)
claim_other t rest e a b c d ih earlier s n r u f seen =
    let next = ih (e ∷ earlier) s n r u f (record { sonames = rw b seen.sonames; rpaths = rw c seen.rpaths; runpaths = rw d seen.runpaths }) in
    let same : filled t s n r u f rest ≡ filled t s n r u f (e ∷ rest) = rw (a, b, c, d) refl in
    let uncounted : counts (dyn s n r u f) e.tag ≡ false = rw (a, b, c, d) refl in
    let textless : counts_after earlier e ≡ false = rw (a, b, c, d) refl in
    let both = passes_on t rest e earlier (dyn s n r u f) (filled t s n r u f (e ∷ rest)) uncounted textless (next.all ∙ ap (pick (find (bad_in t) (counting_after (e ∷ earlier) rest))) same) next.count in
    record { all = both.0; count = both.1 }

claim_on : (t : List ℕ) (rest : List DynamicEntry) (e : DynamicEntry) → Claim t rest → Claim t (e ∷ rest)
claim_on t rest e ih = by (e.tag == 1) (e.tag == 14) (e.tag == 15) (e.tag == 29) refl refl refl refl
  where
    turned : (tag : ℕ) → e.tag ≡ tag → Claim t (at tag e.value ∷ rest) → Claim t (e ∷ rest)
    turned tag h c = subst (λ tag. Claim t (at tag e.value ∷ rest)) (sym h) c

    by : (a b c d : Bool) → (e.tag == 1) ≡ a → (e.tag == 14) ≡ b → (e.tag == 15) ≡ c → (e.tag == 29) ≡ d → Claim t (e ∷ rest)
    by true b c d p q r s = turned 1 (eqb-true _ _ p) (claim_needed t rest e.value ih)
    by false true c d p q r s = turned 14 (eqb-true _ _ q) (claim_soname t rest e.value ih)
    by false false true d p q r s = turned 15 (eqb-true _ _ r) (claim_rpath t rest e.value ih)
    by false false false true p q r s = turned 29 (eqb-true _ _ s) (claim_runpath t rest e.value ih)
    by false false false false p q r s = claim_other t rest e p q r s ih

claims : (t : List ℕ) (es : List DynamicEntry) → Claim t es
claims t [] = claim_none t
claims t (e ∷ rest) = claim_on t rest e (claims t rest)

-- the texts of a section, before the rules for its DT_SONAME
abbrev pub all_texts : List ℕ → Bool → List DynamicEntry → Dynamic
all_texts t f es = record {
  soname = text_of 14 (Some t) es;
  needed = map (λ e. text_at t e.value) (filter (has_tag 1) es);
  rpath = text_of 15 (Some t) es;
  runpath = text_of 29 (Some t) es;
  nodeflib = f;
}

abbrev pub picked : Option DynamicEntry → Dynamic → Result Dynamic Defect
picked None d = Ok d
picked (Some e) d = Err (BadString e.tag)

pub gathered_all : (t : List ℕ) (f : Bool) (es : List DynamicEntry) → gathered t (no_texts f) es ≡ picked (find (λ e. not (has_text_at t e.value)) (counting_entries es)) (all_texts t f es)
unfolding counting_entries
gathered_all t f es = (claims t es [] None [] None None f (record { sonames = refl; rpaths = refl; runpaths = refl })).all ∙ same _
  where
    same : (o : Option DynamicEntry) → pick o (filled t None [] None None f es) ≡ picked o (all_texts t f es)
    same None = refl
    same (Some e) = refl

pub counted_all : (t : List ℕ) (f : Bool) (es : List DynamicEntry) → counted t (no_texts f) es ≡ length (counting_entries es)
unfolding counting_entries
counted_all t f es = (claims t es [] None [] None None f (record { sonames = refl; rpaths = refl; runpaths = refl })).count
