-- The strings of the entries and the hwcaps names, while they are gathered.
use Rattle.std.proofs.Common.{◌≡◌, ℕ, ◌+◌, ◌*◌, ◌<◌, ◌≤◌, true, List, [], ◌∷◌, ◌++◌, length, map, flat_map, fold, take, get_or, refl, sym, ap, ◌∙◌, Bor, bytes_eq, arith}
use Rattle.std.proofs.lemmas.List.{append-nil, map-append, take_more}
use Rattle.std.proofs.lemmas.List.Concat.{flat_map-append}
use Rattle.std.proofs.lemmas.List.Elements.{All-head, All-tail, All-push, All-weaker}
use Rattle.std.proofs.lemmas.List.Sums.{fold-append}
use Rattle.std.specs.List.{All, list_any}
use Rattle.indexmap.specs.IndexSet.{insert_key}
use Rattle.lib_types.specs.declared.entry.Entry.{Entry}
use Rattle.string_pool.specs.Texts.{number_of}
use Rattle.string_pool.proofs.Numbers.{among, among_more, among_all, number_more, number_stays, length_distinct}
use Rattle.string_pool.proofs.WithoutRepeats.{distinct_append}
use Rattle.string_pool.specs.Distinct.{distinct}
use Rattle.cache_writer.specs.CacheText.{own_strings}
use Rattle.cache_writer.specs.Numbers.{HasOwn, HasNumbers, AreAmong}
use Rattle.cache_writer.specs.declared.numbers.NumberedEntry.{NumberedEntry}

abbrev pub with_all : List (List ℕ) → List (List ℕ) → List (List ℕ)
with_all texts us = fold (insert_key bytes_eq) texts us

-- ---- one entry

-- after adding the strings of an entry, they are in the list
own_there : (texts : List (List ℕ)) (e : Entry) → HasOwn (with_all texts (own_strings e)) e
own_there texts e = record {
  soname = among_more (insert_key bytes_eq texts e.soname) e.soname e.path (among texts e.soname);
  path = among (insert_key bytes_eq texts e.soname) e.path;
}

-- so the entry has its indexes
pub numbered : (old mid new : List (List ℕ)) (n : NumberedEntry) (t u : List ℕ) → mid ≡ insert_key bytes_eq old t → new ≡ insert_key bytes_eq mid u → t ≡ n.entry.now.soname → u ≡ n.entry.now.path
    → n.soname ≡ number_of mid t → n.path ≡ number_of new u → HasNumbers new n
numbered old mid new n t u one two first second soname path =
    let e = n.entry.now in
    let all : new ≡ with_all old (own_strings e) = rw (two, one, first, second) refl in
    let stays : number_of new t ≡ number_of mid t = ap (λ ts. number_of ts t) two ∙ number_more mid t u (rw one (among old t)) in
    record {
      own = rw all (own_there old e);
      soname = rw (← first) (soname ∙ sym stays);
      path = rw (← second) path;
    }

-- ---- the entries

-- adding more strings keeps the strings of an entry in the list
pub own_kept : (texts us : List (List ℕ)) (e : Entry) → HasOwn texts e → HasOwn (with_all texts us) e
own_kept texts us e h = record {
  soname = among_all texts us e.soname h.soname;
  path = among_all texts us e.path h.path;
}

pub numbers_kept : (texts us : List (List ℕ)) (n : NumberedEntry) → HasNumbers texts n → HasNumbers (with_all texts us) n
numbers_kept texts us n h = record {
  own = own_kept texts us n.entry.now h.own;
  soname = h.soname ∙ sym (number_stays texts us n.entry.now.soname h.own.soname);
  path = h.path ∙ sym (number_stays texts us n.entry.now.path h.own.path);
}

-- the first i + 1 entries are the first i and the entry at index i
pub next_entry : (es : List Entry) (i : ℕ) (e : Entry) → i < length es → e ≡ get_or es i e → take (i + 1) es ≡ take i es ++ e ∷ []
next_entry es i e h is = take_more es i e h ∙ ap (λ x. take i es ++ x ∷ []) (sym is)

-- a step of the loop over the entries
pub texts_step : (es more : List Entry) (e : Entry) (old new : List (List ℕ)) → more ≡ es ++ e ∷ [] → old ≡ distinct (flat_map own_strings es) → new ≡ with_all old (own_strings e)
    → new ≡ distinct (flat_map own_strings more)
texts_step es more e old new next is added =
    rw (added, is, next)
    (sym (ap distinct (flat_map-append own_strings es (e ∷ []) ∙ ap (λ xs. flat_map own_strings es ++ xs) (append-nil (own_strings e)))
    ∙ distinct_append (flat_map own_strings es) (own_strings e)))

pub entries_step : (es more : List Entry) (e : Entry) (ns new : List NumberedEntry) (n : NumberedEntry) → more ≡ es ++ e ∷ [] → map (λ n. n.entry.now) ns ≡ es → n.entry.now ≡ e → new ≡ ns ++ n ∷ []
    → map (λ n. n.entry.now) new ≡ more
entries_step es more e ns new n next are is added =
    rw (added, next, ← are, ← is) (map-append (λ (n : NumberedEntry). n.entry.now) ns (n ∷ []))

pub numbers_step : (old new us : List (List ℕ)) (ns more : List NumberedEntry) (n : NumberedEntry) → new ≡ with_all old us → more ≡ ns ++ n ∷ [] → All (HasNumbers old) ns → HasNumbers new n → All (HasNumbers new) more
numbers_step old new us ns more n added next all last =
    rw next (All-push (HasNumbers new) ns n (rw added (All-weaker (HasNumbers old) (HasNumbers (with_all old us)) (λ x h. numbers_kept old us x h) ns all)) last)

-- ---- names

pub among_push : (texts ns : List (List ℕ)) (n : List ℕ) → AreAmong texts ns → AreAmong (insert_key bytes_eq texts n) (ns ++ n ∷ [])
among_push texts ns n all =
    let after : List (List ℕ) = insert_key bytes_eq texts n in
    All-push (λ text. list_any (bytes_eq text) after ≡ true) ns n
    (All-weaker (λ text. list_any (bytes_eq text) texts ≡ true) (λ text. list_any (bytes_eq text) after ≡ true) (λ text h. among_more texts text n h) ns all)
    (among texts n)

pub next_name : (xs : List (Bor (List ℕ))) (i : ℕ) (d : Bor (List ℕ)) → i < length xs → map (λ n. n.now) (take (i + 1) xs) ≡ map (λ n. n.now) (take i xs) ++ (get_or xs i d).now ∷ []
next_name xs i d h = ap (map (λ (n : Bor (List ℕ)). n.now)) (take_more xs i d h) ∙ map-append (λ (n : Bor (List ℕ)). n.now) (take i xs) (get_or xs i d ∷ [])

-- adding a name doesn't change the indexes of names that are in the list
numbers_stay : (texts : List (List ℕ)) (n : List ℕ) (ns : List (List ℕ)) → AreAmong texts ns → map (number_of (insert_key bytes_eq texts n)) ns ≡ map (number_of texts) ns
numbers_stay texts n [] all = refl
numbers_stay texts n (m ∷ ns) all =
    let P : List ℕ → Type 0 = λ text. list_any (bytes_eq text) texts ≡ true in
    rw (number_more texts m n (All-head P m ns all)) (ap (λ rest. number_of texts m ∷ rest) (numbers_stay texts n ns (All-tail P m ns all)))

-- a step of the loop over the names
pub name_texts : (first old new : List (List ℕ)) (ns more : List (List ℕ)) (n : List ℕ) → more ≡ ns ++ n ∷ [] → old ≡ with_all first ns → new ≡ insert_key bytes_eq old n → new ≡ with_all first more
name_texts first old new ns more n next is added = rw (added, is, next, fold-append (insert_key bytes_eq) first ns (n ∷ [])) refl

pub name_numbers : (old new ns more : List (List ℕ)) (n : List ℕ) (numbers last : List ℕ) (number : ℕ) → more ≡ ns ++ n ∷ [] → AreAmong old ns → new ≡ insert_key bytes_eq old n
    → numbers ≡ map (number_of old) ns → number ≡ number_of new n → last ≡ numbers ++ number ∷ [] → last ≡ map (number_of new) more
name_numbers old new ns more n numbers last number next all added are is put =
    rw (put, are, next, map-append (number_of new) ns (n ∷ []), is) (ap (λ xs. xs ++ number_of new n ∷ []) (sym (ap (λ ts. map (number_of ts) ns) added ∙ numbers_stay old n ns all)))

pub name_among : (old new ns more : List (List ℕ)) (n : List ℕ) → more ≡ ns ++ n ∷ [] → new ≡ insert_key bytes_eq old n → AreAmong old ns → AreAmong new more
name_among old new ns more n next added all = rw (added, next) (among_push old ns n all)

-- ---- the number of strings

length_own : (es : List Entry) → length (flat_map own_strings es) ≡ 2 * length es
length_own [] = refl
length_own (e ∷ es) = omega (arith, length_own es)

pub few_own : (es : List Entry) → length (distinct (flat_map own_strings es)) ≤ 2 * length es
few_own es = omega (arith, length_distinct (flat_map own_strings es), length_own es)
