-- The entries of a generated section: reading their texts back from the string table gives the same texts.
use Rattle.std.proofs.Common.{◌≡◌, ◌<◌, ◌^◌, ℕ, zero, suc, ◌+◌, Bool, true, false, cond, not, ◌||◌, ◌==◌, nat_lt, List, [], ◌∷◌, ◌++◌, length, map, filter, find, take, drop, Option, Some, None, option_map, refl, ap, sym, ◌∙◌, arith, append_assoc, length-append}
use Rattle.std.proofs.Math.Seq.{drop-append_seam}
use Rattle.std.proofs.lemmas.Bool.Decides.{nat_tests}
use Rattle.std.specs.List.{list_any, take_while}
use Rattle.elf_dynamic.specs.declared.kinds.DynamicEntry.{DynamicEntry}
use Rattle.elf_dynamic.specs.Section.{needed, has_tag, has_text, value_of, counts_after, counting_after, is_nul, near, has_text_at, text_at}
use Rattle.elf_dynamic.specs.Object.{text_in, text_of, needed_of}
use Rattle.elf_dynamic.specs.declared.text.TheConstants.{TEXT_LIMIT}
use Rattle.elf_dynamic.proofs.Live.{while_true}
use Rattle.elf_maker.specs.Texts.{Tagged, ended, ended_texts, text_entries}
use Rattle.elf_maker.proofs.Makeable.{HasText}
use Rattle.elf_maker.proofs.Reading.{AreSmall}
use Rattle.elf_dynamic.proofs.Nuls.{live}

-- ---- a text in a table

nul_there : (text rest : List ℕ) (n : ℕ) → length text < n → list_any is_nul (take n (text ++ 0 ∷ rest)) ≡ true
nul_there text rest zero h = absurd (omega arith)
nul_there [] rest (suc n) h = refl
nul_there (b ∷ text) rest (suc n) h = let ih = nul_there text rest n (omega arith) in grind arith

up_to_nul : (text rest : List ℕ) (n : ℕ) → list_any is_nul text ≡ false → length text < n → take_while live (take n (text ++ 0 ∷ rest)) ≡ text
up_to_nul text rest zero none h = absurd (omega arith)
up_to_nul [] rest (suc n) none h = refl
up_to_nul (b ∷ text) rest (suc n) none h =
    elim (is_nul b) as (λ x. is_nul b ≡ x → (x || list_any is_nul text) ≡ false → take_while live (b ∷ take n (text ++ 0 ∷ rest)) ≡ b ∷ text) [
      | true ↦ λ e k. absurd (cc)
      | false ↦ λ e k. while_true live b (take n (text ++ 0 ∷ rest)) (ap not e) ∙ ap (λ xs. b ∷ xs) (up_to_nul text rest n k (omega arith))
    ] refl none

-- Reading the string table at the offset of each text gives this text.
abbrev pub Reads : List ℕ → ℕ → List Tagged → Type 0
Reads table at [] = Unit {0}
Reads table at (t ∷ texts) = (has_text_at table at ≡ true) × (text_at table at ≡ t.1) × Reads table (at + length (ended t)) texts

abbrev pub AreTexts : List Tagged → Type 0
AreTexts [] = Unit {0}
AreTexts (t ∷ texts) = HasText t.1 × AreTexts texts

one_on : (t : Tagged) (texts : List Tagged) (front : List ℕ) → front ++ ended_texts (t ∷ texts) ≡ front ++ (t.1 ++ 0 ∷ ended_texts texts)
one_on t texts front = simp append_assoc refl

near_there : (t : Tagged) (texts : List Tagged) (front table : List ℕ) (at : ℕ) → table ≡ front ++ ended_texts (t ∷ texts) → at ≡ length front → near table at ≡ take TEXT_LIMIT (t.1 ++ 0 ∷ ended_texts texts)
unfolding near
near_there t texts front table at is here =
    let rest = t.1 ++ 0 ∷ ended_texts texts in
    let following : drop at table ≡ rest = ap (λ k. drop k table) here ∙ ap (drop (length front)) (is ∙ one_on t texts front) ∙ drop-append_seam front rest in
    ap (take TEXT_LIMIT) following

within : (t : Tagged) (texts : List Tagged) (front table : List ℕ) (at : ℕ) → table ≡ front ++ ended_texts (t ∷ texts) → at ≡ length front → nat_lt at (length table) ≡ true
within t texts front table at is here =
    let size = ap length (is ∙ one_on t texts front) in
    let parts = length-append front (t.1 ++ 0 ∷ ended_texts texts) in
    let text = length-append t.1 (0 ∷ ended_texts texts) in
    let less : at < length table = omega (arith, size, parts, text) in
    grind (arith, nat_tests)

pub reads : (texts : List Tagged) (front table : List ℕ) (at : ℕ) → AreTexts texts → table ≡ front ++ ended_texts texts → at ≡ length front → Reads table at texts
reads [] front table at are is here = tt
reads (t ∷ texts) front table at are is here =
    let rest = ended_texts texts in
    let nearby = near_there t texts front table at is here in
    let inside = within t texts front table at is here in
    let nul : list_any is_nul (near table at) ≡ true = ap (list_any is_nul) nearby ∙ nul_there t.1 rest TEXT_LIMIT (let s = are.0.short in omega arith) in
    let text : text_at table at ≡ t.1 = ap (take_while live) nearby ∙ up_to_nul t.1 rest TEXT_LIMIT are.0.no_nul (let s = are.0.short in omega arith) in
    let next = front ++ ended t in
    let is_next : table ≡ next ++ rest = is ∙ sym (append_assoc front (ended t) rest) in
    let here_next : at + length (ended t) ≡ length next = omega (arith, here, length-append front (ended t)) in
    (rw (inside, nul) refl, text, reads texts next table (at + length (ended t)) are.1 is_next here_next)

-- ---- the entries of the texts, followed by other entries

abbrev pub is_label : ℕ → Bool
is_label tag = (tag == 1) || (tag == 14) || (tag == 15) || (tag == 29)

abbrev pub AreLabelled : List Tagged → Type 0
AreLabelled [] = Unit {0}
AreLabelled (t ∷ texts) = (is_label t.0 ≡ true) × AreLabelled texts

other_tag : (a b : ℕ) → is_label a ≡ true → is_label b ≡ false → (a == b) ≡ false
other_tag a b ha hb = grind (arith, nat_tests)

not_null : (a : ℕ) → is_label a ≡ true → not (a == 0) ≡ true
not_null a h = grind (arith, nat_tests)

label_small : (a : ℕ) → is_label a ≡ true → a < 2 ^ 32
label_small a h = grind (arith, nat_tests)

-- the value of a tag without a text is its value in the other entries
pub value_after : (tag at : ℕ) (texts : List Tagged) (others : List DynamicEntry) → is_label tag ≡ false → AreLabelled texts → value_of tag (text_entries at texts ++ others) ≡ value_of tag others
value_after tag at [] others h are = refl
value_after tag at (t ∷ texts) others h are =
    let ih = value_after tag (at + length (ended t)) texts others h are.1 in
    rw (other_tag t.0 tag are.0 h) ih

unfoldable pub found : ℕ → List Tagged → Option (List ℕ)
found tag texts = option_map (λ t. t.1) (find (λ t. t.0 == tag) texts)

pub text_found : (tag at : ℕ) (texts : List Tagged) (table : List ℕ) (others : List DynamicEntry) → value_of tag others ≡ None → Reads table at texts →
    text_of tag (Some table) (text_entries at texts ++ others) ≡ found tag texts
unfolding found
text_found tag at [] table others none r = rw none refl
text_found tag at (t ∷ texts) table others none r =
    let ih = text_found tag (at + length (ended t)) texts table others none r.2 in
    elim (t.0 == tag) as (λ b. text_in (Some table) (option_map (λ e. e.value) (cond b (Some (record { tag = t.0; value = at })) (find (has_tag tag) (text_entries (at + length (ended t)) texts ++ others))))
    ≡ option_map (λ t. t.1) (cond b (Some t) (find (λ t. t.0 == tag) texts))) [ true ↦ ap Some r.1 | false ↦ ih ]

unfoldable pub needed_texts_of : List Tagged → List (List ℕ)
needed_texts_of texts = map (λ t. t.1) (filter (λ t. t.0 == 1) texts)

pub needed_found : (at : ℕ) (texts : List Tagged) (table : List ℕ) (others : List DynamicEntry) → filter (has_tag needed) others ≡ [] → Reads table at texts →
    needed_of (Some table) (text_entries at texts ++ others) ≡ needed_texts_of texts
unfolding needed_texts_of
needed_found at [] table others none r = rw none refl
needed_found at (t ∷ texts) table others none r =
    let ih = needed_found (at + length (ended t)) texts table others none r.2 in
    elim (t.0 == 1) as (λ b. map (λ e. text_at table e.value) (cond b (record { tag = t.0; value = at } ∷ filter (has_tag needed) (text_entries (at + length (ended t)) texts ++ others)) (filter (has_tag needed) (text_entries (at + length (ended t)) texts ++ others)))
    ≡ map (λ t. t.1) (cond b (t ∷ filter (λ t. t.0 == 1) texts) (filter (λ t. t.0 == 1) texts))) [ true ↦ ap (λ x. x ∷ needed_of (Some table) (text_entries (at + length (ended t)) texts ++ others)) r.1 ∙ ap (λ xs. t.1 ∷ xs) ih | false ↦ ih ]

none_count : (earlier others : List DynamicEntry) → list_any has_text others ≡ false → counting_after earlier others ≡ []
none_count earlier [] h = refl
none_count earlier (e ∷ others) h =
    elim (has_text e) as (λ b. has_text e ≡ b → (b || list_any has_text others) ≡ false → counting_after earlier (e ∷ others) ≡ []) [
      | true ↦ λ is k. absurd (cc)
      | false ↦ λ is k. rw is (none_count (e ∷ earlier) others k)
    ] refl h

-- each entry that counts has its text in the table
pub none_bad : (at : ℕ) (texts : List Tagged) (table : List ℕ) (earlier others : List DynamicEntry) → list_any has_text others ≡ false → Reads table at texts →
    find (λ e. not (has_text_at table e.value)) (counting_after earlier (text_entries at texts ++ others)) ≡ None
none_bad at [] table earlier others none r = rw (none_count earlier others none) refl
none_bad at (t ∷ texts) table earlier others none r =
    let e : DynamicEntry = record { tag = t.0; value = at } in
    let ih = none_bad (at + length (ended t)) texts table (e ∷ earlier) others none r.2 in
    let rest = counting_after (e ∷ earlier) (text_entries (at + length (ended t)) texts ++ others) in
    elim (counts_after earlier e) as (λ b. find (λ e. not (has_text_at table e.value)) (cond b (e ∷ rest) rest) ≡ None) [ true ↦ rw r.0 ih | false ↦ ih ]

pub live_texts : (at : ℕ) (texts : List Tagged) (others : List DynamicEntry) → AreLabelled texts →
    take_while (λ e. not (e.tag == 0)) (text_entries at texts ++ others) ≡ text_entries at texts ++ take_while (λ e. not (e.tag == 0)) others
live_texts at [] others are = refl
live_texts at (t ∷ texts) others are =
    let e : DynamicEntry = record { tag = t.0; value = at } in
    while_true (λ e. not (e.tag == 0)) e (text_entries (at + length (ended t)) texts ++ others) (not_null t.0 are.0) ∙ ap (λ xs. e ∷ xs) (live_texts (at + length (ended t)) texts others are.1)

pub small_texts : (at : ℕ) (texts : List Tagged) (others : List DynamicEntry) → AreLabelled texts → at + length (ended_texts texts) < 2 ^ 32 → AreSmall others → AreSmall (text_entries at texts ++ others)
small_texts at [] others are h small = small
small_texts at (t ∷ texts) others are h small =
    let size = length-append (ended t) (ended_texts texts) in
    (label_small t.0 are.0, omega arith, small_texts (at + length (ended t)) texts others are.1 (omega arith) small)
