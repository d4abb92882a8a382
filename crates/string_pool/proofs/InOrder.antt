-- The offsets of texts in a string table.
use Rattle.std.proofs.Common.{◌≡◌, ℕ, zero, suc, ◌+◌, ◌≤◌, ◌<◌, Bool, true, false, cond, not, List, [], ◌∷◌, ◌++◌, length, take, drop, get_or, refl, sym, ap, ◌∙◌, true≢false, arith, bytes_eq, if◌then◌else◌}
use Rattle.std.proofs.Math.Seq.{take-append_seam, drop-append-add}
use Rattle.std.proofs.lemmas.List.{append-nil, length-append}
use Rattle.std.proofs.lemmas.List.Concat.{flat_map-append}
use Rattle.std.proofs.lemmas.Slice.Eq.{bytes_eq-Decides}
use Rattle.std.specs.List.{list_any, before_first, position_or_len}
use Rattle.indexmap.specs.IndexSet.{insert_key}
use Rattle.string_pool.specs.Texts.{with_nul, IsTextAt}
use Rattle.string_pool.specs.InOrder.{table_of, offset_of}
use Rattle.string_pool.specs.Kept.{offsets_from, AreLaidOut}

-- one more string has the offset after the bytes of the strings before it
pub offsets_from_push : (place : ℕ) (ts : List (List ℕ)) (t : List ℕ) → offsets_from place (ts ++ t ∷ []) ≡ offsets_from place ts ++ (place + length (table_of ts)) ∷ []
offsets_from_push place [] t = ap (λ n. n ∷ []) (omega arith)
offsets_from_push place (s ∷ ts) t =
    let e : place + length (with_nul s) + length (table_of ts) ≡ place + length (table_of (s ∷ ts)) = omega (arith, length-append (with_nul s) (table_of ts)) in
    ap (λ xs. place ∷ xs) (offsets_from_push (place + length (with_nul s)) ts t ∙ ap (λ n. offsets_from (place + length (with_nul s)) ts ++ n ∷ []) e)

-- the number of bytes with one more string
pub length_table_push : (ts : List (List ℕ)) (t : List ℕ) → length (table_of (ts ++ t ∷ [])) ≡ length (table_of ts) + (length t + 1)
length_table_push [] t = simp length-append (omega arith)
length_table_push (s ∷ ts) t = omega (arith, length-append (with_nul s) (table_of ts), length-append (with_nul s) (table_of (ts ++ t ∷ [])), length_table_push ts t)

-- inserting a string adds at most its own bytes and its NUL
pub length_table_insert : (ts : List (List ℕ)) (t : List ℕ) → length (table_of (insert_key bytes_eq ts t)) ≤ length (table_of ts) + (length t + 1)
length_table_insert ts t =
    elim (list_any (bytes_eq t) ts) as (λ b. length (table_of (if b then ts else ts ++ t ∷ [])) ≤ length (table_of ts) + (length t + 1)) [
      | true ↦ omega arith
      | false ↦ omega (arith, length_table_push ts t)
    ]

-- the offset of a string in a list with one more string at the front
offset_of_cons : (t : List ℕ) (ts : List (List ℕ)) (text : List ℕ) → offset_of (t ∷ ts) text ≡ cond (bytes_eq text t) 0 (length (with_nul t) + offset_of ts text)
offset_of_cons t ts text = by (bytes_eq text t)
  where
    one_more : 1 + position_or_len (bytes_eq text) ts ≡ suc (position_or_len (bytes_eq text) ts)
    one_more = omega arith

    by : (b : Bool) → length (table_of (take (cond (not b) (1 + position_or_len (bytes_eq text) ts) 0) (t ∷ ts))) ≡ cond b 0 (length (with_nul t) + offset_of ts text)
    by true = refl
    by false = rw one_more (length-append (with_nul t) (table_of (before_first (bytes_eq text) ts)))

-- a string's offset is at most the length of the table
pub place_of_le : (ts : List (List ℕ)) (text : List ℕ) → offset_of ts text ≤ length (table_of ts)
place_of_le [] text = omega arith
place_of_le (t ∷ ts) text =
    let all = length-append (with_nul t) (table_of ts) in
    let rest = place_of_le ts text in
    rw (offset_of_cons t ts text) (elim (bytes_eq text t) as (λ b. cond b 0 (length (with_nul t) + offset_of ts text) ≤ length (table_of (t ∷ ts))) [
      | true ↦ omega arith
      | false ↦ omega (arith, all, rest)
    ])

-- a string is in the table at its offset
pub located : (ts : List (List ℕ)) (t : List ℕ) → list_any (bytes_eq t) ts ≡ true → IsTextAt (table_of ts) (offset_of ts t) t
located [] t h = absurd (true≢false (sym h))
located (s ∷ ts) t h = rw (offset_of_cons s ts t) (by (bytes_eq t s) refl (located ts t))
  where
    size : length (with_nul t) ≡ length t + 1
    size = length-append t (0 ∷ [])

    by : (b : Bool) → bytes_eq t s ≡ b → (list_any (bytes_eq t) ts ≡ true → IsTextAt (table_of ts) (offset_of ts t) t)
        → take (length t + 1) (drop (cond b 0 (length (with_nul s) + offset_of ts t)) (with_nul s ++ table_of ts)) ≡ with_nul t
    by true e rest =
        let same : t ≡ s = (bytes_eq-Decides t s).0 e in
        rw (← same, ← size) (take-append_seam (with_nul t) (table_of ts))
    by false e rest = ap (take (length t + 1)) (drop-append-add (with_nul s) (table_of ts) (offset_of ts t)) ∙ rest (sym (rw e refl) ∙ h)

-- ---- what a table stores

-- the bytes of one more text
pub table_push : (ts : List (List ℕ)) (t : List ℕ) → table_of (ts ++ t ∷ []) ≡ table_of ts ++ with_nul t
table_push ts t = flat_map-append with_nul ts (t ∷ []) ∙ ap (λ (xs : List ℕ). table_of ts ++ xs) (append-nil (with_nul t))

-- one more text is laid out after the others
pub laid_more : (base : ℕ) (ts more : List (List ℕ)) (t : List ℕ) (offsets new_offsets bytes new_bytes : List ℕ) → AreLaidOut base ts offsets bytes → more ≡ ts ++ t ∷ []
    → new_offsets ≡ offsets ++ (base + length bytes) ∷ [] → new_bytes ≡ bytes ++ with_nul t → AreLaidOut base more new_offsets new_bytes
laid_more base ts more t offsets new_offsets bytes new_bytes h next one two = rw next (record {
  places = one ∙ rw (h.places, h.table) (sym (offsets_from_push base ts t));
  table = two ∙ rw h.table (sym (table_push ts t));
})

-- the stored offset of the text at an index
pub offset_there : (base : ℕ) (ts : List (List ℕ)) (i d : ℕ) → i < length ts → get_or (offsets_from base ts) i d ≡ base + length (table_of (take i ts))
offset_there base [] i d h = absurd (omega arith)
offset_there base (t ∷ ts) zero d h = omega arith
offset_there base (t ∷ ts) (suc i) d h = offset_there (base + length (with_nul t)) ts i d (omega arith) ∙ omega (arith, length-append (with_nul t) (table_of (take i ts)))

pub length_offsets_from : (base : ℕ) (ts : List (List ℕ)) → length (offsets_from base ts) ≡ length ts
length_offsets_from base [] = refl
length_offsets_from base (t ∷ ts) = omega (arith, length_offsets_from (base + length (with_nul t)) ts)

-- the first i texts have at most as many bytes as all texts
pub length_table_take : (i : ℕ) (ts : List (List ℕ)) → length (table_of (take i ts)) ≤ length (table_of ts)
length_table_take zero ts = omega arith
length_table_take (suc i) [] = omega arith
length_table_take (suc i) (t ∷ ts) = omega (arith, length-append (with_nul t) (table_of ts), length-append (with_nul t) (table_of (take i ts)), length_table_take i ts)

-- each text has at least one byte, its NUL
pub length_le_table : (ts : List (List ℕ)) → length ts ≤ length (table_of ts)
length_le_table [] = omega arith
length_le_table (t ∷ ts) = omega (arith, length-append (with_nul t) (table_of ts), length-append t (0 ∷ []), length_le_table ts)
