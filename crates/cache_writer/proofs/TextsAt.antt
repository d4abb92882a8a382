-- Reading the entries and the strings of a cache at their offsets.
use Rattle.std.proofs.Common.{◌≡◌, ℕ, zero, suc, ◌+◌, ◌-◌, ◌<◌, ◌≤◌, ◌==◌, ◌||◌, true, false, List, [], ◌∷◌, ◌++◌, length, drop, refl, sym, ap, ◌∙◌, append_assoc, arith, bytes_eq, length-append}
use Rattle.std.proofs.lemmas.List.{length-drop, take-append-drop}
use Rattle.std.specs.List.{list_any, before_first}
use Rattle.lib_types.proofs.OneSize.{before_nul, following}
use Rattle.string_pool.specs.Texts.{with_nul}
use Rattle.string_pool.specs.SharedEnds.{shared_offset, shared_table}
use Rattle.string_pool.proofs.Located.{offset_fits, string_located}
use Rattle.cache_reader.specs.Cache.{is_nul, text_at, is_ended}
use Rattle.image_tree.specs.Node.{has_no_nul}

-- the bytes at this offset are a text and its NUL
pub record HasText (bytes : List ℕ) (at : ℕ) (text : List ℕ) : Type 0 where
  pub rest : List ℕ
  pub there : drop at bytes ≡ text ++ 0 ∷ rest

drop_in : (k : ℕ) (xs ys : List ℕ) → k ≤ length xs → drop k (xs ++ ys) ≡ drop k xs ++ ys
drop_in zero xs ys h = refl
drop_in (suc k) [] ys h = absurd (omega arith)
drop_in (suc k) (x ∷ xs) ys h = drop_in k xs ys (omega arith)

-- a string of the string table is at its offset
pub string_there : (front rest : List ℕ) (ts : List (List ℕ)) (t : List ℕ) (base : ℕ) → length front ≡ base → list_any (bytes_eq t) ts ≡ true
    → HasText (front ++ (shared_table ts ++ rest)) (base + shared_offset ts t) t
string_there front rest ts t base size among =
    let at = shared_offset ts t in
    let table = shared_table ts in
    let tail = drop (length t + 1) (drop at table) in
    let parts : drop at table ≡ with_nul t ++ tail = sym (take-append-drop (length t + 1) (drop at table)) ∙ ap (λ xs. xs ++ tail) (string_located ts t among) in
    record {
      rest = tail ++ rest;
      there =
          following front (table ++ rest) base at size ∙ drop_in at table rest (offset_fits ts t) ∙ ap (λ xs. xs ++ rest) parts
          ∙ append_assoc (with_nul t) tail rest ∙ append_assoc t (0 ∷ []) (tail ++ rest);
    }

nul_there : (t rest : List ℕ) → list_any is_nul (t ++ 0 ∷ rest) ≡ true
nul_there [] rest = refl
nul_there (x ∷ t) rest = elim (x == 0) as (λ b. (b || list_any is_nul (t ++ 0 ∷ rest)) ≡ true) [ true ↦ refl | false ↦ nul_there t rest ]

pub text_back : (bytes : List ℕ) (at : ℕ) (t : List ℕ) → has_no_nul t ≡ true → HasText bytes at t → text_at bytes at ≡ t
text_back bytes at t plain h = ap (before_first is_nul) h.there ∙ before_nul t h.rest plain

pub text_ends : (bytes : List ℕ) (at : ℕ) (t : List ℕ) → HasText bytes at t → is_ended bytes at ≡ true
text_ends bytes at t h = ap (list_any is_nul) h.there ∙ nul_there t h.rest

pub text_inside : (bytes : List ℕ) (at : ℕ) (t : List ℕ) → HasText bytes at t → at < length bytes
text_inside bytes at t h =
    let size : length bytes - at ≡ length t + suc (length h.rest) = sym (length-drop at bytes) ∙ ap length h.there ∙ length-append t (0 ∷ h.rest) in
    omega (arith, size)
