-- Removing repetitions is the same as inserting the texts one after the other.
use Rattle.std.proofs.Common.{◌≡◌, ℕ, Bool, true, false, cond, not, ◌||◌, List, [], ◌∷◌, ◌++◌, filter, refl, sym, ap, subst, ◌∙◌, bytes_eq}
use Rattle.std.proofs.lemmas.List.{append_assoc, append-nil}
use Rattle.std.proofs.lemmas.List.Elements.{filter-append}
use Rattle.std.proofs.lemmas.Bool.Decides.{same_from_decides, Decides-like}
use Rattle.std.proofs.lemmas.Slice.Eq.{bytes_eq-Decides}
use Rattle.std.specs.List.{list_any, fold}
use Rattle.indexmap.specs.IndexSet.{insert_key}
use Rattle.string_pool.specs.Distinct.{distinct}

bytes_eq-sym : (xs ys : List ℕ) → bytes_eq xs ys ≡ bytes_eq ys xs
bytes_eq-sym xs ys = same_from_decides (bytes_eq xs ys) (bytes_eq ys xs) (bytes_eq-Decides xs ys) (Decides-like (bytes_eq ys xs) sym sym (bytes_eq-Decides ys xs))

-- removing another text doesn't change whether a text is found
kept : (text other : List ℕ) (ts : List (List ℕ)) → bytes_eq text other ≡ false
    → list_any (bytes_eq text) (filter (λ t. not (bytes_eq other t)) ts) ≡ list_any (bytes_eq text) ts
kept text other [] _ = refl
kept text other (t ∷ ts) differ = by (bytes_eq other t) refl (kept text other ts differ)
  where
    by : (b : Bool) → bytes_eq other t ≡ b
        → list_any (bytes_eq text) (filter (λ x. not (bytes_eq other x)) ts) ≡ list_any (bytes_eq text) ts
        → list_any (bytes_eq text) (cond (not b) (t ∷ filter (λ x. not (bytes_eq other x)) ts) (filter (λ x. not (bytes_eq other x)) ts)) ≡ (bytes_eq text t || list_any (bytes_eq text) ts)
    by true e rest = rw (subst (λ x. bytes_eq text x ≡ false) ((bytes_eq-Decides other t).0 e) differ) rest
    by false e rest = ap (λ b. bytes_eq text t || b) rest

-- one more text
pub distinct_push : (ts : List (List ℕ)) (t : List ℕ) → distinct (ts ++ t ∷ []) ≡ insert_key bytes_eq (distinct ts) t
distinct_push [] t = refl
distinct_push (s ∷ ts) t = rw (distinct_push ts t) (by (bytes_eq t s) (list_any (bytes_eq t) (distinct ts)) refl refl)
  where
    by : (a b : Bool) → bytes_eq t s ≡ a → list_any (bytes_eq t) (distinct ts) ≡ b
        → s ∷ filter (λ x. not (bytes_eq s x)) (insert_key bytes_eq (distinct ts) t) ≡ insert_key bytes_eq (s ∷ filter (λ x. not (bytes_eq s x)) (distinct ts)) t
    by true true p q = rw (p, q) refl
    by true false p q = rw (p, q) (ap (λ xs. s ∷ xs) (filter-append (λ x. not (bytes_eq s x)) (distinct ts) (t ∷ []) ∙ rw (bytes_eq-sym s t ∙ p) (append-nil (filter (λ x. not (bytes_eq s x)) (distinct ts)))))
    by false true p q = rw (p, kept t s (distinct ts) p, q) refl
    by false false p q = rw (p, kept t s (distinct ts) p, q) (ap (λ xs. s ∷ xs) (filter-append (λ x. not (bytes_eq s x)) (distinct ts) (t ∷ []) ∙ rw (bytes_eq-sym s t ∙ p) refl))

-- texts that are added one after the other
pub distinct_append : (ts us : List (List ℕ)) → distinct (ts ++ us) ≡ fold (insert_key bytes_eq) (distinct ts) us
distinct_append ts [] = ap distinct (append-nil ts)
distinct_append ts (u ∷ us) = ap distinct (sym (append_assoc ts (u ∷ []) us)) ∙ distinct_append (ts ++ u ∷ []) us ∙ ap (λ xs. fold (insert_key bytes_eq) xs us) (distinct_push ts u)

pub distinct_folded : (ts : List (List ℕ)) → distinct ts ≡ fold (insert_key bytes_eq) [] ts
distinct_folded ts = distinct_append [] ts
