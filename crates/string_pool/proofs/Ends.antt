-- Texts that end in other texts, and the order of texts that are read from the end.
use Rattle.std.proofs.Common.{◌≡◌, ℕ, ◌-◌, ◌<◌, true, false, List, [], ◌∷◌, ◌++◌, length, take, drop, reverse, inl, inr, ⊎_elim, refl, sym, ap, ◌∙◌, subst, true≢false}
use Rattle.std.specs.Prelude.{◌⊎◌}
use Rattle.std.proofs.lemmas.Cmp.{nat_cmp_total, tied_itself, ranked}
use Rattle.std.proofs.lemmas.List.{append-nil, append_assoc, reverse-append, reverse-reverse, take-append-drop}
use Rattle.std.proofs.lemmas.List.Prefix.{end_rest}
use Rattle.std.proofs.lemmas.Slice.Eq.{bytes_eq-Decides}
use Rattle.std.specs.Cmp.Lexicographic.{slice_cmp}
use Rattle.std.specs.Ordering.{MatchOrdering, is_gt, nat_cmp}
use Rattle.std.specs.declared.cmp.Ordering.TheVariants.{Less, Equal, Greater}
use Rattle.lib_types.proofs.SortedPairs.{by_ordering, flipped}
use Rattle.string_pool.specs.Backward.{back_cmp}
use Rattle.string_pool.specs.SharedEnds.{ends_in}

-- ---- lists that begin with other lists

abbrev Begins : List ℕ → List ℕ → Type 0
Begins u p = (rest : List ℕ) × (u ≡ p ++ rest)

pub nat_same : (x y : ℕ) → nat_cmp x y ≡ Equal → x ≡ y
nat_same x y h = subst (λ o. MatchOrdering o (x < y) (x ≡ y) (y < x)) h (ranked x y (nat_cmp x y) refl)

prefix_le : (p q : List ℕ) → is_gt (slice_cmp nat_cmp p (p ++ q)) ≡ false
prefix_le [] [] = refl
prefix_le [] (x ∷ q) = refl
prefix_le (x ∷ p) q = rw (tied_itself nat_cmp_total x) (prefix_le p q)

prefix_same : (p q : List ℕ) → is_gt (slice_cmp nat_cmp (p ++ q) p) ≡ false → q ≡ []
prefix_same [] [] h = refl
prefix_same [] (x ∷ q) h = absurd (true≢false h)
prefix_same (x ∷ p) q h = prefix_same p q (rw (tied_itself nat_cmp_total x) at h)

between : (p v rest : List ℕ) → is_gt (slice_cmp nat_cmp p v) ≡ false → is_gt (slice_cmp nat_cmp v (p ++ rest)) ≡ false → Begins v p
between [] v rest h g = (v, refl)
between (x ∷ p) [] rest h g = absurd (true≢false h)
between (x ∷ p) (y ∷ v) rest h g = by_ordering (nat_cmp x y)
    (λ less.
    let turned : nat_cmp y x ≡ Greater = flipped nat_cmp_total x y Less less in
    let wrong : true ≡ false = rw turned at g in absurd (true≢false wrong))
    (λ tied.
    let turned : nat_cmp y x ≡ Equal = flipped nat_cmp_total x y Equal tied in
    let low : is_gt (slice_cmp nat_cmp p v) ≡ false = rw tied at h in
    let high : is_gt (slice_cmp nat_cmp v (p ++ rest)) ≡ false = rw turned at g in
    let same : x ≡ y = nat_same x y tied in
    let inner = between p v rest low high in
    (inner.0, ap (λ (n : ℕ). n ∷ v) (sym same) ∙ ap (λ (xs : List ℕ). x ∷ xs) inner.1))
    (λ greater. let wrong : true ≡ false = rw greater at h in absurd (true≢false wrong))

two : (p q r s : List ℕ) → p ++ r ≡ q ++ s → Begins q p ⊎ Begins p q
two [] q r s e = inl (q, refl)
two (x ∷ p) [] r s e = inr (x ∷ p, refl)
two (x ∷ p) (y ∷ q) r s e =
    let same : x ≡ y = cc in
    let rest : p ++ r ≡ q ++ s = cc in
    ⊎_elim
    (λ a. inl (a.0, rw same (ap (λ (xs : List ℕ). y ∷ xs) a.1)))
    (λ b. inr (b.0, rw same (ap (λ (xs : List ℕ). y ∷ xs) b.1)))
    (two p q r s rest)

-- ---- texts that end in other texts

pub front_of : (end text : List ℕ) → ends_in end text ≡ true → (front : List ℕ) × (text ≡ front ++ end)
front_of end text h =
    let k = length text - length end in
    let same : end ≡ drop k text = (bytes_eq-Decides end (drop k text)).0 h in
    (take k text, sym (take-append-drop k text) ∙ ap (λ (xs : List ℕ). take k text ++ xs) (sym same))

pub from_front : (end text front : List ℕ) → text ≡ front ++ end → ends_in end text ≡ true
from_front end text front h = (bytes_eq-Decides end (drop (length text - length end) text)).1 (sym (end_rest text end front h))

begins : (end text : List ℕ) → ends_in end text ≡ true → Begins (reverse text) (reverse end)
begins end text h =
    let front = front_of end text h in
    (reverse front.0, ap reverse front.1 ∙ reverse-append front.0 end)

from_begins : (end text : List ℕ) → Begins (reverse text) (reverse end) → ends_in end text ≡ true
from_begins end text h = from_front end text (reverse h.0)
    (sym (reverse-reverse text) ∙ ap reverse h.1 ∙ reverse-append (reverse end) h.0 ∙ ap (λ (xs : List ℕ). reverse h.0 ++ xs) (reverse-reverse end))

pub ends_itself : (text : List ℕ) → ends_in text text ≡ true
ends_itself text = from_front text text [] refl

pub ends_through : (a b c : List ℕ) → ends_in b a ≡ true → ends_in c b ≡ true → ends_in c a ≡ true
ends_through a b c h g =
    let outer = front_of b a h in
    let inner = front_of c b g in
    from_front c a (outer.0 ++ inner.0) (outer.1 ∙ ap (λ (xs : List ℕ). outer.0 ++ xs) inner.1 ∙ sym (append_assoc outer.0 inner.0 c))

-- of two ends of a text, one is an end of the other
pub ends_either : (a b c : List ℕ) → ends_in b a ≡ true → ends_in c a ≡ true → (ends_in b c ≡ true) ⊎ (ends_in c b ≡ true)
ends_either a b c h g =
    let first = begins b a h in
    let second = begins c a g in
    ⊎_elim (λ x. inl (from_begins b c x)) (λ y. inr (from_begins c b y)) (two (reverse b) (reverse c) first.0 second.0 (sym first.1 ∙ second.1))

-- an end of a text is not above it
pub ends_below : (end text : List ℕ) → ends_in end text ≡ true → is_gt (back_cmp end text) ≡ false
ends_below end text h =
    let found = begins end text h in
    rw found.1 (prefix_le (reverse end) found.0)

-- a text is above its proper ends
pub ends_same : (end text : List ℕ) → ends_in end text ≡ true → is_gt (back_cmp text end) ≡ false → text ≡ end
ends_same end text h low =
    let found = begins end text h in
    let none : found.0 ≡ [] = prefix_same (reverse end) found.0 (rw found.1 at low) in
    let same : reverse text ≡ reverse end = found.1 ∙ ap (λ (xs : List ℕ). reverse end ++ xs) none ∙ append-nil (reverse end) in
    sym (reverse-reverse text) ∙ ap reverse same ∙ reverse-reverse end

-- what is between a text and a text that ends in it ends in it too
pub ends_between : (end text other : List ℕ) → is_gt (back_cmp end text) ≡ false → is_gt (back_cmp text other) ≡ false → ends_in end other ≡ true → ends_in end text ≡ true
ends_between end text other low high h =
    let found = begins end other h in
    from_begins end text (between (reverse end) (reverse text) found.0 low (rw found.1 at high))
