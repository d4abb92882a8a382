-- The bytes at the front of a path.
use Rattle.std.proofs.Common.{◌≡◌, ℕ, zero, suc, ◌<◌, ◌≤◌, true, false, nat_eq, List, [], ◌∷◌, ◌++◌, append_assoc, get_or, length, drop, refl, ap, sym, ◌∙◌, arith}
use Rattle.std.proofs.lemmas.Bool.Decides.{Decides-eqb}
use Rattle.std.proofs.lemmas.List.{length-append}
use Rattle.std.proofs.lemmas.Slice.Eq.{starts_is}
use Rattle.std.specs.List.{starts_with}
use Rattle.lib_types.proofs.SortedPairs.{by_test}
use Rattle.image_tree.specs.Paths.{root}

-- a path doesn't begin with a text that is longer than the path
pub too_short : (path front : List ℕ) → length path < length front → false ≡ starts_with nat_eq path front
too_short path front less = by_test (starts_with nat_eq path front)
    (λ e. let whole = (starts_is Decides-eqb path front (starts_with nat_eq path front) refl).0 e in absurd (omega (arith, ap length whole ∙ length-append front _)))
    sym

-- ---- with a slash after the front

begins : (front q : List ℕ) → starts_with nat_eq q front ≡ true → q ≡ front ++ drop (length front) q
begins front q e = (starts_is Decides-eqb q front (starts_with nat_eq q front) refl).0 e

begins_by : (front q rest : List ℕ) → q ≡ front ++ rest → starts_with nat_eq q front ≡ true
begins_by front q rest e = (starts_is Decides-eqb q front (starts_with nat_eq q front) refl).1 rest e

-- a path that begins with the front and a slash
after_front : (front q : List ℕ) → starts_with nat_eq q (front ++ root) ≡ true → (rest : List ℕ) × (q ≡ front ++ 47 ∷ rest)
after_front front q e = (drop (length (front ++ root)) q, begins (front ++ root) q e ∙ append_assoc front root _)

byte_after : (front rest : List ℕ) → get_or (front ++ 47 ∷ rest) (length front) 0 ≡ 47
byte_after [] rest = refl
byte_after (x ∷ front) rest = byte_after front rest

pub below_short : (front q : List ℕ) → length q ≤ length front → false ≡ starts_with nat_eq q (front ++ root)
below_short front q short = by_test (starts_with nat_eq q (front ++ root))
    (λ e. let r = after_front front q e in absurd (omega (arith, short, ap length r.1 ∙ length-append front (47 ∷ r.0))))
    sym

pub below_other : (front q : List ℕ) → (get_or q (length front) 0 ≡ 47 → ⊥) → false ≡ starts_with nat_eq q (front ++ root)
below_other front q other = by_test (starts_with nat_eq q (front ++ root))
    (λ e. let r = after_front front q e in absurd (other (ap (λ z. get_or z (length front) 0) r.1 ∙ byte_after front r.0)))
    sym

split_at : (q : List ℕ) (n : ℕ) → n < length q → drop n q ≡ get_or q n 0 ∷ drop (suc n) q
split_at [] n h = absurd (omega arith)
split_at (x ∷ q) zero h = refl
split_at (x ∷ q) (suc n) h = split_at q n (omega arith)

pub below_begins : (front q : List ℕ) → length front < length q → get_or q (length front) 0 ≡ 47 → starts_with nat_eq q front ≡ starts_with nat_eq q (front ++ root)
below_begins front q more slash = by_test (starts_with nat_eq q front)
    (λ e.
    let n = length front in
    let whole : q ≡ front ++ 47 ∷ drop (suc n) q = begins front q e ∙ ap (λ z. front ++ z) (split_at q n more ∙ ap (λ z. z ∷ drop (suc n) q) slash) in
    e ∙ sym (begins_by (front ++ root) q (drop (suc n) q) (whole ∙ sym (append_assoc front root _))))
    (λ e. by_test (starts_with nat_eq q (front ++ root))
    (λ f. let r = after_front front q f in let z : true ≡ false = sym (begins_by front q (47 ∷ r.0) r.1) ∙ e in absurd (cc))
    (λ f. e ∙ sym f))

pub ruleset below_laws = (below_short, below_other, below_begins)
