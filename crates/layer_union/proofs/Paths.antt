-- Paths above and below a path.
use Rattle.std.proofs.Common.{◌≡◌, ℕ, ◌+◌, ◌<◌, ◌≤◌, true, false, cond, ◌&&◌, ◌||◌, nat_eq, List, [], ◌∷◌, ◌++◌, append_assoc, drop, length, length-append, Option, Some, None, unwrap_or, refl, sym, ap, ◌∙◌, ◌⊎◌, inl, inr, arith}
use Rattle.std.proofs.lemmas.Bool.{eq-eqb}
use Rattle.std.specs.List.{starts_with}
use Rattle.std.specs.Str.{bytes_eq}
use Rattle.lib_types.proofs.SortedPairs.{by_test}
use Rattle.lib_types.specs.Name.{slash}
use Rattle.image_tree.proofs.Below.{below_from, below_is, not_root}
use Rattle.image_tree.proofs.Rising.{below_rest}
use Rattle.image_tree.specs.Paths.{folder, is_below, is_path, root}
use Rattle.layer_union.proofs.Trees.{same_from, same_is}
use Rattle.layer_union.specs.Steps.{way_up}
use Rattle.path_walk.specs.Names.{before_last, more_before, parent, unless_empty}
use Rattle.path_walk.proofs.KindsAt.{cut_last}

pub front : (f r : List ℕ) → starts_with nat_eq (f ++ r) f ≡ true
front [] r = refl
front (x ∷ f) r = ap (λ b. b && starts_with nat_eq (f ++ r) f) (eq-eqb x x refl) ∙ front f r

pub some_path : (p : List ℕ) → is_path p ≡ true → p ≡ [] → ⊥
some_path [] h e = let z : false ≡ true = h in absurd (cc)
some_path (x ∷ p) h e = absurd (cc)

-- what lies below a path below another one lies below that one
pub below_below : (p c q : List ℕ) → is_path c ≡ true → is_below p c ≡ true → is_below c q ≡ true → is_below p q ≡ true
below_below p c q proper h k =
    let first = below_rest p c h in
    let second = below_is c q proper k in
    let whole : q ≡ folder p ++ (drop (length (folder p)) c ++ slash ∷ second.0) =
    second.1 ∙ ap (λ z. z ++ slash ∷ second.0) first ∙ append_assoc (folder p) (drop (length (folder p)) c) (slash ∷ second.0) in
    ap (λ z. starts_with nat_eq z (folder p)) whole ∙ front (folder p) (drop (length (folder p)) c ++ slash ∷ second.0)

-- ---- the text before the last slash

-- the rest of a text before its last slash
abbrev more : Option (List ℕ) → List ℕ
more None = []
more (Some s) = slash ∷ s

before_slash : (a s : List ℕ) → before_last (a ++ slash ∷ s) ≡ Some (a ++ more (before_last s))
before_slash [] s = elim (before_last s) as (λ o. more_before slash o ≡ Some (more o)) [ Some f ↦ refl | None ↦ refl ]
before_slash (x ∷ a) s = ap (more_before x) (before_slash a s)

-- the root, or what is before the last slash
parent_cases : (q : List ℕ) → (parent q ≡ root) ⊎ ((n : List ℕ) × (q ≡ parent q ++ slash ∷ n))
parent_cases q = by (before_last q) refl
  where
    by : (o : Option (List ℕ)) → before_last q ≡ o → (unless_empty (unwrap_or o []) ≡ root) ⊎ ((n : List ℕ) × (q ≡ unless_empty (unwrap_or o []) ++ slash ∷ n))
    by None e = inl refl
    by (Some []) e = inl refl
    by (Some (x ∷ f)) e = inr (cut_last q (x ∷ f) e)

pub some_parent : (q : List ℕ) → parent q ≡ [] → ⊥
some_parent q e = by (unwrap_or (before_last q) []) e
  where
    by : (f : List ℕ) → unless_empty f ≡ [] → ⊥
    by [] e = absurd (cc)
    by (x ∷ f) e = absurd (cc)

-- no path is above the root
pub none_above_root : (a : List ℕ) → is_path a ≡ true → is_below a root ≡ false
none_above_root a proper = by_test (is_below a root)
    (λ e.
    let s = below_is a root proper e in
    let size : length root ≡ length a + length (slash ∷ s.0) = ap length s.1 ∙ length-append a (slash ∷ s.0) in
    let one : length root ≡ 1 = refl in
    let none : length a ≡ 0 = omega arith in
    absurd (some_path a proper (empty a none)))
    (λ e. e)
  where
    empty : (xs : List ℕ) → length xs ≡ 0 → xs ≡ []
    empty [] h = refl
    empty (x ∷ xs) h = absurd (omega arith)

pub not_at_root : (a : List ℕ) → is_path a ≡ true → bytes_eq root a ≡ false
not_at_root a proper = by_test (bytes_eq root a)
    (λ e. let z : true ≡ false = sym (same_from a root (sym (same_is root a e))) ∙ not_root a proper in absurd (cc))
    (λ e. e)

module _ (a q : List ℕ) (proper : is_path a ≡ true) where
  from_below : (s : List ℕ) → q ≡ a ++ slash ∷ s → (bytes_eq (parent q) a || is_below a (parent q)) ≡ true
  from_below s e = by (before_last s) (ap (λ o. unless_empty (unwrap_or o [])) (ap before_last e ∙ before_slash a s) ∙ some a (more (before_last s)) (some_path a proper))
    where
      some : (xs ys : List ℕ) → (xs ≡ [] → ⊥) → unless_empty (xs ++ ys) ≡ xs ++ ys
      some [] ys h = absurd (h refl)
      some (x ∷ xs) ys h = refl

      nil : (xs : List ℕ) → xs ++ [] ≡ xs
      nil [] = refl
      nil (x ∷ xs) = ap (λ l. x ∷ l) (nil xs)

      by : (o : Option (List ℕ)) → parent q ≡ a ++ more o → (bytes_eq (parent q) a || is_below a (parent q)) ≡ true
      by None h = ap (λ b. b || is_below a (parent q)) (same_from (parent q) a (h ∙ nil a))
      by (Some f) h = by_test (bytes_eq (parent q) a)
          (λ b. ap (λ b. b || is_below a (parent q)) b)
          (λ b. ap (λ b. b || is_below a (parent q)) b ∙ below_from a (parent q) f proper h)

  to_below : (bytes_eq (parent q) a || is_below a (parent q)) ≡ true → is_below a q ≡ true
  to_below h = by (parent_cases q)
    where
      by : (parent q ≡ root) ⊎ ((n : List ℕ) × (q ≡ parent q ++ slash ∷ n)) → is_below a q ≡ true
      by (inl r) =
          let z : (bytes_eq root a || is_below a root) ≡ true = sym (ap (λ z. bytes_eq z a || is_below a z) r) ∙ h in
          let none : (bytes_eq root a || is_below a root) ≡ false = ap (λ b. b || is_below a root) (not_at_root a proper) ∙ none_above_root a proper in
          absurd (cc)
      by (inr cut) = by_test (bytes_eq (parent q) a)
          (λ b. below_from a q cut.0 proper (cut.1 ∙ ap (λ z. z ++ slash ∷ cut.0) (same_is (parent q) a b)))
          (λ b.
          let above = below_is a (parent q) proper (sym (ap (λ b. b || is_below a (parent q)) b) ∙ h) in
          below_from a q (above.0 ++ slash ∷ cut.0) proper
          (cut.1 ∙ ap (λ z. z ++ slash ∷ cut.0) above.1 ∙ append_assoc a (slash ∷ above.0) (slash ∷ cut.0)))

  -- the paths above a path are its directory and the paths above that
  pub above_parent : is_below a q ≡ (bytes_eq (parent q) a || is_below a (parent q))
  above_parent = by_test (is_below a q)
      (λ e. let s = below_is a q proper e in e ∙ sym (from_below s.0 s.1))
      (λ e. by_test (bytes_eq (parent q) a || is_below a (parent q))
      (λ h. let z : true ≡ false = sym (to_below h) ∙ e in absurd (cc))
      (λ h. e ∙ sym h))

-- each step up is a step to the root
pub steps_up : (q : List ℕ) → bytes_eq q root ≡ false → way_up (parent q) < way_up q
steps_up q other = by (parent_cases q)
  where
    here : way_up q ≡ 1 + length q
    here = ap (λ b. cond b 0 (1 + length q)) other

    short : (p : List ℕ) → way_up p ≤ 1 + length p
    short p = elim (bytes_eq p root) as (λ b. cond b 0 (1 + length p) ≤ 1 + length p) [ true ↦ omega arith | false ↦ omega arith ]

    by : (parent q ≡ root) ⊎ ((n : List ℕ) × (q ≡ parent q ++ slash ∷ n)) → way_up (parent q) < way_up q
    by (inl r) =
        let up : way_up (parent q) ≡ 0 = ap way_up r in
        let mine = here in
        omega arith
    by (inr cut) =
        let size : length q ≡ length (parent q) + length (slash ∷ cut.0) = ap length cut.1 ∙ length-append (parent q) (slash ∷ cut.0) in
        let less = short (parent q) in
        let mine = here in
        omega arith
