-- Sorted texts with the same members are the same.
use Rattle.std.proofs.Common.{◌≡◌, ℕ, Bool, true, false, ◌&&◌, ◌||◌, List, [], ◌∷◌, refl, ap, sym, ◌∙◌, Option, None, subst, Ordering}
use Rattle.std.proofs.lemmas.Cmp.{nat_list_cmp_total, tied_itself}
use Rattle.std.proofs.lemmas.Map.Keys.{sorted_head, sorted_tail}
use Rattle.std.proofs.lemmas.Map.Views.{any-filter_same}
use Rattle.std.proofs.lemmas.List.Kept.{IsStrictlySortedBy-filter}
use Rattle.std.proofs.lemmas.Slice.Eq.{bytes_eq-Decides}
use Rattle.std.specs.Cmp.Lexicographic.{slice_cmp, texts_ties}
use Rattle.std.specs.List.{AllByRecursion, cons_option, dedup, dedup_from, filter, filter_map, list_any, list_all}
use Rattle.std.specs.List.Sorted.{IsStrictlySortedBy}
use Rattle.std.specs.Ordering.{is_eq, nat_cmp}
use Rattle.std.specs.Str.{bytes_eq}
use Rattle.std.specs.declared.cmp.Ordering.TheVariants.{Less, Equal, Greater}
use Rattle.lib_types.proofs.SortedPairs.{by_ordering, by_test, flipped}
use Rattle.string_pool.proofs.Ordered.{all_below}
use Rattle.string_pool.proofs.Either.{twice}
use Rattle.std.proofs.lemmas.Bool.{and_parts}
use Rattle.lib_types.proofs.SameTexts.{itself}

abbrev pub cmp : List ℕ → List ℕ → Ordering
cmp = slice_cmp nat_cmp

abbrev pub AreSorted : List (List ℕ) → Type 0
AreSorted xs = IsStrictlySortedBy (slice_cmp nat_cmp) xs

abbrev pub is_in : List (List ℕ) → List ℕ → Bool
is_in xs z = list_any (bytes_eq z) xs

is_first : (x : List ℕ) (xs : List (List ℕ)) → is_in (x ∷ xs) x ≡ true
is_first x xs = ap (λ b. b || is_in xs x) (itself x)

pub none_below : (z : List ℕ) (ys : List (List ℕ)) → AllByRecursion (λ y. cmp z y ≡ Less) ys → is_in ys z ≡ false
none_below z [] a = refl
none_below z (y ∷ ys) a = by_test (bytes_eq z y)
    (λ e.
    let same : z ≡ y = (bytes_eq-Decides z y).0 e in
    let tied : cmp z z ≡ Less = subst (λ (q : List ℕ). cmp z q ≡ Less) (sym same) a.0 in
    let z : Equal ≡ Less = sym (tied_itself nat_list_cmp_total z) ∙ tied in absurd (cc))
    (λ e. ap (λ b. b || is_in ys z) e ∙ none_below z ys a.1)

-- a text that is less than the first of sorted texts is not among them
not_in : (x y : List ℕ) (ys : List (List ℕ)) → AreSorted (y ∷ ys) → cmp x y ≡ Less → is_in (y ∷ ys) x ≡ false
not_in x y ys s less = none_below x (y ∷ ys) (less, all_below nat_list_cmp_total x y ys less (sorted_head cmp y ys s))

dropped : (z x y : List ℕ) (a b : Bool) → x ≡ y → bytes_eq z x ≡ false → (bytes_eq z x || a) ≡ (bytes_eq z y || b) → a ≡ b
dropped z x y a b same e h =
    let other : bytes_eq z y ≡ false = subst (λ (q : List ℕ). bytes_eq z q ≡ false) same e in
    sym (ap (λ c. c || a) e) ∙ h ∙ ap (λ c. c || b) other

pub same_members : (xs ys : List (List ℕ)) → AreSorted xs → AreSorted ys → ((z : List ℕ) → is_in xs z ≡ is_in ys z) → xs ≡ ys
same_members [] [] s r h = refl
same_members [] (y ∷ ys) s r h = let z : false ≡ true = h y ∙ is_first y ys in absurd (cc)
same_members (x ∷ xs) [] s r h = let z : true ≡ false = sym (is_first x xs) ∙ h x in absurd (cc)
same_members (x ∷ xs) (y ∷ ys) s r h = by_ordering (cmp x y)
    (λ a. let z : true ≡ false = sym (is_first x xs) ∙ h x ∙ not_in x y ys r a in absurd (cc))
    (λ a.
    let same : x ≡ y = (bytes_eq-Decides x y).0 (texts_ties x y ∙ ap is_eq a) in
    let rest : xs ≡ ys = same_members xs ys (sorted_tail cmp x xs s) (sorted_tail cmp y ys r) (λ z. by_test (bytes_eq z x)
    (λ e.
    let here : x ≡ z = sym ((bytes_eq-Decides z x).0 e) in
    let none = none_below x xs (sorted_head cmp x xs s) in
    let other : is_in ys x ≡ false = subst (λ (q : List ℕ). is_in ys q ≡ false) (sym same) (none_below y ys (sorted_head cmp y ys r)) in
    subst (λ (q : List ℕ). is_in xs q ≡ is_in ys q) here (none ∙ sym other))
    (λ e. dropped z x y (is_in xs z) (is_in ys z) same e (h z))) in
    cc)
    (λ a.
    let less : cmp y x ≡ Less = flipped nat_list_cmp_total x y Greater a in
    let z : true ≡ false = sym (is_first y ys) ∙ sym (h y) ∙ not_in y x xs s less in absurd (cc))

-- ---- the members after a filter

once_in : (test : List ℕ → Bool) (name : List ℕ) (names : List (List ℕ)) → list_any test (dedup_from bytes_eq name names) ≡ (test name || list_any test names)
once_in test name [] = refl
once_in test name (next ∷ names) = by_test (bytes_eq next name)
    (λ e.
    let same : name ≡ next = sym ((bytes_eq-Decides next name).0 e) in
    let whole : (test name || list_any test names) ≡ (test name || (test next || list_any test names)) =
    subst (λ (q : List ℕ). (test name || list_any test names) ≡ (test name || (test q || list_any test names))) same (twice (test name) _) in
    rw e (once_in test name names ∙ whole))
    (λ e. rw e (ap (λ b. test name || b) (once_in test next names)))

pub dedup_in : (test : List ℕ → Bool) (names : List (List ℕ)) → list_any test (dedup bytes_eq names) ≡ list_any test names
dedup_in test [] = refl
dedup_in test (name ∷ names) = once_in test name names

module _ (keep : List ℕ → Bool) where
  pub kept_in : (z : List ℕ) (xs : List (List ℕ)) → is_in (filter keep xs) z ≡ (keep z && is_in xs z)
  kept_in z xs = any-filter_same (bytes_eq z) keep (keep z) (λ k e. ap keep (sym ((bytes_eq-Decides z k).0 e))) xs

  -- two sorted lists without repetitions, of which the filter leaves the same names
  pub same_left : (names more : List (List ℕ)) → AreSorted (dedup bytes_eq names) → AreSorted (dedup bytes_eq more) → filter keep more ≡ filter keep names
      → filter keep (dedup bytes_eq more) ≡ filter keep (dedup bytes_eq names)
  same_left names more s r same =
      same_members (filter keep (dedup bytes_eq more)) (filter keep (dedup bytes_eq names))
      (IsStrictlySortedBy-filter (slice_cmp nat_cmp) keep (dedup bytes_eq more) r) (IsStrictlySortedBy-filter (slice_cmp nat_cmp) keep (dedup bytes_eq names) s)
      (λ z.
      kept_in z (dedup bytes_eq more) ∙ ap (λ b. keep z && b) (dedup_in (bytes_eq z) more) ∙ sym (kept_in z more) ∙ ap (λ xs. is_in xs z) same
      ∙ kept_in z names ∙ sym (ap (λ b. keep z && b) (dedup_in (bytes_eq z) names)) ∙ sym (kept_in z (dedup bytes_eq names)))

  -- items for which the function gives None may be left out
  pub left_out : {Y : Type 0} (f : List ℕ → Option Y) → ((x : List ℕ) → keep x ≡ false → f x ≡ None) → (xs : List (List ℕ)) → filter_map f (filter keep xs) ≡ filter_map f xs
  left_out f none [] = refl
  left_out f none (x ∷ xs) = by_test (keep x)
      (λ e. rw e (ap (cons_option (f x)) (left_out f none xs)))
      (λ e. rw (e, none x e) (left_out f none xs))

-- a test that holds for all texts holds for each of them
pub each_meets : (p : List ℕ → Bool) (xs : List (List ℕ)) (z : List ℕ) → list_all p xs ≡ true → is_in xs z ≡ true → p z ≡ true
each_meets p [] z all there = absurd (cc)
each_meets p (x ∷ xs) z all there = by_test (bytes_eq z x)
    (λ e. subst (λ (q : List ℕ). p q ≡ true) (sym ((bytes_eq-Decides z x).0 e)) (and_parts _ _ all).0)
    (λ e. each_meets p xs z (and_parts _ _ all).1 (sym (ap (λ b. b || is_in xs z) e) ∙ there))
