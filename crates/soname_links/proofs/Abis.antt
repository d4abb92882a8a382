-- A soname is mixed if not all of its libraries have one ABI: it is enough to compare each with the best one before it.
use Rattle.std.proofs.Common.{◌≡◌, ◌⊎◌, inl, inr, ℕ, Bool, true, false, cond, not, ◌&&◌, ◌||◌, nat_eq, List, [], ◌∷◌, map, refl, ap, sym, subst, ◌∙◌, Option, Some, None, arith}
use Rattle.std.proofs.lemmas.Bool.{or_parts}
use Rattle.std.proofs.lemmas.Bool.Decides.{nat_tests}
use Rattle.std.proofs.lemmas.List.Kept.{IsStrictlySortedBy-filter}
use Rattle.std.proofs.lemmas.Slice.Eq.{bytes_eq-Decides}
use Rattle.std.specs.Cmp.Lexicographic.{slice_cmp}
use Rattle.std.specs.List.{cons_option, filter, filter_map, fold, list_any}
use Rattle.std.specs.Option.{option_map}
use Rattle.std.specs.Ordering.{nat_cmp}
use Rattle.std.specs.Str.{bytes_eq}
use Rattle.lib_types.proofs.SortedPairs.{by_test}
use Rattle.lib_types.specs.Abi.{flags_of}
use Rattle.string_pool.proofs.InByteOrder.{ascending_sorted, in_ascending}
use Rattle.soname_links.proofs.Grouped.{best_grouped}
use Rattle.string_pool.proofs.Members.{is_in, kept_in, same_members}
use Rattle.place_libraries.specs.Best.{best, has_soname, is_preferred, sonames}
use Rattle.soname_links.specs.Marks.{is_odd, mixed_among, odd_soname}
use Rattle.soname_links.specs.Survey.{group_at, group_with, groups, extended, mixed_soname, with_library}
use Rattle.soname_links.specs.declared.groups.Group.{Group}
use Rattle.place_libraries.specs.Library.{Library}
use Rattle.lib_types.proofs.SameTexts.{turned}

-- ---- the libraries of one soname

-- a library with other flags
abbrev differs : ℕ → Library → Bool
differs n library = not (nat_eq n (flags_of library.abi))

equal_to : (n m : ℕ) → not (nat_eq n m) ≡ false → m ≡ n
equal_to n m h = by_test (nat_eq n m)
    (λ e. grind (arith, nat_tests))
    (λ e. let z : true ≡ false = sym (ap not e) ∙ h in absurd (cc))

no_other : (n : ℕ) → not (nat_eq n n) ≡ false
no_other n = grind (arith, nat_tests)

one_of : (p : Bool) (library other : Library) (n : ℕ) → flags_of library.abi ≡ n → flags_of other.abi ≡ n → flags_of (cond p library other).abi ≡ n
one_of true library other n a b = a
one_of false library other n a b = b

all_of_one : (libraries : List Library) (group : Group) (n : ℕ) → flags_of group.best.abi ≡ n → list_any (differs n) libraries ≡ false → flags_of (fold extended group libraries).best.abi ≡ n
all_of_one [] group n e none = e
all_of_one (library ∷ libraries) group n e none =
    let parts = or_parts (differs n library) (list_any (differs n) libraries) none in
    all_of_one libraries (extended group library) n (one_of (is_preferred library group.best) library group.best n (equal_to n (flags_of library.abi) parts.0) e) parts.1

-- once mixed, or with all flags so far as those of the best one
mixed_after : (libraries : List Library) (group : Group) (n : ℕ) → (group.mixed ≡ true) ⊎ (flags_of group.best.abi ≡ n)
    → (fold extended group libraries).mixed ≡ (group.mixed || list_any (differs n) libraries)
mixed_after [] group n h = elim group.mixed as (λ b. b ≡ (b || false)) [ true ↦ refl | false ↦ refl ]
mixed_after (library ∷ libraries) group n h = by_test group.mixed
    (λ e.
    let still : (extended group library).mixed ≡ true = ap (λ b. b || is_odd (Some group.best) library) e in
    mixed_after libraries (extended group library) n (inl still) ∙ ap (λ b. b || list_any (differs n) libraries) still ∙ sym (ap (λ b. b || list_any (differs n) (library ∷ libraries)) e))
    (λ e. elim h [
      | inl m ↦ absurd (cc)
      | inr same ↦
          let here : (extended group library).mixed ≡ differs n library = ap (λ b. b || is_odd (Some group.best) library) e ∙ ap (λ k. differs k library) same in
          by_test (differs n library)
          (λ d.
          mixed_after libraries (extended group library) n (inl (here ∙ d)) ∙ ap (λ b. b || list_any (differs n) libraries) here
          ∙ sym (ap (λ b. b || (differs n library || list_any (differs n) libraries)) e))
          (λ d.
          let kept = one_of (is_preferred library group.best) library group.best n (equal_to n (flags_of library.abi) d) same in
          mixed_after libraries (extended group library) n (inr kept) ∙ ap (λ b. b || list_any (differs n) libraries) here
          ∙ sym (ap (λ b. b || (differs n library || list_any (differs n) libraries)) e))
    ])

abbrev alone : Library → Group
alone library = record { best = library; mixed = false }

mixed_is : (library : Library) (libraries : List Library)
    → (fold extended (alone library) libraries).mixed ≡ list_any (is_odd (Some (fold extended (alone library) libraries).best)) (library ∷ libraries)
mixed_is library libraries =
    let n = flags_of library.abi in
    let last = flags_of (fold extended (alone library) libraries).best.abi in
    let others = list_any (differs n) libraries in
    let first : (fold extended (alone library) libraries).mixed ≡ others = mixed_after libraries (alone library) n (inr refl) in
    by_test (nat_eq last n)
    (λ e.
    let same : last ≡ n = grind (arith, nat_tests) in
    first ∙ sym (ap (λ k. differs k library || list_any (differs k) libraries) same ∙ ap (λ b. b || others) (no_other n)))
    (λ e. by_test others
    (λ some. first ∙ some ∙ sym (ap (λ b. not b || list_any (differs last) libraries) e))
    (λ none.
    let same : last ≡ n = all_of_one libraries (alone library) n refl none in
    let z : nat_eq last n ≡ true = rw same (grind (arith, nat_tests)) in absurd (cc)))

some_kept : (libraries : List Library) (group : Group) → fold with_library (Some group) libraries ≡ Some (fold extended group libraries)
some_kept [] group = refl
some_kept (library ∷ libraries) group = some_kept libraries (extended group library)

abbrev is_mixed : Option Group → Bool
is_mixed None = false
is_mixed (Some group) = group.mixed

group_mixed : (libraries : List Library)
    → (is_mixed (fold with_library None libraries) && list_any (λ _. true) libraries) ≡ list_any (is_odd (option_map (λ group. group.best) (fold with_library None libraries))) libraries
group_mixed [] = refl
group_mixed (library ∷ libraries) =
    subst (λ o. (is_mixed o && list_any (λ _. true) (library ∷ libraries)) ≡ list_any (is_odd (option_map (λ group. group.best) o)) (library ∷ libraries))
    (sym (some_kept libraries (alone library))) (and_true _ ∙ mixed_is library libraries)
  where
    and_true : (b : Bool) → (b && true) ≡ b
    and_true true = refl
    and_true false = refl

-- ---- the sonames

module _ (z : List ℕ) where
  -- a soname is there if a library has it
  soname_there : (libraries : List Library) → is_in (map (λ library. library.soname) libraries) z ≡ list_any (λ _. true) (filter (has_soname z) libraries)
  soname_there [] = refl
  soname_there (library ∷ libraries) = by_test (bytes_eq library.soname z)
      (λ e. rw (turned library.soname z, e) refl)
      (λ e. rw (turned library.soname z, e) (soname_there libraries))

  module _ (found : List ℕ → Option Library) where
    -- a soname is odd if a library of it is
    odd_there : (libraries : List Library)
        → is_in (filter_map (λ library. odd_soname (found library.soname) library) libraries) z ≡ list_any (is_odd (found z)) (filter (has_soname z) libraries)
    odd_there [] = refl
    odd_there (library ∷ libraries) = by_test (bytes_eq library.soname z)
        (λ e.
        let same : library.soname ≡ z = (bytes_eq-Decides library.soname z).0 e in
        let here : is_odd (found library.soname) library ≡ is_odd (found z) library = ap (λ q. is_odd (found q) library) same in
        rw (e, here) (elim (is_odd (found z) library) as (λ b.
        is_in (cons_option (cond b (Some library.soname) None) (filter_map (λ library. odd_soname (found library.soname) library) libraries)) z
        ≡ (b || list_any (is_odd (found z)) (filter (has_soname z) libraries))) [
          | true ↦ rw (turned library.soname z, e) refl
          | false ↦ odd_there libraries
        ]))
        (λ e.
        rw e (elim (is_odd (found library.soname) library) as (λ b.
        is_in (cons_option (cond b (Some library.soname) None) (filter_map (λ library. odd_soname (found library.soname) library) libraries)) z
        ≡ list_any (is_odd (found z)) (filter (has_soname z) libraries)) [
          | true ↦ rw (turned library.soname z, e) (odd_there libraries)
          | false ↦ odd_there libraries
        ]))

module _ (libraries : List Library) where
  abbrev is_mixed_at : List ℕ → Bool
  is_mixed_at soname = is_mixed (group_at libraries soname)

  those_mixed : filter is_mixed_at (sonames libraries) ≡ mixed_among libraries
  those_mixed = same_members (filter is_mixed_at (sonames libraries)) (mixed_among libraries)
      (IsStrictlySortedBy-filter (slice_cmp nat_cmp) is_mixed_at (sonames libraries) (ascending_sorted (map (λ library. library.soname) libraries)))
      (ascending_sorted (filter_map (λ library. odd_soname (best libraries library.soname) library) libraries))
      (λ z.
      kept_in is_mixed_at z (sonames libraries) ∙ ap (λ b. is_mixed_at z && b) (in_ascending (map (λ library. library.soname) libraries) z ∙ soname_there z libraries)
      ∙ group_mixed (filter (has_soname z) libraries)
      ∙ ap (λ o. list_any (is_odd o) (filter (has_soname z) libraries)) (sym (best_grouped libraries z))
      ∙ sym (in_ascending (filter_map (λ library. odd_soname (best libraries library.soname) library) libraries) z ∙ odd_there z (best libraries) libraries))

  sonames_of : (names : List (List ℕ)) → filter_map mixed_soname (filter_map (group_with libraries) names) ≡ filter is_mixed_at names
  sonames_of [] = refl
  sonames_of (soname ∷ names) = elim (group_at libraries soname) as (λ o.
      filter_map mixed_soname (cons_option (option_map (λ group. (soname, group)) o) (filter_map (group_with libraries) names))
      ≡ cond (is_mixed o) (soname ∷ filter is_mixed_at names) (filter is_mixed_at names)) [
        | None ↦ sonames_of names
        | Some group ↦ elim group.mixed as (λ b.
            cons_option (cond b (Some soname) None) (filter_map mixed_soname (filter_map (group_with libraries) names))
            ≡ cond b (soname ∷ filter is_mixed_at names) (filter is_mixed_at names)) [ true ↦ ap (λ rest. soname ∷ rest) (sonames_of names) | false ↦ sonames_of names ]
      ]

  pub mixed_given : filter_map mixed_soname (groups libraries) ≡ mixed_among libraries
  mixed_given = sonames_of (sonames libraries) ∙ those_mixed
