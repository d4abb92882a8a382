-- A look-up in the sorted entries gives the same library as the search of the directories. Of the entries with one soname, ABI and
-- hwcaps name, the entry of the first search directory comes first. Each search directory has at most one of these entries.
use Rattle.std.proofs.Common.{◌≡◌, ◌<◌, ◌≤◌, ◌+◌, ℕ, pos, Bool, true, false, cond, nat_eq, nat_lt, ◌&&◌, List, [], ◌∷◌, ◌++◌, get_or, map, refl, ap, sym, subst, ◌∙◌, Option, Some, None, arith}
use Rattle.std.proofs.lemmas.Bool.{and_from, and_parts}
use Rattle.std.proofs.lemmas.Bool.Decides.{nat_tests}
use Rattle.std.proofs.lemmas.Cmp.{tied_itself}
use Rattle.std.proofs.lemmas.List.Elements.{All-filter, filter-append, filter_passes}
use Rattle.std.proofs.lemmas.Slice.Eq.{bytes_eq-Decides}
use Rattle.std.specs.Cmp.{bool_cmp_total, int_cmp_total}
use Rattle.std.specs.Cmp.Lexicographic.{nat_list_cmp_total, slice_cmp}
use Rattle.std.specs.List.{All, cons_option, filter, slice_get}
use Rattle.std.specs.List.Sorted.{IsSorted}
use Rattle.std.specs.Option.{is_none, option_and_then, option_map, option_or, unwrap_or}
use Rattle.std.specs.Ordering.{bool_cmp, int_cmp, is_lt, nat_cmp, ordering_then}
use Rattle.std.specs.Str.{bytes_eq}
use Rattle.std.specs.declared.cmp.Ordering.{Ordering}
use Rattle.std.specs.declared.cmp.Ordering.TheVariants.{Equal, Greater}
use Rattle.hwcap_dirs.specs.declared.kinds.Place.{Place}
use Rattle.lib_types.proofs.SortedPairs.{by_test}
use Rattle.lib_types.specs.Abi.{flags_of}
use Rattle.lib_types.specs.declared.abi.Abi.{Abi}
use Rattle.lib_types.specs.declared.entry.Entry.{Entry}
use Rattle.name_order.proofs.Total.{name_order-total}
use Rattle.name_order.specs.Order.{name_order}
use Rattle.file_table.specs.Analyses.{Analyses}
use Rattle.place_libraries.specs.Best.{has_soname}
use Rattle.place_libraries.specs.Libraries.{libraries_in}
use Rattle.place_libraries.specs.Library.{Library}
use Rattle.library_files.specs.Places.{by_place}
use Rattle.image_tree.specs.Tree.{Nodes}
use Rattle.cache_entries.proofs.Bests.{one_winner}
use Rattle.cache_entries.proofs.InOneOrder.{one_list_is, sorted_cons}
use Rattle.cache_entries.proofs.OneEach.{find_first}
use Rattle.cache_entries.proofs.Single.{IsFoundAt, each_found, tied_same, winner_has, winner_in}
use Rattle.cache_entries.proofs.Sorts.{same_kept}
use Rattle.cache_entries.specs.Entries.{AreEntriesOf, cap_of, entries_in, entry_of, entry_order, entry_order-total, flags_in, found, is_capless}
use Rattle.cache_entries.specs.Led.{LeadAsSearched, is_entry_of, path_among}
use Rattle.cache_entries.specs.Walk.{first_value, in_turn, is_same_abi, is_same_cap, path_for, path_in, path_with, walk}
use Rattle.cache_entries.specs.Winner.{links_to_libraries, winners_in}

-- ---- filters

filter_both : {X : Type 0} (p q : X → Bool) (xs : List X) → filter (λ x. p x && q x) xs ≡ filter q (filter p xs)
filter_both p q [] = refl
filter_both {X = X} p q (x ∷ xs) =
    let rest : List X = filter (λ x. p x && q x) xs in
    elim (p x) as (λ b. cond (b && q x) (x ∷ rest) rest ≡ filter q (cond b (x ∷ filter p xs) (filter p xs))) [
      | true ↦ ap (λ ys. cond (q x) (x ∷ ys) ys) (filter_both p q xs)
      | false ↦ filter_both p q xs
    ]

filter_map_of : {X Y : Type 0} (p : Y → Bool) (f : X → Y) (xs : List X) → filter p (map f xs) ≡ map f (filter (λ x. p (f x)) xs)
filter_map_of p f [] = refl
filter_map_of p f (x ∷ xs) =
    elim (p (f x)) as (λ b. cond b (f x ∷ filter p (map f xs)) (filter p (map f xs)) ≡ map f (cond b (x ∷ filter (λ x. p (f x)) xs) (filter (λ x. p (f x)) xs))) [
      | true ↦ ap (λ ys. f x ∷ ys) (filter_map_of p f xs)
      | false ↦ filter_map_of p f xs
    ]

-- ---- entries with one soname, ABI and hwcaps name have different search directories

same_cap : (a b : Option (List ℕ)) → is_same_cap a b ≡ true → a ≡ b
same_cap None None e = refl
same_cap None (Some y) e = absurd (cc)
same_cap (Some x) None e = absurd (cc)
same_cap (Some x) (Some y) e = ap (λ z. Some z) ((bytes_eq-Decides x y).0 e)

same_flags : (a b : Abi) → is_same_abi a b ≡ true → flags_of a ≡ flags_of b
same_flags a b e = grind (arith, nat_tests)

after_tie : (r s : Ordering) → r ≡ Equal → ordering_then r s ≡ s
after_tie r s e = ap (λ r. ordering_then r s) e

above : (m n : ℕ) → n < m → is_lt (nat_cmp m n) ≡ false
above m n h =
    let e : nat_lt m n ≡ false = grind (arith, nat_tests) in
    rw e (elim (nat_eq m n) as (λ b. is_lt (cond b Equal Greater) ≡ false) [ true ↦ refl | false ↦ refl ])

module _ (soname : List ℕ) (abi : Abi) (cap : Option (List ℕ)) where
  abbrev passes : Entry → Bool
  passes = is_entry_of soname abi cap

  by_number : (x y : Entry) → passes x ≡ true → passes y ≡ true → entry_order x y ≡ nat_cmp x.place y.place
  by_number x y p q =
      let of_x = and_parts (bytes_eq x.soname soname) _ p in
      let of_y = and_parts (bytes_eq y.soname soname) _ q in
      let more_x = and_parts (is_same_abi x.abi abi) _ of_x.1 in
      let more_y = and_parts (is_same_abi y.abi abi) _ of_y.1 in
      let soname_x : x.soname ≡ soname = (bytes_eq-Decides x.soname soname).0 of_x.0 in
      let soname_y : y.soname ≡ soname = (bytes_eq-Decides y.soname soname).0 of_y.0 in
      let cap_x : x.cap ≡ cap = same_cap x.cap cap more_x.1 in
      let cap_y : y.cap ≡ cap = same_cap y.cap cap more_y.1 in
      let flags_x : flags_of x.abi ≡ flags_of abi = same_flags x.abi abi more_x.0 in
      let flags_y : flags_of y.abi ≡ flags_of abi = same_flags y.abi abi more_y.0 in
      let names = ap (λ s. name_order y.soname s) (soname_x ∙ sym soname_y) ∙ tied_itself name_order-total y.soname in
      let flags = ap (λ n. int_cmp (flags_in y) (pos n)) (flags_x ∙ sym flags_y) ∙ tied_itself int_cmp_total (flags_in y) in
      let plain = ap (λ (c : Option (List ℕ)). bool_cmp (is_capless x) (is_none c)) (cap_y ∙ sym cap_x) ∙ tied_itself bool_cmp_total (is_capless x) in
      let caps = ap (λ (c : Option (List ℕ)). slice_cmp nat_cmp (cap_of x) (unwrap_or c [])) (cap_y ∙ sym cap_x) ∙ tied_itself nat_list_cmp_total (cap_of x) in
      after_tie (name_order y.soname x.soname) _ names ∙ after_tie (int_cmp (flags_in y) (flags_in x)) _ flags
      ∙ after_tie (bool_cmp (is_capless x) (is_capless y)) _ plain ∙ after_tie (slice_cmp nat_cmp (cap_of x) (cap_of y)) _ caps

module _ (what : Analyses) (t : Nodes) (soname : List ℕ) (abi : Abi) (cap : Option (List ℕ)) where
  abbrev won : Place → Option Library
  won place = winner_in what t place soname

  abbrev counts : Place → Library → Bool
  counts place library = is_same_abi library.abi abi && is_same_cap place.cap cap

  -- the entry of a search directory, if it has one that matches
  abbrev passing : ℕ → Place → List Entry
  passing number place = map (entry_of t number place) (filter (counts place) (cons_option (won place) []))

  passing_in : (number : ℕ) (place : Place) → filter (passes soname abi cap) (entries_in what t number place) ≡ passing number place
  passing_in number place =
      filter_map_of (passes soname abi cap) (entry_of t number place) (winners_in what t place)
      ∙ ap (map (entry_of t number place)) (filter_both (has_soname soname) (counts place) (winners_in what t place)
      ∙ ap (filter (counts place)) (one_winner (libraries_in what t place) (links_to_libraries what t place) soname))

  passing_of : (places : List Place) (number : ℕ) → filter (passes soname abi cap) (by_place (entries_in what t) number places) ≡ by_place passing number places
  passing_of [] number = refl
  passing_of (place ∷ places) number =
      filter-append (passes soname abi cap) (entries_in what t number place) (by_place (entries_in what t) (number + 1) places)
      ∙ ap (λ xs. xs ++ filter (passes soname abi cap) (by_place (entries_in what t) (number + 1) places)) (passing_in number place)
      ∙ ap (λ xs. passing number place ++ xs) (passing_of places (number + 1))

  -- ---- they are in the order of entries

  all_passing : (places : List Place) (number : ℕ) → All (IsFoundAt what t number places) (by_place passing number places)
  all_passing places number =
      subst (λ xs. All (IsFoundAt what t number places) xs) (passing_of places number)
      (All-filter (passes soname abi cap) (IsFoundAt what t number places) (by_place (entries_in what t) number places) (each_found what t places number))

  each_passes : (places : List Place) (number : ℕ) → All (λ e. passes soname abi cap e ≡ true) (by_place passing number places)
  each_passes places number =
      subst (λ xs. All (λ e. passes soname abi cap e ≡ true) xs) (passing_of places number)
      (filter_passes (passes soname abi cap) (by_place (entries_in what t) number places))

  sorted_passing : (places : List Place) (number : ℕ) → IsSorted entry_order (by_place passing number places)
  sorted_passing [] number = λ k d from within. absurd (omega arith)
  sorted_passing (place ∷ places) number =
      let later : List Entry = by_place passing (number + 1) places in
      let rest : IsSorted entry_order later = sorted_passing places (number + 1) in
      elim (won place) as (λ o. won place ≡ o → IsSorted entry_order (map (entry_of t number place) (filter (counts place) (cons_option o [])) ++ later)) [
        | None ↦ λ f. rest
        | Some library ↦ λ f. by_test (counts place library)
            (λ c.
            let e : Entry = entry_of t number place library in
            let own : library.soname ≡ soname = winner_has (libraries_in what t place) (links_to_libraries what t place) soname library f in
            let passed : passes soname abi cap e ≡ true = and_from _ _ ((bytes_eq-Decides library.soname soname).1 own) c in
            rw c (sorted_cons entry_order entry_order-total e later
            (λ d some.
            let z : Entry = get_or later 0 d in
            let from : number + 1 ≤ z.place = (all_passing places (number + 1) 0 d some).from in
            ap is_lt (by_number soname abi cap z e (each_passes places (number + 1) 0 d some) passed) ∙ above z.place number (omega (arith, from))) rest))
            (λ c. rw c rest)
      ] refl

  -- ---- the first one belongs to the first search directory

  first_passing : (places : List Place) (number : ℕ) → option_map (λ (e : Entry). e.path) (slice_get (by_place passing number places) 0)
      ≡ first_value (path_in what t soname abi) (filter (λ place. is_same_cap place.cap cap) places)
  first_passing [] number = refl
  first_passing (place ∷ places) number =
      let later : List Entry = by_place passing (number + 1) places in
      let rest : List Place = filter (λ place. is_same_cap place.cap cap) places in
      elim (is_same_cap place.cap cap) as (λ b. option_map (λ (e : Entry). e.path) (slice_get (map (entry_of t number place) (filter (λ w. is_same_abi w.abi abi && b) (cons_option (won place) [])) ++ later) 0)
      ≡ first_value (path_in what t soname abi) (cond b (place ∷ rest) rest)) [
        | true ↦ elim (won place) as (λ o. option_map (λ (e : Entry). e.path) (slice_get (map (entry_of t number place) (filter (λ w. is_same_abi w.abi abi && true) (cons_option o [])) ++ later) 0)
            ≡ option_or (option_and_then (path_for t abi place) o) (first_value (path_in what t soname abi) rest)) [
              | None ↦ first_passing places (number + 1)
              | Some library ↦ elim (is_same_abi library.abi abi) as (λ c. option_map (λ (e : Entry). e.path) (slice_get (map (entry_of t number place) (cond (c && true) (library ∷ []) []) ++ later) 0)
                  ≡ option_or (cond c (Some (entry_of t number place library).path) None) (first_value (path_in what t soname abi) rest)) [
                    | true ↦ refl
                    | false ↦ first_passing places (number + 1)
                  ]
            ]
        | false ↦ elim (won place) as (λ o. option_map (λ (e : Entry). e.path) (slice_get (map (entry_of t number place) (filter (λ w. is_same_abi w.abi abi && false) (cons_option o [])) ++ later) 0)
            ≡ first_value (path_in what t soname abi) rest) [
              | None ↦ first_passing places (number + 1)
              | Some library ↦ elim (is_same_abi library.abi abi) as (λ c. option_map (λ (e : Entry). e.path) (slice_get (map (entry_of t number place) (cond (c && false) (library ∷ []) []) ++ later) 0)
                  ≡ first_value (path_in what t soname abi) rest) [
                    | true ↦ first_passing places (number + 1)
                    | false ↦ first_passing places (number + 1)
                  ]
            ]
      ]

pub led : (what : Analyses) (t : Nodes) (places : List Place) (entries : List Entry) → AreEntriesOf (found what t places) entries → LeadAsSearched what t places entries
unfolding found
led what t places entries are soname abi cap =
    let p : Entry → Bool = is_entry_of soname abi cap in
    let same : filter p (found what t places) ≡ by_place (passing what t soname abi cap) 0 places = passing_of what t soname abi cap places 0 in
    let kept : filter p entries ≡ filter p (found what t places) = same_kept entry_order-total (IsFoundAt what t 0 places) (tied_same what t 0 places) p (found what t places) entries
    (each_found what t places 0) are.all are.ordered (subst (λ xs. IsSorted entry_order xs) (sym same) (sorted_passing what t soname abi cap places 0)) in
    ap (option_map (λ (e : Entry). e.path)) (find_first p entries ∙ ap (λ xs. slice_get xs 0) (kept ∙ same)) ∙ first_passing what t soname abi cap places 0

-- ---- the whole search

first_same : {X Y : Type 0} (f g : X → Option Y) → ((x : X) → f x ≡ g x) → (xs : List X) → first_value f xs ≡ first_value g xs
first_same f g same [] = refl
first_same f g same (x ∷ xs) = ap (λ o. option_or o (first_value f xs)) (same x) ∙ ap (option_or (g x)) (first_same f g same xs)

module _ (soname : List ℕ) (abi : Abi) (caps : List (List ℕ)) where
  -- the search gives the same path as the first matching entries
  pub walk_by : (what : Analyses) (t : Nodes) (places : List Place) (entries : List Entry) → AreEntriesOf (found what t places) entries
      → walk what t places soname abi caps ≡ first_value (path_among entries soname abi) (in_turn caps)
  unfolding walk
  walk_by what t places entries are =
      first_same (path_with what t places soname abi) (path_among entries soname abi) (λ cap. sym (led what t places entries are soname abi cap)) (in_turn caps)

  -- the search depends only on the entries that are found
  pub walk_same : (what new : Analyses) (t u : Nodes) (places more : List Place) → found new u more ≡ found what t places
      → walk new u more soname abi caps ≡ walk what t places soname abi caps
  walk_same what new t u places more same =
      let list = one_list_is (found what t places) in
      walk_by new u more list.0 (subst (λ (all : List Entry). AreEntriesOf all list.0) (sym same) list.1) ∙ sym (walk_by what t places list.0 list.1)
