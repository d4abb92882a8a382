-- An image has exactly one entry list. Entries that compare equal have one soname and one search directory, and a search directory has
-- at most one entry for a soname.
use Rattle.std.proofs.Common.{◌≡◌, ◌≤◌, ◌+◌, ℕ, true, false, cond, nat_eq, List, [], ◌∷◌, map, refl, ap, sym, ◌∙◌, Option, Some, None, arith}
use Rattle.std.proofs.lemmas.Bool.Decides.{nat_tests}
use Rattle.std.proofs.lemmas.List.Elements.{All-append, All-cons, All-nil}
use Rattle.std.specs.List.{All, cons_option, filter_map}
use Rattle.std.specs.Option.{option_map}
use Rattle.std.specs.Ordering.{bool_cmp, int_cmp, nat_cmp, ordering_then}
use Rattle.std.specs.Cmp.Lexicographic.{slice_cmp}
use Rattle.std.specs.declared.cmp.Ordering.{Ordering}
use Rattle.std.specs.declared.cmp.Ordering.TheVariants.{Less, Equal, Greater}
use Rattle.hwcap_dirs.specs.declared.kinds.Place.{Place}
use Rattle.lib_types.specs.declared.entry.Entry.{Entry}
use Rattle.name_order.proofs.Total.{name_order-exact}
use Rattle.name_order.specs.Order.{name_order}
use Rattle.image_tree.proofs.Below.{nat_cmp_equal}
use Rattle.image_tree.specs.Tree.{Nodes}
use Rattle.place_libraries.proofs.Named.{best_has}
use Rattle.cache_entries.proofs.Sorts.{one_sorted}
use Rattle.place_libraries.specs.Best.{best}
use Rattle.cache_entries.specs.Entries.{AreEntriesOf, cap_of, entries_in, entry_of, entry_order, entry_order-total, flags_in, found, is_capless}
use Rattle.place_libraries.specs.Libraries.{libraries_in}
use Rattle.library_files.specs.Places.{by_place}
use Rattle.file_table.specs.Analyses.{Analyses}
use Rattle.cache_entries.specs.Winner.{links_to_libraries, named_links, or_else, other_links, winner}
use Rattle.place_libraries.specs.Library.{Library}

-- ---- the winner of a soname has that soname

either_has : (a b : Option Library) (library : Library) (soname : List ℕ) → ((l : Library) → a ≡ Some l → l.soname ≡ soname) → ((l : Library) → b ≡ Some l → l.soname ≡ soname)
    → or_else a b ≡ Some library → library.soname ≡ soname
either_has (Some first) b library soname f g e = f library e
either_has None b library soname f g e = g library e

pub winner_has : (files links : List Library) (soname : List ℕ) (library : Library) → winner files links soname ≡ Some library → library.soname ≡ soname
winner_has files links soname library e =
    either_has (best files soname) _ library soname (best_has files soname)
    (λ l f. either_has (best (named_links links) soname) _ l soname (best_has (named_links links) soname) (best_has (other_links links) soname) f) e

-- If two orders are combined and give Equal, both give Equal.
both_equal : (r s : Ordering) → ordering_then r s ≡ Equal → (r ≡ Equal) × (s ≡ Equal)
both_equal Less s e = absurd (cc)
both_equal Equal s e = (refl, e)
both_equal Greater s e = absurd (cc)

-- ---- an entry by its soname and the number of its search directory

module _ (what : Analyses) (t : Nodes) where
  abbrev pub winner_in : Place → List ℕ → Option Library
  winner_in place soname = winner (libraries_in what t place) (links_to_libraries what t place) soname

  -- the entry of a soname in the search directory with this number, if the first search directory has number `first`
  abbrev pub entry_at : ℕ → List Place → ℕ → List ℕ → Option Entry
  entry_at first [] number soname = None
  entry_at first (place ∷ places) number soname =
      cond (nat_eq first number) (option_map (entry_of t first place) (winner_in place soname)) (entry_at (first + 1) places number soname)

  -- this entry is the entry of its soname in its search directory
  pub record IsFoundAt (first : ℕ) (places : List Place) (entry : Entry) : Type 0 where
    pub from : first ≤ entry.place
    pub at : entry_at first places entry.place entry.soname ≡ Some entry

  module _ (first : ℕ) (place : Place) (places : List Place) where
    -- the entry of a winner in the first search directory
    here : (soname : List ℕ) (library : Library) → winner_in place soname ≡ Some library → IsFoundAt first (place ∷ places) (entry_of t first place library)
    here soname library e =
        let own : library.soname ≡ soname = winner_has (libraries_in what t place) (links_to_libraries what t place) soname library e in
        let same : nat_eq first first ≡ true = grind (arith, nat_tests) in
        let won : winner_in place library.soname ≡ Some library = ap (winner_in place) own ∙ e in
        record { from = omega arith; at = rw same (ap (option_map (entry_of t first place)) won) }

    each_here : (names : List (List ℕ)) → All (IsFoundAt first (place ∷ places)) (map (entry_of t first place) (filter_map (winner_in place) names))
    each_here [] = All-nil _
    each_here (soname ∷ names) =
        elim (winner_in place soname) as (λ o. winner_in place soname ≡ o → All (IsFoundAt first (place ∷ places)) (map (entry_of t first place) (cons_option o (filter_map (winner_in place) names)))) [
          | None ↦ λ e. each_here names
          | Some library ↦ λ e. All-cons (IsFoundAt first (place ∷ places)) (entry_of t first place library) _ (here soname library e) (each_here names)
        ] refl

    -- the entry of a later search directory
    following : (entry : Entry) → IsFoundAt (first + 1) places entry → IsFoundAt first (place ∷ places) entry
    following entry is =
        let from = is.from in
        let other : nat_eq first entry.place ≡ false = grind (arith, nat_tests) in
        record { from = omega (arith, from); at = rw other is.at }

  pub each_found : (places : List Place) (first : ℕ) → All (IsFoundAt first places) (by_place (entries_in what t) first places)
  each_found [] first = All-nil _
  each_found (place ∷ places) first =
      All-append (IsFoundAt first (place ∷ places)) (entries_in what t first place) (by_place (entries_in what t) (first + 1) places)
      (each_here first place places _)
      (λ k d within. following first place places _ (each_found places (first + 1) k d within))

  -- Entries that compare equal have one soname and one search directory, so they are equal.
  pub tied_same : (first : ℕ) (places : List Place) (x y : Entry) → IsFoundAt first places x → IsFoundAt first places y → entry_order x y ≡ Equal → x ≡ y
  tied_same first places x y h k e =
      let names = both_equal (name_order y.soname x.soname) _ e in
      let flags = both_equal (int_cmp (flags_in y) (flags_in x)) _ names.1 in
      let plain = both_equal (bool_cmp (is_capless x) (is_capless y)) _ flags.1 in
      let caps = both_equal (slice_cmp nat_cmp (cap_of x) (cap_of y)) _ plain.1 in
      let soname : y.soname ≡ x.soname = name_order-exact y.soname x.soname names.0 in
      let number : x.place ≡ y.place = nat_cmp_equal x.place y.place caps.1 in
      let found : Some x ≡ Some y = sym h.at ∙ ap (λ n. entry_at first places n x.soname) number ∙ ap (entry_at first places y.place) (sym soname) ∙ k.at in
      cc

-- two sorted lists of the entries are equal
pub one_list : (what : Analyses) (t : Nodes) (places : List Place) (a b : List Entry) → AreEntriesOf (found what t places) a → AreEntriesOf (found what t places) b → a ≡ b
unfolding found
one_list what t places a b are others =
    one_sorted entry_order-total (IsFoundAt what t 0 places) (tied_same what t 0 places)
    (found what t places) a b (each_found what t places 0) are.all are.ordered others.all others.ordered
