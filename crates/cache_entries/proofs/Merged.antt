-- Merging the best files and the winners among the links by soname gives the winners of a search directory.
use Rattle.std.proofs.Common.{◌≡◌, ◌<◌, length, arith, ℕ, true, false, cond, List, [], ◌∷◌, ◌++◌, refl, ap, sym, subst, ◌∙◌, Option, Some, None}
use Rattle.std.proofs.lemmas.Cmp.{nat_list_cmp_total}
use Rattle.std.proofs.lemmas.Map.Keys.{sorted_head, sorted_tail}
use Rattle.std.proofs.lemmas.Slice.Eq.{bytes_eq-Decides}
use Rattle.std.specs.Cmp.Lexicographic.{texts_ties}
use Rattle.std.specs.List.{AllByRecursion, cons_option, filter, filter_map, find, fold, slice_get}
use Rattle.std.specs.Option.{is_some}
use Rattle.std.specs.Iterator.{YieldsFirstBy, MakesProgress, item_count}
use Rattle.std.specs.List.Sorted.{IsStrictlySortedBy}
use Rattle.std.specs.Ordering.{is_eq, match_ordering}
use Rattle.std.specs.Str.{bytes_eq}
use Rattle.std.specs.declared.cmp.Ordering.TheVariants.{Less, Equal, Greater}
use Rattle.lib_types.proofs.SortedPairs.{by_ordering, by_test, flipped}
use Rattle.string_pool.proofs.InByteOrder.{ascending_sorted, same_text}
use Rattle.string_pool.proofs.Members.{AreSorted, cmp}
use Rattle.place_libraries.proofs.Named.{best_has}
use Rattle.string_pool.proofs.Ordered.{all_below}
use Rattle.place_libraries.specs.Best.{best, better, bests, has_soname, sonames}
use Rattle.place_libraries.specs.Library.{Library}
use Rattle.cache_entries.proofs.Bests.{names_of, one_best, one_winner}
use Rattle.cache_entries.proofs.OneEach.{find_first}
use Rattle.cache_entries.proofs.Single.{winner_has}
use Rattle.cache_entries.specs.Merged.{merged, turn}
use Rattle.cache_entries.specs.Others.{HaveOthers}
use Rattle.cache_entries.specs.Winner.{named_links, or_else, other_links, winner, winners_among}
use Rattle.lib_types.proofs.SameTexts.{itself}

abbrev at : List Library → List ℕ → Option Library
at libraries soname = find (has_soname soname) libraries

differs : (x z : List ℕ) → cmp z x ≡ Less → bytes_eq x z ≡ false
differs x z less = texts_ties x z ∙ ap is_eq (flipped nat_list_cmp_total z x Less less)

-- If a soname is smaller than those of all libraries, none of them has it.
none_at : (soname : List ℕ) (libraries : List Library) → AllByRecursion (λ x. cmp soname x ≡ Less) (names_of libraries) → at libraries soname ≡ None
none_at soname [] a = refl
none_at soname (library ∷ libraries) a = rw (differs library.soname soname a.0) (none_at soname libraries a.1)

at_first : (library : Library) (libraries : List Library) → at (library ∷ libraries) library.soname ≡ Some library
at_first library libraries = rw (itself library.soname) refl

-- ---- sorted libraries are equal if they are equal for each soname

none_before : (x y : Library) (xs ys : List Library) → AreSorted (names_of (y ∷ ys)) → cmp x.soname y.soname ≡ Less → at (x ∷ xs) x.soname ≡ at (y ∷ ys) x.soname → ⊥
none_before x y xs ys s less h =
    let none = none_at x.soname (y ∷ ys) (less, all_below nat_list_cmp_total x.soname y.soname (names_of ys) less (sorted_head cmp y.soname (names_of ys) s)) in
    let there = at_first x xs in
    absurd (cc)

rest_same : (x y : Library) (xs ys : List Library) → AreSorted (names_of (x ∷ xs)) → AreSorted (names_of (y ∷ ys)) → x ≡ y
    → (soname : List ℕ) → at (x ∷ xs) soname ≡ at (y ∷ ys) soname → at xs soname ≡ at ys soname
rest_same x y xs ys s r e soname h = by_test (bytes_eq x.soname soname)
    (λ t.
    let here : x.soname ≡ soname = (bytes_eq-Decides x.soname soname).0 t in
    let also : y.soname ≡ soname = sym (ap (λ (l : Library). l.soname) e) ∙ here in
    subst (λ (q : List ℕ). at xs q ≡ None) here (none_at x.soname xs (sorted_head cmp x.soname (names_of xs) s))
    ∙ sym (subst (λ (q : List ℕ). at ys q ≡ None) also (none_at y.soname ys (sorted_head cmp y.soname (names_of ys) r))))
    (λ t.
    let also : bytes_eq y.soname soname ≡ false = subst (λ (l : Library). bytes_eq l.soname soname ≡ false) e t in
    sym (ap (λ b. cond b (Some x) (at xs soname)) t) ∙ h ∙ ap (λ b. cond b (Some y) (at ys soname)) also)

same_at : (xs ys : List Library) → AreSorted (names_of xs) → AreSorted (names_of ys) → ((soname : List ℕ) → at xs soname ≡ at ys soname) → xs ≡ ys
same_at [] [] s r h = refl
same_at [] (y ∷ ys) s r h = let there = at_first y ys in let none = h y.soname in absurd (cc)
same_at (x ∷ xs) [] s r h = let there = at_first x xs in let none = h x.soname in absurd (cc)
same_at (x ∷ xs) (y ∷ ys) s r h = by_ordering (cmp x.soname y.soname)
    (λ less. absurd (none_before x y xs ys r less (h x.soname)))
    (λ tied.
    let same : x.soname ≡ y.soname = same_text x.soname y.soname tied in
    let both : Some x ≡ Some y = sym (at_first x xs) ∙ h x.soname ∙ ap (at (y ∷ ys)) same ∙ at_first y ys in
    let first : x ≡ y = cc in
    let rest : xs ≡ ys =
    same_at xs ys (sorted_tail cmp x.soname (names_of xs) s) (sorted_tail cmp y.soname (names_of ys) r) (λ soname. rest_same x y xs ys s r first soname (h soname)) in
    ap (λ l. l ∷ xs) first ∙ ap (λ ls. y ∷ ls) rest)
    (λ greater. absurd (none_before y x ys xs s (flipped nat_list_cmp_total x.soname y.soname Greater greater) (sym (h y.soname))))

-- ---- looking up libraries by soname

module _ (f : List ℕ → Option Library) (own : (soname : List ℕ) (library : Library) → f soname ≡ Some library → library.soname ≡ soname) where
  names_meet : (P : List ℕ → Type 0) (names : List (List ℕ)) → AllByRecursion P names → AllByRecursion P (names_of (filter_map f names))
  names_meet P [] a = tt
  names_meet P (name ∷ names) a =
      elim (f name) as (λ o. f name ≡ o → AllByRecursion P (names_of (cons_option o (filter_map f names)))) [
        | None ↦ λ e. names_meet P names a.1
        | Some library ↦ λ e. (subst P (sym (own name library e)) a.0, names_meet P names a.1)
      ] refl

  still_sorted : (names : List (List ℕ)) → AreSorted names → AreSorted (names_of (filter_map f names))
  unfolding IsStrictlySortedBy
  still_sorted [] s = tt
  still_sorted (name ∷ names) s =
      elim (f name) as (λ o. f name ≡ o → AreSorted (names_of (cons_option o (filter_map f names)))) [
        | None ↦ λ e. still_sorted names s.1
        | Some library ↦ λ e. (subst (λ (q : List ℕ). AllByRecursion (λ y. cmp q y ≡ Less) (names_of (filter_map f names))) (sym (own name library e)) (names_meet (λ y. cmp name y ≡ Less) names s.0), still_sorted names s.1)
      ] refl

only_at : (soname : List ℕ) (libraries : List Library) (found : Option Library) → filter (has_soname soname) libraries ≡ cons_option found [] → at libraries soname ≡ found
only_at soname libraries found e = find_first (has_soname soname) libraries ∙ ap (λ ls. slice_get ls 0) e ∙ alone found
  where
    alone : (o : Option Library) → slice_get (cons_option o []) 0 ≡ o
    alone None = refl
    alone (Some library) = refl

-- ---- both in one list

abbrev IsMergedAt : List ℕ → List Library → List Library → Type 0
IsMergedAt soname files links = at (merged files links) soname ≡ or_else (at files soname) (at links soname)

module _ (soname : List ℕ) (file : Library) (files : List Library) (up : AreSorted (names_of (file ∷ files))) (rest : (links : List Library) → IsMergedAt soname files links) where
  none_of_files : (link : Library) → cmp link.soname file.soname ≡ Less → bytes_eq link.soname soname ≡ true → at (file ∷ files) soname ≡ None
  none_of_files link less here =
      subst (λ (q : List ℕ). at (file ∷ files) q ≡ None) ((bytes_eq-Decides link.soname soname).0 here)
      (none_at link.soname (file ∷ files) (less, all_below nat_list_cmp_total link.soname file.soname (names_of files) less (sorted_head cmp file.soname (names_of files) up)))

  -- Looking up a soname gives the file if it has the soname, otherwise a later file or link.
  file_first : (links : List Library) → at (file ∷ merged files links) soname ≡ or_else (at (file ∷ files) soname) (at links soname)
  file_first links =
      let following = rest links in
      elim (bytes_eq file.soname soname) as (λ b. cond b (Some file) (at (merged files links) soname) ≡ or_else (cond b (Some file) (at files soname)) (at links soname)) [
        | true ↦ refl
        | false ↦ following
      ]

  placed_at : (links : List Library) → IsMergedAt soname (file ∷ files) links
  placed_at [] = file_first []
  placed_at (link ∷ links) = by_ordering (cmp link.soname file.soname)
      (λ less. rw less (by_test (bytes_eq link.soname soname)
      (λ here. rw (here, none_of_files link less here) refl)
      (λ other. rw other (placed_at links))))
      (λ tied. rw tied (by_test (bytes_eq link.soname soname)
      (λ here.
      let same : bytes_eq file.soname soname ≡ true = subst (λ (q : List ℕ). bytes_eq q soname ≡ true) (same_text link.soname file.soname tied) here in
      rw (here, same) refl)
      (λ other. rw other (file_first links))))
      (λ greater. rw greater (file_first (link ∷ links)))

merged_at : (soname : List ℕ) (files links : List Library) → AreSorted (names_of files) → IsMergedAt soname files links
merged_at soname [] links up = refl
merged_at soname (file ∷ files) links up =
    placed_at soname file files up (λ links. merged_at soname files links (sorted_tail cmp file.soname (names_of files) up)) links

-- ---- the merged libraries are sorted

abbrev Meet : (List ℕ → Type 0) → List Library → Type 0
Meet P libraries = AllByRecursion P (names_of libraries)

module _ (P : List ℕ → Type 0) where
  placed_meet : (file : Library) (files : List Library) → ((links : List Library) → Meet P links → Meet P (merged files links)) → P file.soname
      → (links : List Library) → Meet P links → Meet P (merged (file ∷ files) links)
  placed_meet file files rest p [] a = (p, rest [] a)
  placed_meet file files rest p (link ∷ links) a =
      elim (cmp link.soname file.soname) as (λ o. Meet P (match_ordering o (link ∷ merged (file ∷ files) links) (file ∷ merged files links) (file ∷ merged files (link ∷ links)))) [
        | Less ↦ (a.0, placed_meet file files rest p links a.1)
        | Equal ↦ (p, rest links a.1)
        | Greater ↦ (p, rest (link ∷ links) a)
      ]

  merged_meet : (files links : List Library) → Meet P files → Meet P links → Meet P (merged files links)
  merged_meet [] links a b = b
  merged_meet (file ∷ files) links a b = placed_meet file files (λ links. merged_meet files links a.1) a.0 links b

module _ (file : Library) (files : List Library) (up : AreSorted (names_of (file ∷ files)))
    (rest : (links : List Library) → AreSorted (names_of links) → AreSorted (names_of (merged files links))) where
  -- the file comes before the merged rest, if it comes before these links
  file_then : (links : List Library) → Meet (λ y. cmp file.soname y ≡ Less) links → AreSorted (names_of links) → AreSorted (names_of (file ∷ merged files links))
  unfolding IsStrictlySortedBy
  file_then links following s = (merged_meet (λ y. cmp file.soname y ≡ Less) files links up.0 following, rest links s)

  placed_sorted : (links : List Library) → AreSorted (names_of links) → AreSorted (names_of (merged (file ∷ files) links))
  unfolding IsStrictlySortedBy
  placed_sorted [] s = file_then [] tt s
  placed_sorted (link ∷ links) s = by_ordering (cmp link.soname file.soname)
      (λ less. rw less (merged_meet (λ y. cmp link.soname y ≡ Less) (file ∷ files) links (less, all_below nat_list_cmp_total link.soname file.soname (names_of files) less up.0) s.0, placed_sorted links s.1))
      (λ tied. rw tied (file_then links (subst (λ (q : List ℕ). Meet (λ y. cmp q y ≡ Less) links) (same_text link.soname file.soname tied) s.0) s.1))
      (λ greater.
      let less : cmp file.soname link.soname ≡ Less = flipped nat_list_cmp_total link.soname file.soname Greater greater in
      rw greater (file_then (link ∷ links) (less, all_below nat_list_cmp_total file.soname link.soname (names_of links) less s.0) s))

merged_sorted : (files links : List Library) → AreSorted (names_of files) → AreSorted (names_of links) → AreSorted (names_of (merged files links))
merged_sorted [] links up s = s
merged_sorted (file ∷ files) links up s =
    placed_sorted file files up (λ links. merged_sorted files links (sorted_tail cmp file.soname (names_of files) up)) links s

-- ---- the winners

winners_sorted : (files links : List Library) → AreSorted (names_of (winners_among files links))
winners_sorted files links = let all : List Library = files ++ (named_links links ++ other_links links) in still_sorted (winner files links) (winner_has files links) (sonames all) (ascending_sorted (names_of all))

-- the winner of a soname is a file with it, or else a link that is kept
kept_at : (files links kept : List Library) → HaveOthers (bests files) links kept → (soname : List ℕ)
    → or_else (best files soname) (winner [] kept soname) ≡ winner files links soname
kept_at files links kept h soname =
    elim (best files soname) as (λ o. at (bests files) soname ≡ o → or_else o (winner [] kept soname) ≡ or_else o (or_else (best (named_links links) soname) (best (other_links links) soname))) [
      | Some file ↦ λ e. refl
      | None ↦ λ e.
          ap (λ xs. or_else (fold better None xs) (best (other_links kept) soname)) (h.own soname (ap is_some e))
          ∙ ap (λ xs. or_else (best (named_links links) soname) (best xs soname)) h.others
    ] (only_at soname (bests files) (best files soname) (one_best files soname))

-- merging the best files with the winners among the kept links
pub merged_winners : (files links kept : List Library) → HaveOthers (bests files) links kept → merged (bests files) (winners_among [] kept) ≡ winners_among files links
merged_winners files links kept h =
    let up = still_sorted (best files) (best_has files) (sonames files) (ascending_sorted (names_of files)) in
    same_at (merged (bests files) (winners_among [] kept)) (winners_among files links) (merged_sorted (bests files) (winners_among [] kept) up (winners_sorted [] kept)) (winners_sorted files links)
    (λ soname. merged_at soname (bests files) (winners_among [] kept) up
    ∙ ap (λ o. or_else o (at (winners_among [] kept) soname)) (only_at soname (bests files) (best files soname) (one_best files soname))
    ∙ ap (or_else (best files soname)) (only_at soname (winners_among [] kept) (winner [] kept soname) (one_winner [] kept soname))
    ∙ kept_at files links kept h soname
    ∙ sym (only_at soname (winners_among files links) (winner files links soname) (one_winner files links soname)))

-- ---- iterating over the winners

-- the first of these libraries, and the libraries that are left after it
abbrev pub Begins : List Library → Option Library → List Library → Type 0
Begins libraries first left = YieldsFirstBy (λ x. x) (λ s. s) libraries first left

-- a call for the first library makes progress
abbrev pub Goes : List Library → Option Library → List Library → Type 0
Goes libraries first left = MakesProgress (λ _. Unit {0}) (item_count (λ s. s)) libraries first left

pub link_next : (files links left : List Library) (first : Option Library) → turn (slice_get files 0) (slice_get links 0) ≡ Less → Begins links first left
    → Begins (merged files links) first (merged files left)
link_next [] [] left first h y = absurd (cc)
link_next (file ∷ files) [] left first h y = absurd (cc)
link_next files (link ∷ links) left None h y = absurd (cc)
link_next [] (link ∷ links) left (Some first) h y = y
link_next (file ∷ files) (link ∷ links) left (Some first) h y =
    let here : link ≡ first = cc in
    let rest : links ≡ left = cc in
    rw h (ap (λ l. l ∷ merged (file ∷ files) links) here ∙ ap (λ ls. first ∷ merged (file ∷ files) ls) rest)

pub file_next : (files links left : List Library) (first : Option Library) → turn (slice_get files 0) (slice_get links 0) ≡ Greater → Begins files first left
    → Begins (merged files links) first (merged left links)
file_next files [] left None h y = (ap (λ fs. merged fs []) y.0, ap (λ fs. merged fs []) y.1)
file_next files [] left (Some first) h y = ap (λ fs. merged fs []) y
file_next [] (link ∷ links) left first h y = absurd (cc)
file_next (file ∷ files) (link ∷ links) left None h y = absurd (cc)
file_next (file ∷ files) (link ∷ links) left (Some first) h y =
    let here : file ≡ first = cc in
    let rest : files ≡ left = cc in
    rw h (ap (λ l. l ∷ merged files (link ∷ links)) here ∙ ap (λ fs. first ∷ merged fs (link ∷ links)) rest)

-- after each call one library less is left
pub goes_on : (libraries left : List Library) (first : Option Library) → Begins libraries first left → Goes libraries first left
goes_on libraries left None y = record { on = λ f. tt; keeps = tt; rests = λ f. tt }
goes_on libraries left (Some first) y =
    let less : length left < length libraries = omega (ap length y, arith) in
    record { on = λ f. (tt, tt, less); keeps = tt; rests = λ f. tt }
