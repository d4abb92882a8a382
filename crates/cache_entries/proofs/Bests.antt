-- In a search directory, a soname has one best library and one winner.
use Rattle.std.proofs.Common.{◌≡◌, ℕ, Bool, true, false, cond, ◌||◌, List, [], ◌∷◌, ◌++◌, map, refl, ap, sym, ◌∙◌, Option, Some, None}
use Rattle.std.specs.List.{cons_option, filter, fold}
use Rattle.std.specs.Option.{is_some}
use Rattle.std.specs.Str.{bytes_eq}
use Rattle.lib_types.proofs.SortedPairs.{by_test}
use Rattle.string_pool.proofs.InByteOrder.{ascending_sorted, in_ascending}
use Rattle.string_pool.proofs.Members.{is_in}
use Rattle.place_libraries.proofs.Named.{best_has}
use Rattle.place_libraries.specs.Best.{best, bests, better, has_soname, is_preferred, sonames}
use Rattle.place_libraries.specs.Library.{Library}
use Rattle.place_libraries.specs.Pick.{is_better_by}
use Rattle.cache_entries.proofs.OneEach.{none_left, one_left}
use Rattle.cache_entries.proofs.Single.{winner_has}
use Rattle.cache_entries.specs.Winner.{named_links, or_else, other_links, winner, winners_among}
use Rattle.lib_types.proofs.SameTexts.{turned}

abbrev pub names_of : List Library → List (List ℕ)
names_of libraries = map (λ library. library.soname) libraries

-- ---- a soname has a best library exactly if a library has the soname

still_some : (libraries : List Library) (found : Option Library) → is_some found ≡ true → is_some (fold better found libraries) ≡ true
still_some [] found h = h
still_some (library ∷ libraries) found h = still_some libraries (better found library)
    (elim (is_better_by is_preferred library found) as (λ b. is_some (cond b (Some library) found) ≡ true) [ true ↦ refl | false ↦ h ])

best_there : (libraries : List Library) (soname : List ℕ) → is_in (names_of libraries) soname ≡ is_some (best libraries soname)
best_there [] soname = refl
best_there (library ∷ libraries) soname = by_test (bytes_eq library.soname soname)
    (λ e. rw (turned library.soname soname, e) (sym (still_some (filter (has_soname soname) libraries) (Some library) refl)))
    (λ e. rw (turned library.soname soname, e) (best_there libraries soname))

-- If none of the libraries has the soname, it has no best library.
pub none_best : (libraries : List Library) (soname : List ℕ) → is_in (names_of libraries) soname ≡ false → best libraries soname ≡ None
none_best libraries soname h = elim (best libraries soname) as (λ o. is_some o ≡ false → o ≡ None)
    [ None ↦ λ e. refl | Some library ↦ λ e. absurd (cc) ] (sym (best_there libraries soname) ∙ h)

pub in_more : (xs more : List Library) (z : List ℕ) → is_in (names_of (xs ++ more)) z ≡ (is_in (names_of xs) z || is_in (names_of more) z)
in_more [] more z = refl
in_more (x ∷ xs) more z = ap (λ b. bytes_eq z x.soname || b) (in_more xs more z) ∙ grouped (bytes_eq z x.soname) (is_in (names_of xs) z) (is_in (names_of more) z)
  where
    grouped : (a b c : Bool) → (a || (b || c)) ≡ ((a || b) || c)
    grouped true b c = refl
    grouped false b c = refl

-- ---- each of the best libraries is the only one with its soname

pub one_best : (files : List Library) (soname : List ℕ) → filter (has_soname soname) (bests files) ≡ cons_option (best files soname) []
one_best files soname = by_test (is_in (sonames files) soname)
    (λ h. one_left (best files) (best_has files) soname (sonames files) (ascending_sorted (names_of files)) h)
    (λ h. none_left (best files) (best_has files) soname (sonames files) h
    ∙ sym (ap (λ o. cons_option o []) (none_best files soname (sym (in_ascending (names_of files) soname) ∙ h))))

-- ---- a soname has one winner in a search directory

no_winner : (files links : List Library) (soname : List ℕ) → is_in (names_of (files ++ (named_links links ++ other_links links))) soname ≡ false → winner files links soname ≡ None
no_winner files links soname h =
    let both = differ (is_in (names_of files) soname) _ (sym (in_more files (named_links links ++ other_links links) soname) ∙ h) in
    let each = differ (is_in (names_of (named_links links)) soname) _ (sym (in_more (named_links links) (other_links links) soname) ∙ both.1) in
    ap (λ o. or_else o (or_else (best (named_links links) soname) (best (other_links links) soname))) (none_best files soname both.0)
    ∙ ap (λ o. or_else o (best (other_links links) soname)) (none_best (named_links links) soname each.0) ∙ none_best (other_links links) soname each.1
  where
    differ : (a b : Bool) → (a || b) ≡ false → (a ≡ false) × (b ≡ false)
    differ true b h = absurd (cc)
    differ false b h = (refl, h)

pub one_winner : (files links : List Library) (soname : List ℕ) → filter (has_soname soname) (winners_among files links) ≡ cons_option (winner files links soname) []
one_winner files links soname =
    let all : List Library = files ++ (named_links links ++ other_links links) in
    by_test (is_in (sonames all) soname)
    (λ h. one_left (winner files links) (winner_has files links) soname (sonames all) (ascending_sorted (names_of all)) h)
    (λ h. none_left (winner files links) (winner_has files links) soname (sonames all) h
    ∙ sym (ap (λ o. cons_option o []) (no_winner files links soname (sym (in_ascending (names_of all) soname) ∙ h))))
