-- Links that lose to files may be left out.
use Rattle.std.proofs.Common.{◌≡◌, ℕ, true, false, cond, List, [], ◌∷◌, ◌++◌, refl, ap, subst, sym, ◌∙◌, Option, Some, None}
use Rattle.std.proofs.lemmas.Slice.Eq.{bytes_eq-Decides}
use Rattle.std.specs.Cmp.Lexicographic.{slice_cmp}
use Rattle.std.specs.List.{cons_option, filter, filter_map, slice_get}
use Rattle.std.specs.Ordering.{nat_cmp}
use Rattle.std.specs.declared.cmp.Ordering.TheVariants.{Equal}
use Rattle.std.specs.Str.{bytes_eq}
use Rattle.lib_types.proofs.SortedPairs.{by_test}
use Rattle.string_pool.proofs.InByteOrder.{same_text}
use Rattle.place_libraries.specs.Best.{has_soname}
use Rattle.place_libraries.specs.Library.{Library}
use Rattle.cache_entries.specs.Others.{has_file, AreAmong, HaveOthers, IsPassed}
use Rattle.cache_entries.specs.Winner.{named, named_links, other_links, unnamed}

pub all_kept : (files links : List Library) → HaveOthers files links links
all_kept files links = record { own = λ soname h. refl; others = refl }

pub all_among : (files : List Library) → AreAmong files files
all_among files = λ soname h. h

pub among_both : (left more files : List Library) → AreAmong left more → AreAmong more files → AreAmong left files
among_both left more files inner outer = λ soname h. outer soname (inner soname h)

-- the files after the first are among the files
pub rest_among : (file : Library) (left files : List Library) → AreAmong (file ∷ left) files → AreAmong left files
rest_among file left files among = λ soname h. among soname
    (elim (bytes_eq file.soname soname) as (λ b. b ≡ bytes_eq file.soname soname → has_file (file ∷ left) soname ≡ true) [
      | true ↦ λ e. rw (sym e) refl
      | false ↦ λ e. rw (sym e) h
    ] refl)

-- the soname of the first of these files is the soname of a file
pub first_there : (left files : List Library) (file : Library) (soname : List ℕ) → AreAmong left files → slice_get left 0 ≡ Some file → slice_cmp nat_cmp file.soname soname ≡ Equal
    → has_file files soname ≡ true
first_there [] files file soname among first tied = absurd (cc)
first_there (x ∷ left) files file soname among first tied =
    let here : x ≡ file = cc in
    let same : x.soname ≡ soname = ap (λ (l : Library). l.soname) here ∙ same_text file.soname soname tied in
    among soname (rw ((bytes_eq-Decides x.soname soname).1 same) refl)

pub passed_among : (left files : List Library) (link : Library) → AreAmong left files → IsPassed left link → IsPassed files link
passed_among left files link among passed = record { own = passed.own; there = among link.name passed.there }

module _ (files : List Library) (link : Library) (passed : IsPassed files link) where
  -- If no file has a soname, this link isn't looked up by it.
  other_soname : (soname : List ℕ) → has_file files soname ≡ false → bytes_eq link.name soname ≡ false
  other_soname soname none = by_test (bytes_eq link.name soname)
      (λ e.
      let same : link.name ≡ soname = (bytes_eq-Decides link.name soname).0 e in
      let there : has_file files soname ≡ true = subst (λ (q : List ℕ). has_file files q ≡ true) same passed.there in
      absurd (cc))
      (λ e. e)

  module _ (soname : List ℕ) (none : has_file files soname ≡ false) where
    own_less : (kept rest : List Library) → filter (has_soname soname) (named_links (kept ++ rest)) ≡ filter (has_soname soname) (named_links (kept ++ link ∷ rest))
    own_less [] rest = rw (passed.own, other_soname soname none) refl
    own_less (x ∷ kept) rest =
        elim (named x) as (λ o. filter (has_soname soname) (cons_option o (named_links (kept ++ rest))) ≡ filter (has_soname soname) (cons_option o (named_links (kept ++ link ∷ rest)))) [
          | None ↦ own_less kept rest
          | Some n ↦ elim (bytes_eq n.soname soname) as (λ b. cond b (n ∷ filter (has_soname soname) (named_links (kept ++ rest))) (filter (has_soname soname) (named_links (kept ++ rest)))
              ≡ cond b (n ∷ filter (has_soname soname) (named_links (kept ++ link ∷ rest))) (filter (has_soname soname) (named_links (kept ++ link ∷ rest)))) [
                | true ↦ ap (λ ls. n ∷ ls) (own_less kept rest)
                | false ↦ own_less kept rest
              ]
        ]

  others_less : (kept rest : List Library) → other_links (kept ++ rest) ≡ other_links (kept ++ link ∷ rest)
  others_less [] rest = rw passed.own refl
  others_less (x ∷ kept) rest = ap (cons_option (unnamed x)) (others_less kept rest)

  pub one_less : (links kept rest : List Library) → HaveOthers files links (kept ++ link ∷ rest) → HaveOthers files links (kept ++ rest)
  one_less links kept rest h = record {
    own = λ soname none. own_less soname none kept rest ∙ h.own soname none;
    others = others_less kept rest ∙ h.others;
  }

-- A link may be dropped if it is the first that is left and loses to a file.
pub link_less : {L : Type 0} (f : L → Option Library) (files all kept : List Library) (links rest : List L) (link : L) (library : Library) → links ≡ link ∷ rest → f link ≡ Some library
    → IsPassed files library → HaveOthers files all (kept ++ filter_map f links) → HaveOthers files all (kept ++ filter_map f rest)
link_less f files all kept links rest link library first leads passed h =
    let same : filter_map f links ≡ library ∷ filter_map f rest = ap (filter_map f) first ∙ ap (λ o. cons_option o (filter_map f rest)) leads in
    one_less files library passed all kept (filter_map f rest) (subst (λ (ls : List Library). HaveOthers files all (kept ++ ls)) same h)
