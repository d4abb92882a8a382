-- The libraries of a place by their sonames, and what each soname gives.
use Rattle.std.proofs.Common.{◌≡◌, ℕ, true, false, cond, List, [], ◌∷◌, map, refl, ap, sym, subst, ◌∙◌, Option, Some, None}
use Rattle.std.proofs.lemmas.Cmp.{nat_list_cmp_total}
use Rattle.std.specs.List.{cons_option, filter, filter_map, fold}
use Rattle.std.specs.Map.{keys_of}
use Rattle.std.specs.Option.{option_map}
use Rattle.string_pool.proofs.Ordered.{by_entries, filtered_same}
use Rattle.place_libraries.proofs.Gathered.{gathered_keyed, keys_keyed}
use Rattle.place_libraries.specs.Sonames.{AreGathered, AreOrdered, found_at}
use Rattle.place_libraries.specs.Best.{best, bests, better, has_soname, is_preferred, sonames}
use Rattle.string_pool.specs.Order.{ascending}
use Rattle.soname_links.specs.Survey.{group_at, group_with, groups, keyed, with_library}
use Rattle.soname_links.specs.declared.groups.Group.{Group}
use Rattle.place_libraries.specs.Library.{Library}

abbrev pub Grouped : Type 0
Grouped = List (List ℕ × Group)

-- the entries of an ordered map with these keys, and the libraries at each
all_groups : (es : Grouped) (libraries : List Library) → AreOrdered es → keys_of es ≡ sonames libraries → ((soname : List ℕ) → found_at es soname ≡ group_at libraries soname)
    → es ≡ groups libraries
all_groups es libraries s keys at =
    sym (by_entries nat_list_cmp_total es s)
    ∙ filtered_same (λ k. option_map (λ group. (k, group)) (found_at es k)) (group_with libraries)
    (λ k. ap (option_map (λ group. (k, group))) (at k)) (keys_of es)
    ∙ ap (filter_map (group_with libraries)) keys

-- the result of grouping the libraries by their sonames
pub groups_gathered : (libraries : List Library) (items : List (List ℕ × Library)) (es : Grouped) → items ≡ keyed libraries → AreGathered with_library items es → es ≡ groups libraries
groups_gathered libraries items es is gathered =
    let all : AreGathered with_library (keyed libraries) es = subst (λ xs. AreGathered with_library xs es) is gathered in
    all_groups es libraries all.ordered (all.keys ∙ ap ascending (keys_keyed (λ library. library.soname) libraries))
    (λ soname. all.found soname ∙ gathered_keyed (λ library. library.soname) with_library soname libraries None)

-- ---- the best one

one_better : (found : Option Group) (library : Library) → better (option_map (λ group. group.best) found) library ≡ option_map (λ group. group.best) (with_library found library)
one_better None library = refl
one_better (Some group) library =
    elim (is_preferred library group.best) as (λ b. cond b (Some library) (Some group.best) ≡ Some (cond b library group.best)) [ true ↦ refl | false ↦ refl ]

all_better : (libraries : List Library) (found : Option Group)
    → fold better (option_map (λ group. group.best) found) libraries ≡ option_map (λ group. group.best) (fold with_library found libraries)
all_better [] found = refl
all_better (library ∷ libraries) found = ap (λ o. fold better o libraries) (one_better found library) ∙ all_better libraries (with_library found library)

pub best_grouped : (libraries : List Library) (soname : List ℕ) → best libraries soname ≡ option_map (λ group. group.best) (group_at libraries soname)
best_grouped libraries soname = all_better (filter (has_soname soname) libraries) None

best_among : (libraries : List Library) (names : List (List ℕ)) → map (λ (e : List ℕ × Group). e.1.best) (filter_map (group_with libraries) names) ≡ filter_map (best libraries) names
best_among libraries [] = refl
best_among libraries (soname ∷ names) = rw (best_grouped libraries soname)
    (elim (group_at libraries soname) as (λ o.
    map (λ (e : List ℕ × Group). e.1.best) (cons_option (option_map (λ group. (soname, group)) o) (filter_map (group_with libraries) names))
    ≡ cons_option (option_map (λ group. group.best) o) (filter_map (best libraries) names)) [
      | None ↦ best_among libraries names
      | Some group ↦ ap (λ rest. group.best ∷ rest) (best_among libraries names)
    ])

pub bests_given : (libraries : List Library) → map (λ (e : List ℕ × Group). e.1.best) (groups libraries) ≡ bests libraries
bests_given libraries = best_among libraries (sonames libraries)
