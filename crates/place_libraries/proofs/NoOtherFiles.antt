-- The libraries of search directories depend only on their files.
-- If two tables have the same ELF information for these, the libraries are the same.
use Rattle.std.proofs.Common.{◌≡◌, ℕ, ◌+◌, List, [], ◌∷◌, ◌++◌, flat_map, map, refl, ap, ◌∙◌, Some, None}
use Rattle.std.proofs.lemmas.Bool.{or_left, or_right}
use Rattle.std.specs.List.{cons_option, filter_map}
use Rattle.std.specs.Option.{option_and_then}
use Rattle.std.specs.Str.{bytes_eq}
use Rattle.hwcap_dirs.specs.declared.kinds.Place.{Place}
use Rattle.image_tree.specs.Tree.{Nodes, children_of}
use Rattle.string_pool.proofs.Members.{is_in}
use Rattle.file_table.specs.Analyses.{Analyses, AgreeOn, HaveAnalyses, KeepsAnalyses}
use Rattle.place_libraries.specs.Best.{bests, bests_of}
use Rattle.place_libraries.specs.Libraries.{libraries_in, library_at, library_by, library_in}
use Rattle.library_files.specs.Places.{by_place}
use Rattle.library_files.specs.Search.{file_in, files_in, wanted}
use Rattle.file_table.proofs.Agreeing.{kept_agree, agree_first, agree_later, agree_in_order}
use Rattle.lib_types.proofs.SameTexts.{itself}

-- ---- the same libraries give the same results

pub map_same : {L M : Type 0} (f : L → M) (g h : Place → L) (places : List Place) → map h places ≡ map g places → map (λ place. f (h place)) places ≡ map (λ place. f (g place)) places
map_same f g h [] e = refl
map_same f g h (place ∷ places) e =
    let here : h place ≡ g place = cc in
    let rest : map h places ≡ map g places = cc in
    ap (λ l. f l ∷ map (λ p. f (h p)) places) here ∙ ap (λ xs. f (g place) ∷ xs) (map_same f g h places rest)

pub by_place_same : {A L : Type 0} (f : ℕ → Place → L → List A) (g h : Place → L) (places : List Place) (number : ℕ) → map h places ≡ map g places
    → by_place (λ n place. f n place (h place)) number places ≡ by_place (λ n place. f n place (g place)) number places
by_place_same f g h [] number e = refl
by_place_same f g h (place ∷ places) number e =
    let here : h place ≡ g place = cc in
    let rest : map h places ≡ map g places = cc in
    ap (λ l. f number place l ++ by_place (λ n p. f n p (h p)) (number + 1) places) here
    ∙ ap (λ xs. f number place (g place) ++ xs) (by_place_same f g h places (number + 1) rest)

module _ (what new : Analyses) where
  -- ---- the libraries

  module _ (t : Nodes) where
    same_in : (folder : List ℕ) (names : List (List ℕ)) → AgreeOn (filter_map (file_in t folder) names) what new
        → filter_map (library_in new t folder) names ≡ filter_map (library_in what t folder) names
    same_in folder [] same = refl
    same_in folder (name ∷ names) same = elim (file_in t folder name) as (λ o. AgreeOn (cons_option o (filter_map (file_in t folder) names)) what new
        → cons_option (option_and_then (λ path. library_at new path name name) o) (filter_map (library_in new t folder) names)
        ≡ cons_option (option_and_then (λ path. library_at what path name name) o) (filter_map (library_in what t folder) names)) [
          | None ↦ λ s. same_in folder names s
          | Some path ↦ λ s.
              let files = filter_map (file_in t folder) names in
              let here : library_at new path name name ≡ library_at what path name name = ap (option_and_then (library_by name name)) (s path (or_left (bytes_eq path path) (is_in files path) (itself path))) in
              let rest = same_in folder names (λ q h. s q (or_right (bytes_eq q path) (is_in files q) h)) in
              ap (λ o. cons_option o (filter_map (library_in new t folder) names)) here ∙ ap (cons_option (library_at what path name name)) rest
        ] same

    all_same : (places : List Place) → AgreeOn (flat_map (files_in t) places) what new → map (libraries_in new t) places ≡ map (libraries_in what t) places
    all_same [] same = refl
    all_same (place ∷ places) same =
        let here = same_in place.real (children_of t place.real) (agree_first what new (files_in t place) (flat_map (files_in t) places) same) in
        let rest = all_same places (agree_later what new (files_in t place) (flat_map (files_in t) places) same) in
        ap (λ libraries. libraries ∷ map (libraries_in new t) places) here ∙ ap (λ ls. libraries_in what t place ∷ ls) rest

pub libraries_agree : (t : Nodes) (what new : Analyses) (places : List Place) → AgreeOn (wanted t places) what new → map (libraries_in new t) places ≡ map (libraries_in what t) places
unfolding wanted
libraries_agree t what new places same = all_same what new t places (agree_in_order what new (flat_map (files_in t) places) same)

pub bests_agree : (t : Nodes) (what new : Analyses) (places : List Place) → AgreeOn (wanted t places) what new → bests_of new t places ≡ bests_of what t places
unfolding bests_of
bests_agree t what new places same = map_same bests (libraries_in what t) (libraries_in new t) places (libraries_agree t what new places same)

-- The libraries of search directories stay the same if their files have ELF information and keep it.
pub bests_stay : (t : Nodes) (what new : Analyses) → KeepsAnalyses what new → (places : List Place) → HaveAnalyses what (wanted t places) → bests_of new t places ≡ bests_of what t places
bests_stay t what new keeps places have = bests_agree t what new places (kept_agree what new (wanted t places) have keeps)
