-- Winners and entries depend only on the files in the search directories and on the files that their links lead to.
use Rattle.std.proofs.Common.{◌≡◌, ℕ, List, [], ◌∷◌, flat_map, map, refl, ap, ◌∙◌, Some, None}
use Rattle.std.proofs.lemmas.Bool.{or_left, or_right}
use Rattle.std.specs.List.{cons_option, filter_map}
use Rattle.std.specs.Option.{option_and_then}
use Rattle.std.specs.Str.{bytes_eq}
use Rattle.hwcap_dirs.specs.declared.kinds.Place.{Place}
use Rattle.image_tree.specs.Tree.{Nodes}
use Rattle.path_walk.specs.Names.{last}
use Rattle.string_pool.proofs.Members.{is_in}
use Rattle.file_table.proofs.Agreeing.{agree_first, agree_in_order, agree_later}
use Rattle.place_libraries.proofs.NoOtherFiles.{by_place_same, libraries_agree}
use Rattle.file_table.specs.Analyses.{Analyses, AgreeOn}
use Rattle.place_libraries.specs.Libraries.{libraries_in, library_by}
use Rattle.library_files.specs.Search.{files_of, folder_links, followed, followed_in, reached, wanted}
use Rattle.library_files.specs.Link.{FollowedLink}
use Rattle.cache_entries.specs.Entries.{entry_of, found}
use Rattle.cache_entries.specs.Winner.{library_after, linked, links_to_libraries, winners_among, winners_in}
use Rattle.lib_types.proofs.SameTexts.{itself}

module _ (what new : Analyses) where
  abbrev following : List FollowedLink → List (List ℕ)
  following links = filter_map (λ link. link.file) links

  same_links : (links : List FollowedLink) → AgreeOn (following links) what new → filter_map (linked new) links ≡ filter_map (linked what) links
  same_links [] same = refl
  same_links (link ∷ links) same = elim link.file as (λ o. AgreeOn (cons_option o (following links)) what new
      → cons_option (library_after new link.name o) (filter_map (linked new) links) ≡ cons_option (library_after what link.name o) (filter_map (linked what) links)) [
        | None ↦ λ s. same_links links s
        | Some file ↦ λ s.
            let here : library_after new link.name (Some file) ≡ library_after what link.name (Some file) =
            ap (option_and_then (library_by link.name (last file))) (s file (or_left (bytes_eq file file) (is_in (following links) file) (itself file))) in
            let rest = same_links links (λ q h. s q (or_right (bytes_eq q file) (is_in (following links) q) h)) in
            ap (λ o. cons_option o (filter_map (linked new) links)) here ∙ ap (cons_option (library_after what link.name (Some file))) rest
      ] same

  module _ (t : Nodes) where
    all_links : (places : List Place) → AgreeOn (flat_map files_of (map (folder_links t) places)) what new → map (links_to_libraries new t) places ≡ map (links_to_libraries what t) places
    all_links [] same = refl
    all_links (place ∷ places) same =
        let here = same_links (followed_in t place.real) (agree_first what new (files_of (folder_links t place)) (flat_map files_of (map (folder_links t) places)) same) in
        let rest = all_links places (agree_later what new (files_of (folder_links t place)) (flat_map files_of (map (folder_links t) places)) same) in
        ap (λ links. links ∷ map (links_to_libraries new t) places) here ∙ ap (λ ls. links_to_libraries what t place ∷ ls) rest

links_agree : (t : Nodes) (what new : Analyses) (places : List Place) → AgreeOn (reached t places) what new → map (links_to_libraries new t) places ≡ map (links_to_libraries what t) places
unfolding reached followed
links_agree t what new places same = all_links what new t places (agree_in_order what new (flat_map files_of (map (folder_links t) places)) same)

both_same : {L M N : Type 0} (f : L → M → N) (g h : Place → L) (k l : Place → M) (places : List Place) → map h places ≡ map g places → map l places ≡ map k places
    → map (λ place. f (h place) (l place)) places ≡ map (λ place. f (g place) (k place)) places
both_same f g h k l [] first second = refl
both_same f g h k l (place ∷ places) first second =
    let one : h place ≡ g place = cc in
    let two : l place ≡ k place = cc in
    let ones : map h places ≡ map g places = cc in
    let twos : map l places ≡ map k places = cc in
    ap (λ x. f x (l place) ∷ map (λ p. f (h p) (l p)) places) one ∙ ap (λ y. f (g place) y ∷ map (λ p. f (h p) (l p)) places) two
    ∙ ap (λ rest. f (g place) (k place) ∷ rest) (both_same f g h k l places ones twos)

pub winners_agree : (t : Nodes) (what new : Analyses) (places : List Place) → AgreeOn (wanted t places) what new → AgreeOn (reached t places) what new
    → map (winners_in new t) places ≡ map (winners_in what t) places
winners_agree t what new places files links =
    both_same winners_among (libraries_in what t) (libraries_in new t) (links_to_libraries what t) (links_to_libraries new t) places
    (libraries_agree t what new places files) (links_agree t what new places links)

pub found_agrees : (t : Nodes) (what new : Analyses) (places : List Place) → AgreeOn (wanted t places) what new → AgreeOn (reached t places) what new
    → found new t places ≡ found what t places
unfolding found
found_agrees t what new places files links =
    by_place_same (λ number place winners. map (entry_of t number place) winners) (winners_in what t) (winners_in new t) places 0 (winners_agree t what new places files links)
