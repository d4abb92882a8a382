-- Planned links and reported sonames depend on the files of the places alone, and so does whether a tree is settled.
use Rattle.std.proofs.Common.{◌≡◌, ℕ, cond, List, [], map, sym, subst, ◌∙◌}
use Rattle.std.specs.List.{filter_map}
use Rattle.hwcap_dirs.specs.declared.kinds.Place.{Place}
use Rattle.image_tree.specs.Tree.{Nodes}
use Rattle.place_libraries.proofs.NoOtherFiles.{by_place_same, libraries_agree}
use Rattle.file_table.specs.Analyses.{Analyses, AgreeOn}
use Rattle.place_libraries.specs.Best.{bests}
use Rattle.place_libraries.specs.Libraries.{libraries_in}
use Rattle.library_files.specs.Places.{has_no_cap}
use Rattle.library_files.specs.Search.{wanted}
use Rattle.soname_links.specs.Marks.{blocked, blocked_for, mark, mixed, mixed_among}
use Rattle.soname_links.specs.Plan.{link_for, links}
use Rattle.soname_links.specs.Settled.{IsSettled}

module _ (t : Nodes) (what new : Analyses) (places : List Place) (same : AgreeOn (wanted t places) what new) where
  pub links_agree : links new t places ≡ links what t places
  unfolding links
  links_agree =
      by_place_same (λ number place libraries. cond (has_no_cap place) (filter_map (link_for t number place) (bests libraries)) [])
      (libraries_in what t) (libraries_in new t) places 0 (libraries_agree t what new places same)

  pub blocked_agree : blocked new t places ≡ blocked what t places
  unfolding blocked
  blocked_agree =
      by_place_same (λ number place libraries. cond (has_no_cap place) (filter_map (blocked_for t number place) (bests libraries)) [])
      (libraries_in what t) (libraries_in new t) places 0 (libraries_agree t what new places same)

  pub mixed_agree : mixed new t places ≡ mixed what t places
  unfolding mixed
  mixed_agree =
      by_place_same (λ number place libraries. map (mark number) (mixed_among libraries))
      (libraries_in what t) (libraries_in new t) places 0 (libraries_agree t what new places same)

pub settled_agrees : (t : Nodes) (what new : Analyses) (places : List Place) (after : Nodes) → AgreeOn (wanted t places) what new → IsSettled what t places after → IsSettled new t places after
settled_agrees t what new places after same settled =
    let later : AgreeOn (wanted after places) what new = subst (λ (paths : List (List ℕ)). AgreeOn paths what new) (sym settled.files) same in
    record {
      dirs = settled.dirs;
      files = settled.files;
      libraries = libraries_agree after what new places later ∙ settled.libraries ∙ sym (libraries_agree t what new places same);
      none = links_agree after what new places later ∙ settled.none;
    }
