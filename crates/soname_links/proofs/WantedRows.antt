-- A copy of what a table says of the files of places.
use Rattle.std.proofs.Common.{◌≡◌, ℕ, cond, List, [], ◌∷◌, flat_map, refl, ap, sym, subst, ◌∙◌}
use Rattle.std.proofs.lemmas.Bool.{or_left, or_right}
use Rattle.std.specs.Cmp.Lexicographic.{slice_cmp}
use Rattle.std.specs.List.Sorted.{IsStrictlySortedBy}
use Rattle.std.specs.Map.{keys_of}
use Rattle.std.specs.Option.{is_some}
use Rattle.std.specs.Ordering.{nat_cmp}
use Rattle.std.specs.Str.{bytes_eq}
use Rattle.hwcap_dirs.specs.declared.kinds.Place.{Place}
use Rattle.image_tree.specs.Tree.{Nodes}
use Rattle.string_pool.proofs.InByteOrder.{ascending_sorted}
use Rattle.string_pool.proofs.Members.{is_in}
use Rattle.file_table.specs.Analyses.{Analyses, AgreeOn}
use Rattle.place_libraries.specs.Rows.{AreOfPlaces}
use Rattle.file_table.specs.Analyses.{analysed}
use Rattle.library_files.specs.Search.{files_in, wanted}
use Rattle.file_table.specs.Table.{Rows, analysis_at}
use Rattle.lib_types.proofs.SameTexts.{itself}

analysed_agree : (what new : Analyses) (paths : List (List ℕ)) → AgreeOn paths what new → analysed new paths ≡ analysed what paths
analysed_agree what new [] same = refl
analysed_agree what new (path ∷ paths) same =
    let here = same path (or_left (bytes_eq path path) (is_in paths path) (itself path)) in
    let rest = analysed_agree what new paths (λ q h. same q (or_right (bytes_eq q path) (is_in paths q) h)) in
    ap (λ o. cond (is_some o) (path ∷ analysed new paths) (analysed new paths)) here ∙ ap (λ ps. cond (is_some (what path)) (path ∷ ps) ps) rest

module _ (t : Nodes) (places : List Place) where
  pub in_order : (paths : List (List ℕ)) → paths ≡ wanted t places → IsStrictlySortedBy (slice_cmp nat_cmp) paths
  unfolding wanted
  in_order paths e = subst (λ ps. IsStrictlySortedBy (slice_cmp nat_cmp) ps) (sym e) (ascending_sorted (flat_map (files_in t) places))

  pub of_places : (what : Analyses) (copy : Rows) (paths : List (List ℕ)) → paths ≡ wanted t places → keys_of copy ≡ analysed what paths
      → AgreeOn paths what (analysis_at copy) → AreOfPlaces t places copy
  of_places what copy paths e keys same =
      keys ∙ sym (analysed_agree what (analysis_at copy) paths same) ∙ ap (analysed (analysis_at copy)) e
