-- The best libraries and the mixed sonames of each place, by its directory.
use Rattle.std.proofs.Common.{◌≡◌, ℕ, List, [], ◌∷◌, map, refl, ap, ◌∙◌}
use Rattle.hwcap_dirs.specs.declared.kinds.Place.{Place}
use Rattle.image_tree.specs.Tree.{Nodes, IsTree}
use Rattle.place_libraries.proofs.Among.{all_libraries}
use Rattle.library_files.proofs.FolderRows.{made_shared, reals}
use Rattle.place_libraries.specs.Best.{bests, bests_in}
use Rattle.place_libraries.specs.Library.{Library}
use Rattle.place_libraries.specs.Libraries.{libraries_at}
use Rattle.library_files.specs.RealFolders.{HaveRows}
use Rattle.place_libraries.specs.Rows.{AreOfPlaces, libraries_among}
use Rattle.string_pool.specs.Shared.{taken}
use Rattle.file_table.specs.Table.{Rows, analysis_at}
use Rattle.soname_links.specs.Marks.{mixed_among}
use Rattle.soname_links.specs.Survey.{bests_at, mixed_at, mixed_sonames}

made_twice : {X Y Z : Type 0} (f : Y → Z) (g : X → Y) (xs : List X) → map f (map g xs) ≡ map (λ x. f (g x)) xs
made_twice f g [] = refl
made_twice f g (x ∷ xs) = ap (λ zs. f (g x) ∷ zs) (made_twice f g xs)

-- if the table has the places' files and no others
module _ (table : Rows) (places : List Place) (folders : List (List ℕ)) (rows : List ℕ) (have : HaveRows (reals places) folders rows)
    (libraries : List (List Library)) (found : libraries ≡ map (libraries_among table) folders)
    (t : Nodes) (tree : IsTree t) (are : AreOfPlaces t places table) where
  each_of : {Y : Type 0} (f : List Library → Y) (items : List Y) → items ≡ map f libraries → items ≡ map (λ folder. f (libraries_at (analysis_at table) t folder)) folders
  each_of f items e =
      e ∙ ap (map f) (found ∙ all_libraries t tree places table are folders rows have) ∙ made_twice f (libraries_at (analysis_at table) t) folders

  pub bests_once : (items : List (List Library)) → items ≡ map bests libraries → taken items rows ≡ map (bests_in (analysis_at table) t) places
  bests_once items e = made_shared (bests_at (analysis_at table) t) places folders rows items have (each_of bests items e)

  pub mixed_once : (items : List (List (List ℕ))) → items ≡ map mixed_among libraries → taken items rows ≡ map (mixed_sonames (analysis_at table) t) places
  mixed_once items e = made_shared (mixed_at (analysis_at table) t) places folders rows items have (each_of mixed_among items e)
