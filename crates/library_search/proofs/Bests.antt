-- The best libraries stay the same after links are put and more files are read.
use Rattle.std.proofs.Common.{◌≡◌, true, cond, List, [], ◌∷◌, map, refl, ap, sym, subst, ◌∙◌, Option, Some, None}
use Rattle.std.specs.Option.{is_none, is_some}
use Rattle.file_stamps.specs.Files.{AreRead}
use Rattle.elf_dynamic.specs.Begun.{key_in}
use Rattle.hwcap_dirs.specs.declared.kinds.Place.{Place}
use Rattle.lib_types.specs.declared.analysis.Analysis.{Analysis}
use Rattle.place_libraries.proofs.NoOtherFiles.{bests_stay}
use Rattle.library_files.proofs.WantedFiles.{wanted_are_files}
use Rattle.library_files.proofs.Children.{file_there}
use Rattle.file_table.specs.Analyses.{Analyses, HaveAnalyses, KeepsAnalyses}
use Rattle.place_libraries.specs.Best.{bests, bests_of}
use Rattle.library_files.specs.Children.{is_file_node}
use Rattle.place_libraries.specs.Libraries.{libraries_in}
use Rattle.place_libraries.specs.Library.{Library}
use Rattle.library_files.specs.Search.{wanted}
use Rattle.soname_links.specs.Settled.{IsSettled}
use Rattle.image_tree.specs.declared.node.Node.{Node}
use Rattle.image_tree.specs.declared.node.Node.TheVariants as node
use Rattle.image_tree.specs.Tree.{Nodes, IsTree, node_at}

-- a file that isn't left unread has an analysis
has_analysis : (o : Option Node) (a : Option Analysis) → is_file_node o ≡ true → cond (is_none a) (key_in o) None ≡ None → is_some a ≡ true
has_analysis None a file read = absurd (cc)
has_analysis (Some node.Dir) a file read = absurd (cc)
has_analysis (Some (node.Link target)) a file read = absurd (cc)
has_analysis (Some (node.File key id)) None file read = absurd (cc)
has_analysis (Some (node.File key id)) (Some analysis) file read = refl

pub wanted_read : (t : Nodes) → IsTree t → (what : Analyses) (places : List Place) → AreRead t what (wanted t places) → HaveAnalyses what (wanted t places)
wanted_read t tree what places read path there =
    has_analysis (node_at t path) (what path) (sym (file_there t tree path) ∙ wanted_are_files t places path there) (read path there)

each_of : {X : Type 0} (f : X → List Library) (places : List X) → map bests (map f places) ≡ map (λ place. bests (f place)) places
each_of f [] = refl
each_of f (place ∷ places) = ap (λ rest. bests (f place) ∷ rest) (each_of f places)

module _ (t new : Nodes) (what after : Analyses) (places : List Place) (still : IsSettled what t places new) where
  in_both : bests_of what t places ≡ bests_of what new places
  unfolding bests_of
  in_both = sym (each_of (libraries_in what t) places) ∙ ap (map bests) (sym still.libraries) ∙ each_of (libraries_in what new) places

  pub bests_kept : (found : List (List Library)) → found ≡ bests_of what t places → HaveAnalyses what (wanted t places) → KeepsAnalyses what after → found ≡ bests_of after new places
  bests_kept found is read keeps = is ∙ in_both ∙ sym (bests_stay new what after keeps places (subst (HaveAnalyses what) (sym still.files) read))
