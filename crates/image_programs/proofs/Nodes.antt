-- The nodes of a tree, one after another.
use Rattle.std.proofs.Common.{◌≡◌, ◌++◌, ◌∷◌, [], ℕ, true, false, List, Option, Some, None, Err, append_assoc, ap, sym, subst, ◌∙◌}
use Rattle.std.proofs.lemmas.List.{append-nil}
use Rattle.elf_dynamic.proofs.BegunKeys.{keys_early, keys_then}
use Rattle.elf_dynamic.specs.Begun.{ReadsBy}
use Rattle.image_programs.specs.Programs.{image_programs, is_program_file, path_if_program}
use Rattle.image_tree.specs.Tree.{Nodes}
use Rattle.image_tree.specs.declared.node.Node.{Node}
use Rattle.lib_types.proofs.SortedPairs.{by_test}
use Rattle.rpath_search.specs.Faults.{search_ending}
use Rattle.rpath_search.specs.declared.fault.SearchFault.{SearchFault}
use Rattle.rpath_search.specs.declared.fault.SearchFault.TheVariants.{StoreFault, NoMemory}
use Rattle.tree_face.proofs.StoreUse.{IsPartial, reads_none}
use Rattle.tree_face.specs.Known.{IfKnown}
use Rattle.tree_face.specs.Store.{Contents, StoreState}
use Rattle.tree_face.specs.StoreUse.{Complete}

-- ---- the paths

module _ (path : List ℕ) (node : Node) (rest all : Nodes) (met new : List (List ℕ)) where
  added : (held : Contents) → new ≡ met ++ path_if_program held path node → met ++ image_programs held ((path, node) ∷ rest) ≡ image_programs held all
      → new ++ image_programs held rest ≡ image_programs held all
  added held is so_far = by_test (is_program_file held node)
      (λ yes. ap (λ l. l ++ image_programs held rest) (rw yes at is) ∙ append_assoc met (path ∷ []) (image_programs held rest) ∙ (rw yes at so_far))
      (λ no. ap (λ l. l ++ image_programs held rest) ((rw no at is) ∙ append-nil met) ∙ (rw no at so_far))

  pub one_more_path : (known : Option Contents) → IfKnown known (λ held. new ≡ met ++ path_if_program held path node)
      → IfKnown known (λ held. met ++ image_programs held ((path, node) ∷ rest) ≡ image_programs held all) → IfKnown known (λ held. new ++ image_programs held rest ≡ image_programs held all)
  one_more_path None is so_far = tt
  one_more_path (Some held) is so_far = added held is so_far

-- no node is left
pub all_paths : (all left : Nodes) (met : List (List ℕ)) (known : Option Contents) → left ≡ []
    → IfKnown known (λ held. met ++ image_programs held left ≡ image_programs held all) → IfKnown known (λ held. met ≡ image_programs held all)
all_paths all left met None none so_far = tt
all_paths all left met (Some held) none so_far = sym (append-nil met) ∙ sym (ap (λ l. met ++ image_programs held l) none) ∙ so_far

-- ---- no file is opened

pub nothing : (known : Option Contents) (s : StoreState) → ReadsBy known [] Complete s s
nothing None s = reads_none _ _ s
nothing (Some held) s = reads_none _ _ s

pub none_left : (known : Option Contents) (keys : List (List ℕ)) (s : StoreState) → keys ≡ [] → ReadsBy known keys Complete s s
none_left known keys s none = subst (λ (ks : List (List ℕ)). ReadsBy known ks Complete s s) (sym none) (nothing known s)

-- a fault ends the call
pub partial : (fault : SearchFault) → IsPartial (search_ending {A = Unit {0}} (Err fault))
partial StoreFault = tt
partial NoMemory = tt
