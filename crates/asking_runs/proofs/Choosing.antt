-- The programs that are listed.
use Rattle.std.proofs.Common.{◌≡◌, ◌≤◌, ℕ, false, List, Option, Some, None, Result, Ok, Err, ap, arith, subst}
use Rattle.elf_dynamic.specs.Begun.{ReadsBy, lacks_one}
use Rattle.image_programs.specs.Programs.{image_programs, node_keys}
use Rattle.image_tree.specs.Tree.{Nodes}
use Rattle.lib_types.specs.Counts.{HasRisen}
use Rattle.rpath_search.specs.declared.fault.SearchFault.{SearchFault}
use Rattle.rpath_search.specs.declared.fault.SearchFault.TheVariants.{StoreFault}
use Rattle.tree_face.specs.Known.{IfKnown}
use Rattle.tree_face.specs.Store.{Contents, StoreState}
use Rattle.tree_face.specs.StoreUse.{DeviceFailed}
use Rattle.asking_runs.proofs.Listing.{lacking}
use Rattle.asking_runs.specs.Resolve.{Chooses, keys_in, paths_in}

module _ (tree : Nodes) where
  pub more_chosen : (asked : Option (List (List ℕ))) (paths : Result (List (List ℕ)) SearchFault) (a b : StoreState) → Chooses asked tree paths a b → a.faults ≤ b.faults
  more_chosen (Some given) paths a b is = rw is.1 (omega arith)
  more_chosen None paths a b finds = finds.reads.faults

  pub held_chosen : (asked : Option (List (List ℕ))) (paths : Result (List (List ℕ)) SearchFault) (a b : StoreState) → Chooses asked tree paths a b → b.held ≡ a.held
  held_chosen (Some given) paths a b is = ap (λ (s : StoreState). s.held) is.1
  held_chosen None paths a b finds = finds.reads.held

module _ (held : Contents) (tree : Nodes) where
  pub paths_are : (asked : Option (List (List ℕ))) (paths : List (List ℕ)) (a b : StoreState) → a.held ≡ Some held → Chooses asked tree (Ok paths) a b → paths ≡ paths_in asked held tree
  paths_are (Some given) paths a b known is = let same : Ok paths ≡ Ok given = is.0 in cc (same)
  paths_are None paths a b known finds = subst (λ (h : Option Contents). IfKnown h (λ held. paths ≡ image_programs held tree)) known finds.found

  -- if the store holds the files and doesn't fail, they are found
  pub all_chosen : (asked : Option (List (List ℕ))) → lacks_one held (keys_in asked tree) ≡ false → (a b : StoreState) → a.held ≡ Some held → (HasRisen a.faults b.faults → ⊥)
      → Chooses asked tree (Err StoreFault) a b → ⊥
  all_chosen (Some given) holds a b known none is = absurd (let wrong : Err StoreFault ≡ Ok given = is.0 in cc (wrong))
  all_chosen None holds a b known none finds =
      let reads = subst (λ (h : Option Contents). ReadsBy h (node_keys tree) DeviceFailed a b) known finds.reads in
      lacking held a.faults b.faults (node_keys tree) holds none reads.cause
