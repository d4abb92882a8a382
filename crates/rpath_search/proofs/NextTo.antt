-- A search when no file is loaded.
use Rattle.std.proofs.Common.{◌≡◌, ℕ, not, List, [], ◌∷◌, filter, take, Option, refl, ap, subst}
use Rattle.lib_types.specs.declared.abi.Abi.{Abi}
use Rattle.tree_face.specs.Store.{Contents, StoreState}
use Rattle.tree_face.specs.StoreUse.{Ending}
use Rattle.image_tree.specs.Tree.{Nodes}
use Rattle.elf_dynamic.specs.Begun.{ReadsBy, file_keys}
use Rattle.rpath_search.specs.Search.{Searches, files_of}
use Rattle.rpath_search.specs.Searching.{SearchesNextTo, is_among}

none_out : (files : List (List ℕ)) → filter (λ real. not (is_among [] real)) files ≡ files
none_out [] = refl
none_out (real ∷ files) = ap (λ l. real ∷ l) (none_out files)

module _ (known : Option Contents) (t : Nodes) (abi : Abi) where
  pub searches_alone : (paths : List (List ℕ)) (e : Ending) (old new : StoreState) → SearchesNextTo known t abi [] paths e old new → Searches known t abi paths e old new
  searches_alone paths e old new s = record {
    count = s.count;
    begins = subst (λ files. ReadsBy known (file_keys t files) e old new) (none_out (files_of t (take s.count paths))) s.begins;
    exactly = s.exactly;
  }
