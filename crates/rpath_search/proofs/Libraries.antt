-- The ELF information of a file shows whether the file is a library, in agreement with the file's analysis.
use Rattle.std.proofs.Common.{◌≡◌, ℕ, Bool, true, false, cond, List, [], ◌∷◌, Option, Some, None, is_some, Result, Ok, Err, refl, ap, sym, ◌∙◌}
use Rattle.std.specs.Option.{option_and_then, option_map_or}
use Rattle.std.specs.Prelude.{IsSomeAnd}
use Rattle.lib_types.specs.declared.abi.Abi.{Abi}
use Rattle.lib_types.specs.declared.analysis.Defect.{Defect}
use Rattle.tree_face.specs.Known.{IfKnown}
use Rattle.tree_face.specs.Store.{Contents}
use Rattle.image_tree.specs.Tree.{Nodes, node_at}
use Rattle.path_walk.specs.Files.{file_at}
use Rattle.elf_headers.specs.Reading.{OfContent}
use Rattle.elf_dynamic.proofs.Objects.{analysis_bad, analysis_ok}
use Rattle.elf_dynamic.specs.Analysis.{analysis}
use Rattle.elf_dynamic.specs.Object.{object}
use Rattle.elf_dynamic.specs.declared.kinds.Object.{Object}
use Rattle.elf_dynamic.specs.Begun.{file_keys, key_in}
use Rattle.rpath_search.specs.Search.{is_good, is_library, is_library_at, is_library_of, library_at, library_by}
use Rattle.rpath_search.specs.Searching.{Tries, is_among, keys_next_to}
use Rattle.rpath_search.specs.declared.kinds.Found.{Found}
use Rattle.rpath_search.specs.declared.search.Answer.TheVariants as answer

module _ (abi : Abi) (bytes : List ℕ) where
  library_is : (o : Object) → object bytes ≡ Ok o → library_by abi bytes ≡ cond (is_library abi o) (Some o) None
  library_is o e = rw (analysis_ok bytes o e, e) refl

  no_library : (d : Defect) → object bytes ≡ Err d → library_by abi bytes ≡ None
  no_library d e = rw (analysis_bad bytes d e) refl

  either : (r : Result Object Defect) → object bytes ≡ r → is_some (library_by abi bytes) ≡ is_library_of abi (analysis bytes)
  either (Ok o) e = ap is_some (library_is o e) ∙ elim (is_library abi o) as (λ b. is_some (cond b (Some o) None) ≡ b) [ true ↦ refl | false ↦ refl ] ∙ ap (is_library_of abi) (sym (analysis_ok bytes o e))
  either (Err d) e = ap is_some (no_library d e) ∙ ap (is_library_of abi) (sym (analysis_bad bytes d e))

  pub is_either : is_some (library_by abi bytes) ≡ is_library_of abi (analysis bytes)
  is_either = either (object bytes) refl

-- the file at a path is a library if the path has a library's ELF information
pub by_object : (held : Contents) (t : Nodes) (abi : Abi) (real : List ℕ) → is_library_at held t abi real ≡ is_some (library_at held t abi real)
by_object held t abi real =
    elim (option_and_then held (key_in (node_at t real))) as (λ content. option_map_or (λ bytes. is_library_of abi (analysis bytes)) content false ≡ is_some (option_and_then (library_by abi) content))
    [ None ↦ refl | Some bytes ↦ sym (is_either abi bytes) ]

pub is_one : (held : Contents) (t : Nodes) (abi : Abi) (real : List ℕ) (o : Object) → library_at held t abi real ≡ Some o → is_library_at held t abi real ≡ true
is_one held t abi real o same = by_object held t abi real ∙ ap is_some same

-- ---- the file at a path without links

module _ (t : Nodes) (abi : Abi) (real key : List ℕ) (there : key_in (node_at t real) ≡ Some key) where
  by_content : (held : Contents) → library_at held t abi real ≡ option_and_then (library_by abi) (held key)
  by_content held = ap (λ k. option_and_then (library_by abi) (option_and_then held k)) there

  pub object_there : (known : Option Contents) (o : Object) (b : Bool) → is_library abi o ≡ b → OfContent known key (λ bytes. object bytes ≡ Ok o)
      → IfKnown known (λ held. cond b (Some o) None ≡ library_at held t abi real)
  object_there None o b is content = tt
  object_there (Some held) o b is content = sym (by_content held
      ∙ elim (held key) as (λ c. IsSomeAnd c (λ bytes. object bytes ≡ Ok o) → option_and_then (library_by abi) c ≡ cond b (Some o) None)
      [ None ↦ λ h. absurd h | Some bytes ↦ λ h. library_is abi bytes o h ∙ ap (λ b. cond b (Some o) None) is ] content)

-- ---- the file to which a path leads

-- the key of the file, if the file isn't loaded
pub new_keys : (t : Nodes) (places : List (List ℕ)) (path real : List ℕ) → file_at t path ≡ Some real → is_among places real ≡ false →
    keys_next_to t places (path ∷ []) ≡ file_keys t (real ∷ [])
new_keys t places path real leads new = rw (leads, new) refl

module _ (known : Option Contents) (t : Nodes) (abi : Abi) (places : List (List ℕ)) where
  good_at : (held : Contents) (path real : List ℕ) → file_at t path ≡ Some real → is_good held t abi path ≡ is_some (library_at held t abi real)
  good_at held path real leads = ap (λ file. option_map_or (is_library_at held t abi) file false) leads ∙ by_object held t abi real

  -- the file is a library of the ABI
  pub new_tries : (f : Found) → file_at t f.path ≡ Some f.real → IfKnown known (λ held. Some f.object ≡ library_at held t abi f.real) →
      IfKnown known (λ held. Tries held t abi places f.path (Some (answer.New f)))
  new_tries f leads object = elim known as (λ k. IfKnown k (λ held. Some f.object ≡ library_at held t abi f.real) → IfKnown k (λ held. Tries held t abi places f.path (Some (answer.New f))))
      [ None ↦ λ o. tt | Some held ↦ λ o. (good_at held f.path f.real leads ∙ ap is_some (sym o), record { here = refl; object = sym o }) ] object

  -- the file isn't a library of the ABI
  pub none_tries : (path real : List ℕ) → file_at t path ≡ Some real → IfKnown known (λ held. None ≡ library_at held t abi real) → IfKnown known (λ held. Tries held t abi places path None)
  none_tries path real leads object = elim known as (λ k. IfKnown k (λ held. None ≡ library_at held t abi real) → IfKnown k (λ held. Tries held t abi places path None))
      [ None ↦ λ o. tt | Some held ↦ λ o. good_at held path real leads ∙ ap is_some (sym o) ] object
