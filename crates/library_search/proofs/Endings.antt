-- How the reading of files ends, derived from the errors of its parts.
use Rattle.std.proofs.Common.{◌≡◌, ℕ, true, false, List, Option, Err}
use Rattle.aux_cache.specs.declared.stamps.Stamp.{Stamp}
use Rattle.elf_dynamic.specs.Begun.{ReadsBy}
use Rattle.hwcap_dirs.specs.declared.kinds.Scope.{Scope}
use Rattle.ldso_conf.specs.declared.fault.ConfFault.{ConfFault}
use Rattle.ldso_conf.specs.declared.fault.ConfFault.TheVariants as conf
use Rattle.ldso_conf.specs.Endings.{ending_of}
use Rattle.tree_face.proofs.StoreUse.{IsPartial}
use Rattle.tree_face.specs.Known.{IfKnown}
use Rattle.tree_face.specs.Store.{Contents, StoreState}
use Rattle.tree_face.specs.StoreUse.{Ending, Complete, DeviceFailed, GaveUp}
use Rattle.image_tree.specs.Tree.{Nodes}
use Rattle.library_search.proofs.AnyStamps.{LacksOnly, search_any, update_any}
use Rattle.library_search.proofs.KeysBegun.{ConfBy, SearchBy, conf_part, search_part, then_keys, update_all}
use Rattle.library_search.specs.Begun.{lacks_wanted}
use Rattle.library_search.specs.declared.fault.FindFault.{FindFault}
use Rattle.library_search.specs.declared.fault.FindFault.TheVariants as finding
use Rattle.library_search.specs.Faults.{find_ending, is_store_fault, of_conf}
use Rattle.library_search.specs.Found.{ReadsFinding}

-- the conf files can't be read
pub conf_failed : (scope : Scope) (A B : Type 0) (t : Nodes) (loaded : List Stamp) (known : Option Contents) (fault : ConfFault) (a b : StoreState)
    → ConfBy scope t known (ending_of {A = A} (Err fault)) a b → SearchBy scope t loaded known (find_ending {A = B} (Err (of_conf fault))) a b
conf_failed scope A B t loaded known conf.StoreFault a b reads = conf_part scope t loaded DeviceFailed known a b tt reads
conf_failed scope A B t loaded known conf.NoMemory a b reads = conf_part scope t loaded GaveUp known a b tt reads

-- ---- the reading of an update

module _ (scope : Scope) (t : Nodes) (loaded : List Stamp) (a b : StoreState) where
  early : (e : Ending) → IsPartial e → SearchBy scope t loaded a.held e a b → ReadsFinding scope t loaded e a b
  early e partial reads = record { keys = search_part scope t loaded e a.held a b partial reads; any = search_any scope t loaded e a.held a b reads }

  -- the search fails
  pub search_failed : (A B : Type 0) (fault : FindFault) → is_store_fault fault ≡ true → SearchBy scope t loaded a.held (find_ending {A = A} (Err fault)) a b
      → ReadsFinding scope t loaded (find_ending {A = B} (Err fault)) a b
  search_failed A B finding.StoreFault is reads = early DeviceFailed tt reads
  search_failed A B finding.NoMemory is reads = early GaveUp tt reads
  search_failed A B (finding.TooLarge nodes) is reads = absurd (cc)

  -- the whole search, and then link targets
  pub found_reads : (e : Ending) (keys : List (List ℕ)) (c : StoreState) → IfKnown a.held (λ held. lacks_wanted scope held t loaded ≡ false)
      → IfKnown a.held (λ held. keys ≡ then_keys scope held t loaded) → IfKnown a.held (LacksOnly scope t keys)
      → SearchBy scope t loaded a.held Complete a b → ReadsBy a.held keys e b c → ReadsFinding scope t loaded e a c
  found_reads e keys c none are only first next = record {
    keys = update_all scope t loaded e a.held keys a b c none are first next;
    any = update_any scope t loaded e a.held keys a b c only first next;
  }
