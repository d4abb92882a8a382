-- Failed searches, for each possible result of a complete search.
use Rattle.std.proofs.Common.{◌≡◌, Err, refl}
use Rattle.tree_face.proofs.StoreUse.{IsPartial}
use Rattle.rpath_search.specs.Faults.{search_ending}
use Rattle.rpath_search.specs.declared.fault.SearchFault.{SearchFault}
use Rattle.rpath_search.specs.declared.fault.SearchFault.TheVariants.{StoreFault, NoMemory}

pub ending_same : (A B : Type 0) (fault : SearchFault) → search_ending {A = A} (Err fault) ≡ search_ending {A = B} (Err fault)
ending_same A B StoreFault = refl
ending_same A B NoMemory = refl

pub is_partial : (A : Type 0) (fault : SearchFault) → IsPartial (search_ending {A = A} (Err fault))
is_partial A StoreFault = tt
is_partial A NoMemory = tt
