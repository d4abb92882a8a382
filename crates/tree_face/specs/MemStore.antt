-- The state of a store in memory that fails on demand and records the keys of the files that were opened.
use Rattle.std.specs.Prelude.{ℕ, List, Some}
use Rattle.tree_face.specs.declared.memory.stores.MemStore.{MemStore}
use Rattle.tree_face.specs.SureStore.{state_of}
use Rattle.tree_face.specs.Store.{StoreState}

abbrev pub keys_of : MemStore → List (List ℕ)
keys_of s = s.keys

abbrev pub failing_state_of : MemStore → StoreState
failing_state_of s = record (state_of s.store) { faults = s.failures.faults; keys = Some (keys_of s) }
