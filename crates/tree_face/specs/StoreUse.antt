-- What a call that reads files does with a store.
use Rattle.std.specs.Prelude.{◌≡◌, ◌⊎◌, ◌≤◌, ℕ, List, length, Option, IfSome}
use Rattle.lib_types.specs.Counts.{raised, HasRisen}
use Rattle.tree_face.specs.Follows.{IsFollowedBy, IsFollowedByPart}
use Rattle.tree_face.specs.Known.{Relates}
use Rattle.tree_face.specs.Store.{StoreState}

-- how the call ends
pub data Ending : Type 0 where
  -- the files were read
  Complete : Ending
  -- the store failed, or it doesn't hold a file
  DeviceFailed : Ending
  -- it is out of memory
  GaveUp : Ending

-- the files with all of these keys are opened, or with a prefix of the keys if the call doesn't read all files
abbrev pub BeginsKeys : Ending → List (List ℕ) → List (List ℕ) → List (List ℕ) → Type 0
BeginsKeys Complete keys = IsFollowedBy keys
BeginsKeys DeviceFailed keys = IsFollowedByPart keys
BeginsKeys GaveUp keys = IsFollowedByPart keys

-- The count of faults rises only if the call ends with DeviceFailed. It ends so if the count rises, or if the store doesn't hold a file.
abbrev pub HasCause : Type 0 → Ending → ℕ → ℕ → Type 0
HasCause lacks Complete before after = after ≡ before
HasCause lacks DeviceFailed before after = HasRisen before after ⊎ lacks
HasCause lacks GaveUp before after = after ≡ before

-- if `keys` is known, the call opens the files with these keys in order; if `most` is known, it reads at most that many bytes
pub record ReadsFiles (lacks : Type 0) (keys : Option (List (List ℕ))) (most : Option ℕ) (ending : Ending) (old new : StoreState) : Type 0 where
  pub held : new.held ≡ old.held
  pub begins : IfSome keys (λ keys. Relates (BeginsKeys ending keys) old.keys new.keys)
  pub begun : IfSome keys (λ keys. new.begun ≤ raised old.begun (length keys))
  pub begun_before : old.begun ≤ new.begun
  pub taken : IfSome most (λ n. new.taken ≤ raised old.taken n)
  pub taken_before : old.taken ≤ new.taken
  pub faults : old.faults ≤ new.faults
  pub cause : HasCause lacks ending old.faults new.faults
