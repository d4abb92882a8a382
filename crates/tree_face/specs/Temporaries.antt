-- The temporary files of a slot in memory.
use Rattle.std.specs.Prelude.{◌≡◌, ◌==◌, ℕ, Bool, false, Option}
use Rattle.std.specs.BTreeMap.{get}
use Rattle.std.specs.Option.{option_map, option_map_or}
use Rattle.std.specs.Ordering.{nat_cmp}
use Rattle.tree_face.specs.declared.memory.temporaries.Temporaries.{Temporaries}
use Rattle.tree_face.specs.declared.memory.temporaries.Temporary.{Temporary}
use Rattle.tree_face.specs.Disk.{Content}

abbrev pub bytes_of : Option Temporary → Content
bytes_of file = option_map (λ f. f.bytes.items) file

abbrev pub is_synced : Option Temporary → Bool
is_synced file = option_map_or (λ f. f.synced) file false

-- the temporary file of a tag
abbrev pub file_in : Temporaries → ℕ → Option Temporary
file_in f tag = get nat_cmp f.files tag

abbrev pub temporary_in : Temporaries → ℕ → Content
temporary_in f tag = bytes_of (file_in f tag)

abbrev pub synced_in : Temporaries → ℕ → Bool
synced_in f tag = is_synced (file_in f tag)

-- the temporary files of other tags stay
abbrev pub KeepsOtherTags : Temporaries → Temporaries → ℕ → Type 0
KeepsOtherTags old new tag = (t : ℕ) → (t == tag) ≡ false → file_in new t ≡ file_in old t

-- the temporary file of this tag stays
pub record KeepsTag (old new : Temporaries) (tag : ℕ) : Type 0 where
  pub bytes : temporary_in new tag ≡ temporary_in old tag
  pub synced : synced_in new tag ≡ synced_in old tag
