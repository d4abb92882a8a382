-- How much of an image's files is read, and the mode and owner of new files.
use Rattle.std.specs.Prelude.{◌≡◌, ⊤, ℕ, ◌+◌, ◌-◌, Bool, true, Option, Some, None, min, bit_and, nat_le, nat_lt, ◌==◌, if◌then◌else◌}
use Rattle.tree_face.specs.declared.disk.Slot.{Slot}
use Rattle.tree_face.specs.declared.disk.Slot.TheVariants.{Manifest, Cache, Aux}
use Rattle.device_rules.specs.declared.existing.Stamp.{Stamp}
use Rattle.device_rules.specs.declared.existing.Owner.{Owner}
use Rattle.device_rules.specs.declared.existing.TheConstants.{CACHE_MAX, LENGTH_MAX, NO_CACHE}
use Rattle.mtree_manifest.specs.declared.fault.TheConstants.{MANIFEST_MAX}

-- a longer file isn't read
abbrev pub largest : Slot → ℕ
largest Cache = CACHE_MAX
largest _ = LENGTH_MAX

-- The number of bytes to read of a file of this length. `is_cache` says whether the file begins like a cache. Of a manifest that is too
-- long, and of a file that is not a cache, only enough is read to show that.
abbrev pub length_to_read : Slot → Bool → ℕ → Option ℕ
length_to_read slot is_cache size = if nat_lt (largest slot) size then None else Some (most_of slot is_cache size)
  where
    most_of : Slot → Bool → ℕ → ℕ
    most_of Manifest _ n = min n (MANIFEST_MAX + 1)
    most_of Cache is_cache n = if is_cache then n else min n NO_CACHE
    most_of Aux _ n = n

-- the mode of a new file: everybody may read the cache; any other file keeps the mode of the file that it replaces
abbrev pub mode_of : Slot → Option ℕ → ℕ
mode_of Cache _ = 0o644
mode_of _ None = 0o644
mode_of _ (Some mode) = bit_and mode 0o777

-- root gives a new file the owner of the file that it replaces
abbrev pub owner_to_give : Owner → Option Owner → Option Owner
owner_to_give made None = None
owner_to_give made (Some existing) = if made.user == 0 then Some existing else None

-- the file is still the one that was read, or it was not read at all
abbrev pub IsAsRead : Option (Option Stamp) → Option Stamp → Type 0
IsAsRead None now = ⊤
IsAsRead (Some read) now = now ≡ read

-- `more` bytes can be added to a file of this length without passing the limit, if there is one
abbrev pub has_room : Option ℕ → ℕ → ℕ → Bool
has_room None length more = true
has_room (Some limit) length more = nat_le more (limit - length)
