-- The fields of identities have 64 bits each.
use Rattle.std.specs.Prelude.{ℕ, ◌<◌, ◌^◌, List}
use Rattle.std.specs.List.{All}
use Rattle.aux_cache.specs.declared.stamps.Stamp.{Stamp}

pub record AreNumbers (inode ctime size dev : ℕ) : Type 0 where
  pub inode_fits : inode < 2 ^ 64
  pub ctime_fits : ctime < 2 ^ 64
  pub size_fits : size < 2 ^ 64
  pub dev_fits : dev < 2 ^ 64

abbrev pub IsInRange : Stamp → Type 0
IsInRange stamp = AreNumbers stamp.id.inode stamp.id.ctime stamp.id.size stamp.id.dev

abbrev pub AreInRange : List Stamp → Type 0
AreInRange stamps = All IsInRange stamps
