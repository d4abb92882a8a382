-- The entries of a written cache when they are read back.
use Rattle.std.specs.Prelude.{ℕ, List, pos}
use Rattle.lib_types.specs.Abi.{flags_of}
use Rattle.lib_types.specs.declared.entry.Entry.{Entry}
use Rattle.cache_reader.specs.Cache.{CachedEntry}
use Rattle.cache_writer.specs.CacheText.{hwcap_of}

-- an entry when it is read back, if these are the hwcaps names
abbrev pub as_read : List (List ℕ) → Entry → CachedEntry
as_read names entry = record {
  flags = pos (flags_of entry.abi);
  name = entry.soname;
  path = entry.path;
  hwcap = hwcap_of names entry.cap;
  cap = entry.cap;
}
