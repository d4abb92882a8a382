-- The parts of a file that a view keeps, and the entries of a view.
use Rattle.std.specs.Prelude.{◌≡◌, ◌<◌, ◌^◌, ℕ, List, Option, None, option_map}
use Rattle.std.specs.Borrow.{Bor}
use Rattle.cache_reader.specs.declared.extension.Section.{Section}
use Rattle.cache_reader.specs.declared.view.EntryView.{EntryView}
use Rattle.cache_reader.specs.Cache.{CachedEntry, defect, nlibs, names_section, generator}

-- an accepted file, with its number of entries, the offsets of its hwcaps names, and its generator text
pub record IsView (bytes : List ℕ) (count : ℕ) (section : Option Section) (text : Option (Bor (List ℕ))) : Type 0 where
  pub accepted : defect bytes ≡ None
  pub entries : count ≡ nlibs bytes
  pub few : count < 2 ^ 32
  pub names : section ≡ names_section bytes
  pub made : option_map (λ t. t.now) text ≡ generator bytes

-- an entry as contracts see it
abbrev pub entry_of : EntryView → CachedEntry
entry_of e = record {
  flags = e.flags;
  name = e.name.now;
  path = e.path.now;
  hwcap = e.hwcap;
  cap = option_map (λ t. t.now) e.cap;
}
