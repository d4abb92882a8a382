-- Stamps whose sonames are gathered.
use Rattle.std.specs.Prelude.{◌≡◌, ℕ, true, List, bytes_eq}
use Rattle.std.specs.List.{list_any}
use Rattle.string_pool.specs.Texts.{number_of}
use Rattle.aux_cache.specs.AuxText.{soname_of}
use Rattle.aux_cache.specs.declared.numbers.NumberedStamp.{NumberedStamp}

-- the stamp's soname is among these strings, and this is its index
pub record HasNumber (texts : List (List ℕ)) (numbered : NumberedStamp) : Type 0 where
  pub among : list_any (bytes_eq (soname_of numbered.stamp.now)) texts ≡ true
  pub number : numbered.soname ≡ number_of texts (soname_of numbered.stamp.now)
