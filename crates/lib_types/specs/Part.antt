-- Bytes that are a part of a longer text.
use Rattle.std.specs.Prelude.{◌≡◌, ◌≤◌, ◌++◌, ◌-◌, ℕ, List, drop, take}
use Rattle.lib_types.specs.declared.part.Part.{Part}

abbrev pub part_of : List ℕ → Part → List ℕ
part_of text part = take (part.to - part.from) (drop part.from text)

-- the part is within a text of `count` bytes
abbrev pub IsWithin : ℕ → Part → Type 0
IsWithin count part = (part.from ≤ part.to) × (part.to ≤ count)

-- the new text is the old one with bytes appended
abbrev pub IsLonger : List ℕ → List ℕ → Type 0
IsLonger old new = (more : List ℕ) × (new ≡ old ++ more)
