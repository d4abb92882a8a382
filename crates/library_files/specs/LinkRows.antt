-- Links whose names, targets and resolved paths are parts of one text.
use Rattle.std.specs.Prelude.{ℕ, List, option_map}
use Rattle.std.specs.List.{AllByRecursion}
use Rattle.std.specs.Option.{ForSome}
use Rattle.library_files.specs.Link.{FollowedLink}
use Rattle.lib_types.specs.Part.{part_of, IsWithin}
use Rattle.library_files.specs.declared.followed.LinkRow.{LinkRow}

abbrev pub link_in : List ℕ → LinkRow → FollowedLink
link_in text row = record { name = part_of text row.name; target = part_of text row.target; file = option_map (part_of text) row.file }

-- the parts of the row are within a text of `count` bytes
abbrev pub IsLinkWithin : ℕ → LinkRow → Type 0
IsLinkWithin count row = IsWithin count row.name × (IsWithin count row.target × ForSome row.file (IsWithin count))

abbrev pub AreLinksWithin : ℕ → List LinkRow → Type 0
AreLinksWithin count rows = AllByRecursion (IsLinkWithin count) rows
