-- The contracts of private functions about files without ELF information that links resolve to.
use Rattle.std.specs.Prelude.{ℕ, List, if◌then◌else◌, Option, Some, None}
use Rattle.std.specs.List.{filter_map}
use Rattle.std.specs.Option.{is_none, option_and_then}
use Rattle.file_table.specs.Analyses.{Analyses}
use Rattle.library_files.specs.Link.{FollowedLink}
use Rattle.library_files.specs.declared.links.FolderLinks.{FolderLinks}

-- the file that a link resolves to, if it has no ELF information
abbrev pub unread_file : Analyses → FollowedLink → Option (List ℕ)
unread_file what link = option_and_then (λ file. if is_none (what file) then Some file else None) link.file

abbrev pub unread_of : Analyses → FolderLinks → List (List ℕ)
unread_of what folder = filter_map (unread_file what) folder.links
