-- The contracts of private functions about the file that a link resolves to.
use Rattle.std.specs.Prelude.{ℕ, List}
use Rattle.library_files.specs.Link.{FollowedLink}
use Rattle.library_files.specs.declared.links.Led.{Led}

-- the link with this name, target and file
abbrev pub link_by : List ℕ → Led → FollowedLink
link_by name led = record { name = name; target = led.target.now; file = led.file }
