-- Which files are terminals (pts(4), tty(4), console(4)).
use Rattle.std.specs.Prelude.{ℕ, Bool, ◌||◌, List, codes, nat_eq}
use Rattle.std.specs.List.{starts_with}
use Rattle.std.specs.Str.{bytes_eq}

-- the path of a terminal's device
abbrev pub is_terminal : List ℕ → Bool
is_terminal path = starts_with nat_eq path (codes "/dev/pts/") || (starts_with nat_eq path (codes "/dev/tty") || bytes_eq path (codes "/dev/console"))
