-- Names of files: 1 to 255 bytes of UTF-8 without `/` and NUL, except `.` and `..` (path_resolution(7)).
use Rattle.std.specs.Prelude.{ℕ, Bool, List, nat_le, nat_lt, ◌==◌, ◌&&◌, ◌||◌, not, length, codes}
use Rattle.std.specs.List.{list_all}
use Rattle.std.specs.Str.{bytes_eq, is_utf8}
use Rattle.lib_types.specs.declared.name.TheConstants.{NAME_MAX}

abbrev pub slash : ℕ
slash = 47

-- no byte is a slash or a NUL
abbrev pub have_no_slash : List ℕ → Bool
have_no_slash = list_all (λ b. not (b == slash) && not (b == 0))

-- every byte is ASCII, and no byte is a slash or a NUL
abbrev pub is_plain_ascii : List ℕ → Bool
is_plain_ascii = list_all (λ b. not (b == slash) && not (b == 0) && nat_lt b 128)

-- the directory itself (`.`) or its parent (`..`)
abbrev pub are_dots : List ℕ → Bool
are_dots name = bytes_eq name (codes ".") || bytes_eq name (codes "..")

abbrev pub is_name : List ℕ → Bool
is_name name =
    nat_le 1 (length name)
    && nat_le (length name) NAME_MAX
    && not (are_dots name)
    && have_no_slash name
    && is_utf8 name
