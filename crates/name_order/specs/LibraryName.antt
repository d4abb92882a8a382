-- The file names of libraries: the forms `lib*.so*` and `ld-*.so*` of ldconfig(8), except the names that a package tool gives a file
-- while it writes the file.
use Rattle.std.specs.Prelude.{ℕ, Bool, ◌&&◌, ◌||◌, not, List, [], ◌∷◌, nat_eq, ◌==◌, codes}
use Rattle.std.specs.Str.{byte}
use Rattle.std.specs.List.{starts_with, ends_with, list_any}

-- the text occurs in the bytes
abbrev pub contains : List ℕ → List ℕ → Bool
contains text [] = starts_with nat_eq [] text
contains text (b ∷ rest) = starts_with nat_eq (b ∷ rest) text || contains text rest

abbrev pub has_library_prefix : List ℕ → Bool
has_library_prefix name = starts_with nat_eq name (codes "lib") || starts_with nat_eq name (codes "ld-")

-- the suffixes that dpkg and prelink give a file until they rename it
abbrev pub has_temporary_suffix : List ℕ → Bool
has_temporary_suffix name =
    (ends_with nat_eq name (codes ".dpkg-new") || ends_with nat_eq name (codes ".dpkg-tmp")) || ends_with nat_eq name (codes ".#prelink#")

-- rpm gives a file a name with a semicolon until it renames the file
unfoldable pub is_library_name : List ℕ → Bool
is_library_name name =
    ((has_library_prefix name && contains (codes ".so") name) && not (list_any (λ c. c == byte ";") name)) && not (has_temporary_suffix name)
