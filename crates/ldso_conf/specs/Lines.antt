-- The lines of a conf file (ldconfig(8)): directories, `include` and `hwcap`.
use Rattle.std.specs.Prelude.{ℕ, Bool, false, List, [], ◌∷◌, ◌==◌, not, nat_eq, if◌then◌else◌, filter, length, drop, Option, Some, None, codes}
use Rattle.std.specs.List.{before_first, slice_split, starts_with}
use Rattle.lib_types.specs.Sets.{is_in, line_feed, blanks, spaces, without_front, without_end}

abbrev pub hash : List ℕ
hash = codes "#"

abbrev pub lines_of : List ℕ → List (List ℕ)
lines_of content = slice_split (is_in line_feed) content

-- a line without its comment, and without white space at both ends
abbrev pub text_of : List ℕ → List ℕ
text_of line = without_end spaces (without_front spaces (before_first (is_in hash) line))

-- the words between the blanks
abbrev pub words_of : List ℕ → List (List ℕ)
words_of text = filter (λ word. not (length word == 0)) (slice_split (is_in blanks) text)

abbrev pub begins_in : List ℕ → List ℕ → Bool
begins_in set [] = false
begins_in set (b ∷ rest) = is_in set b

-- the text after a keyword, if a blank follows the keyword
abbrev pub if_blank_follows : List ℕ → Option (List ℕ)
if_blank_follows rest = if begins_in blanks rest then Some rest else None

abbrev pub arguments_of : List ℕ → List ℕ → Option (List ℕ)
arguments_of keyword text = if starts_with nat_eq text keyword then if_blank_follows (drop (length keyword) text) else None

abbrev pub include : List ℕ
include = codes "include"

abbrev pub hwcap : List ℕ
hwcap = codes "hwcap"

-- ---- a directory's text

abbrev pub equals : List ℕ
equals = codes "="

-- the text before the `=`, without its trailing blanks
abbrev pub before_equals : List ℕ → List ℕ
before_equals text = without_end blanks (before_first (is_in equals) text)
