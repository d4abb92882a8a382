-- A string table in which a string may be the end of another one. A string ends at its NUL, so an offset into the bytes of a longer
-- string is one of its ends (the key and the value of struct file_entry_new in glibc's dl-cache.h). The strings are a list of
-- different texts, in order of first use.
use Rattle.std.specs.Prelude.{ℕ, ◌+◌, ◌-◌, ◌&&◌, Bool, List, length, filter, nat_eq, not}
use Rattle.std.specs.List.{before_first, ends_with, find, list_any}
use Rattle.std.specs.Option.{unwrap_or}
use Rattle.std.specs.Str.{bytes_eq}
use Rattle.string_pool.specs.InOrder.{Strings, table_of}

-- a text is the end of another one
abbrev pub is_proper_end : List ℕ → List ℕ → Bool
is_proper_end end text = ends_with nat_eq text end && not (bytes_eq end text)

-- a text is written: it is not the end of another one
abbrev pub is_written : List (List ℕ) → List ℕ → Bool
is_written texts text = not (list_any (is_proper_end text) texts)

-- the written texts
abbrev pub written : List (List ℕ) → List (List ℕ)
written texts = filter (is_written texts) texts

-- the bytes of the table: the written texts, each with its NUL
abbrev pub shared_table : List (List ℕ) → List ℕ
shared_table texts = table_of (written texts)

-- a text ends in this one, or is the same
abbrev pub ends_in : List ℕ → List ℕ → Bool
ends_in end text = ends_with nat_eq text end

-- the first written text that ends in this one
abbrev pub first_ending_in : List (List ℕ) → List ℕ → List ℕ
first_ending_in texts text = unwrap_or (find (ends_in text) (written texts)) text

-- the offset of a text in the table: where its end starts in the first written text that ends in it
abbrev pub shared_offset : List (List ℕ) → List ℕ → ℕ
shared_offset texts text =
    length (table_of (before_first (ends_in text) (written texts))) + (length (first_ending_in texts text) - length text)

-- the offset of a text in the file
abbrev pub shared_place : Strings → List ℕ → ℕ
shared_place strings text = strings.base + shared_offset strings.texts text
