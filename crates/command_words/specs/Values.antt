-- What texts mean as values of arguments.
use Rattle.std.specs.Prelude.{◌==◌, ◌&&◌, ◌^◌, ℕ, Bool, not, List, length, filter, codes, Option, Some, None, if◌then◌else◌, nat_le, nat_lt}
use Rattle.std.specs.Char.{is_ascii_digit}
use Rattle.std.specs.List.{list_all, slice_split}
use Rattle.std.specs.Str.{byte, bytes_eq}
use Rattle.std.specs.Str.Parse.{digits_value}
use Rattle.image_tree.specs.declared.node.TheConstants.{NODE_TEXT_MAX}
use Rattle.command_words.specs.declared.values.TheConstants.{LAYERS_MAX}

-- `-` alone is not a value
abbrev pub is_value : List ℕ → Bool
is_value text = not (bytes_eq text (codes "-"))

-- what `clap` finds for a flag that is given
abbrev pub is_true : List ℕ → Bool
is_true text = bytes_eq text (codes "true")

-- the number of 1 to 5 decimal digits, below 2^16
abbrev pub number_in : List ℕ → Option ℕ
number_in text =
    if nat_le 1 (length text) && nat_le (length text) 5 && list_all is_ascii_digit text && nat_lt (digits_value 10 text) (2 ^ 16)
    then Some (digits_value 10 text) else None

-- the key of a manifest in the store
abbrev pub is_key : List ℕ → Bool
is_key text = nat_le 1 (length text) && nat_le (length text) NODE_TEXT_MAX

-- the keys of layers
abbrev pub are_keys : List (List ℕ) → Bool
are_keys texts = nat_le 1 (length texts) && nat_le (length texts) LAYERS_MAX && list_all is_key texts

abbrev pub is_colon : ℕ → Bool
is_colon code = code == byte ":"

abbrev pub is_cap : List ℕ → Bool
is_cap text = not (length text == 0)

-- the hwcaps names between colons, of which empty ones don't count
abbrev pub caps_in : List ℕ → List (List ℕ)
caps_in text = filter is_cap (slice_split is_colon text)
