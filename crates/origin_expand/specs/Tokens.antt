-- The tokens in the loader's paths (ld.so(8), "Dynamic string tokens"): `$ORIGIN`, `$LIB` and `$PLATFORM`, each also in braces.
-- No token contains a dollar, so each part of a text between its dollars is parsed separately.
use Rattle.std.specs.Prelude.{ℕ, Bool, true, false, ◌==◌, ◌&&◌, ◌||◌, nat_eq, if◌then◌else◌, List, [], ◌∷◌, ◌++◌, length, drop, flat_map, codes, Option, Some, None, option_map}
use Rattle.std.specs.Char.{is_ascii_alphanumeric}
use Rattle.std.specs.List.{list_any, slice_split, starts_with, take_while}
use Rattle.std.specs.Option.{option_map_or, option_or}
use Rattle.std.specs.Str.{bytes_eq}
use Rattle.origin_expand.specs.declared.token.Token.{Token}
use Rattle.origin_expand.specs.declared.token.Token.TheVariants.{Origin, Lib, Platform}

-- ---- names of tokens

abbrev pub name_of : Token → List ℕ
name_of Origin = codes "ORIGIN"
name_of Lib = codes "LIB"
name_of Platform = codes "PLATFORM"

abbrev pub in_braces : Token → List ℕ
in_braces token = codes "{" ++ name_of token ++ codes "}"

-- letters, digits and `_`
abbrev pub is_in_name : ℕ → Bool
is_in_name b = is_ascii_alphanumeric b || b == 95

-- The rest of a part after a token at its front. Without braces, the longest run of letters, digits and `_` must be the token's name.
abbrev pub following : List ℕ → Token → Option (List ℕ)
following part token =
    if bytes_eq (take_while is_in_name part) (name_of token) then Some (drop (length (name_of token)) part) else
    if starts_with nat_eq part (in_braces token) then Some (drop (length (in_braces token)) part) else
    None

abbrev pub read : List ℕ → Token → Option (Token × List ℕ)
read part token = option_map (λ rest. (token, rest)) (following part token)

-- the token at the front of a part, and the rest of the part
abbrev pub token_in : List ℕ → Option (Token × List ℕ)
token_in part = option_or (read part Origin) (option_or (read part Lib) (read part Platform))

-- ---- values of tokens

-- the object's directory, the ABI's library directory, the processor's name
abbrev pub value_of : List ℕ → List ℕ → List ℕ → Token → List ℕ
value_of origin lib platform Origin = origin
value_of origin lib platform Lib = lib
value_of origin lib platform Platform = platform

abbrev pub dollar : ℕ
dollar = 36

abbrev pub is_dollar : ℕ → Bool
is_dollar b = b == dollar

-- replaces a token by its value; a dollar without a token stays
abbrev pub with_value : (Token → List ℕ) → List ℕ → Option (Token × List ℕ) → List ℕ
with_value value part (Some (token, rest)) = value token ++ rest
with_value value part None = dollar ∷ part

abbrev pub replaced : (Token → List ℕ) → List ℕ → List ℕ
replaced value part = with_value value part (token_in part)

-- joins the parts: the first one follows no dollar, each other one follows a dollar
abbrev pub join_replaced : (Token → List ℕ) → List (List ℕ) → List ℕ
join_replaced value [] = []
join_replaced value (front ∷ parts) = front ++ flat_map (replaced value) parts

abbrev pub is_origin : Token → Bool
is_origin Origin = true
is_origin Lib = false
is_origin Platform = false

abbrev pub begins_with_origin : List ℕ → Bool
begins_with_origin part = option_map_or (λ found. is_origin found.0) (token_in part) false

abbrev pub has_origin_in : List (List ℕ) → Bool
has_origin_in [] = false
has_origin_in (front ∷ parts) = list_any begins_with_origin parts

-- the text contains `$ORIGIN`
unfoldable pub has_origin : List ℕ → Bool
has_origin text = has_origin_in (slice_split is_dollar text)

-- The text with its tokens replaced by their values. In secure execution a text with `$ORIGIN` has no result.
unfoldable pub expanded : (Token → List ℕ) → Bool → List ℕ → Option (List ℕ)
expanded value secure text = if secure && has_origin text then None else Some (join_replaced value (slice_split is_dollar text))
