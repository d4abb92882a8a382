-- The keywords of a manifest's lines (mtree(5); `dev` and `ctime` are extensions of this product).
use Rattle.std.specs.Prelude.{ℕ, ◌+◌, ◌^◌, Bool, true, false, List, [], ◌∷◌, ◌==◌, ◌&&◌, not, nat_le, nat_lt, if◌then◌else◌, codes, length, take, drop, fold, position, Option, Some, None, is_some}
use Rattle.std.specs.List.{list_any, list_all}
use Rattle.std.specs.Char.{is_ascii_digit}
use Rattle.std.specs.Str.{byte, bytes_eq}
use Rattle.std.specs.Str.Parse.{digits_value}
use Rattle.image_tree.specs.Node.{has_no_nul, is_key}
use Rattle.image_tree.specs.declared.node.TheConstants.{NODE_TEXT_MAX}
use Rattle.manifest_words.specs.Escape.{decoded}
use Rattle.manifest_words.specs.declared.fault.LineKind.{LineKind}
use Rattle.manifest_words.specs.declared.fault.LineKind.TheVariants.{BadEscape, BadLine, BadNumber, BadType, NoTarget}
use Rattle.manifest_words.specs.declared.keys.Keyword.{Keyword}
use Rattle.manifest_words.specs.declared.keys.Keyword.TheVariants as keyword
use Rattle.manifest_words.specs.declared.keys.LineType.{LineType}
use Rattle.manifest_words.specs.declared.keys.LineType.TheVariants as types

-- ---- the first error of a line is reported

abbrev pub rank : LineKind → ℕ
rank BadEscape = 0
rank BadLine = 1
rank BadNumber = 2
rank BadType = 3
rank NoTarget = 4

-- of two errors, the error with the lower rank
abbrev pub first_fault : Option LineKind → Option LineKind → Option LineKind
first_fault None b = b
first_fault (Some a) None = Some a
first_fault (Some a) (Some b) = if nat_le (rank a) (rank b) then Some a else Some b

abbrev pub fault_unless : Bool → LineKind → Option LineKind
fault_unless holds kind = if holds then None else Some kind

-- ---- one keyword, separated from its value by the first `=`

abbrev pub is_equals : ℕ → Bool
is_equals b = b == byte "="

abbrev pub keyword_of : List ℕ → Keyword
keyword_of key =
    if bytes_eq key (codes "type") then keyword.Type else
    if bytes_eq key (codes "link") then keyword.Link else
    if bytes_eq key (codes "dev") then keyword.Dev else
    if bytes_eq key (codes "inode") then keyword.Inode else
    if bytes_eq key (codes "ctime") then keyword.Ctime else
    if bytes_eq key (codes "size") then keyword.Size else
    if bytes_eq key (codes "contents") then keyword.Contents else keyword.Other

abbrev pub is_known : Keyword → Bool
is_known keyword.Other = false
is_known keyword.Type = true
is_known keyword.Link = true
is_known keyword.Dev = true
is_known keyword.Inode = true
is_known keyword.Ctime = true
is_known keyword.Size = true
is_known keyword.Contents = true

abbrev pub no_node_types : List (List ℕ)
no_node_types = codes "block" ∷ codes "char" ∷ codes "fifo" ∷ codes "socket" ∷ []

-- the type of a line: a type of nodes, a type that is ignored, or an unknown type
abbrev pub type_of : List ℕ → LineType
type_of value =
    if bytes_eq value (codes "file") then types.File else
    if bytes_eq value (codes "dir") then types.Dir else
    if bytes_eq value (codes "link") then types.Link else
    if list_any (bytes_eq value) no_node_types then types.NoNode
    else types.Unknown

abbrev pub is_type : LineType → Bool
is_type types.Unknown = false
is_type types.File = true
is_type types.Dir = true
is_type types.Link = true
is_type types.NoNode = true

-- the number of 1 to 20 decimal digits, below 2^64
abbrev pub number_of : List ℕ → Option ℕ
number_of value =
    if nat_le 1 (length value) && nat_le (length value) 20 && list_all is_ascii_digit value && nat_lt (digits_value 10 value) (2 ^ 64)
    then Some (digits_value 10 value) else None

-- whether a text may be a link's target; an empty text counts as no target, but isn't an error here
abbrev pub is_link_text : List ℕ → Bool
is_link_text text = nat_le (length text) NODE_TEXT_MAX && has_no_nul text

abbrev pub text_fault : (List ℕ → Bool) → Option (List ℕ) → Option LineKind
text_fault may_be None = Some BadEscape
text_fault may_be (Some text) = fault_unless (may_be text) BadLine

abbrev pub value_fault : Keyword → List ℕ → Option LineKind
value_fault keyword.Type value = fault_unless (is_type (type_of value)) BadType
value_fault keyword.Link value = text_fault is_link_text (decoded value)
value_fault keyword.Contents value = text_fault is_key (decoded value)
value_fault keyword.Dev value = fault_unless (is_some (number_of value)) BadNumber
value_fault keyword.Inode value = fault_unless (is_some (number_of value)) BadNumber
value_fault keyword.Ctime value = fault_unless (is_some (number_of value)) BadNumber
value_fault keyword.Size value = fault_unless (is_some (number_of value)) BadNumber
value_fault keyword.Other value = None

-- ---- the values of the keywords

-- the values that apply to a line; `link` and `contents` are as written, with their escapes
pub record Values : Type 0 where
  pub kind : LineType
  -- empty if there is none
  pub link : List ℕ
  pub dev : Option ℕ
  pub inode : Option ℕ
  pub ctime : Option ℕ
  pub size : Option ℕ
  pub contents : Option (List ℕ)

-- a line without a type is a file
abbrev pub no_values : Values
no_values = record { kind = types.File; link = []; dev = None; inode = None; ctime = None; size = None; contents = None }

abbrev pub with_value : Values → Keyword → List ℕ → Values
with_value v keyword.Type value = record v { kind = type_of value }
with_value v keyword.Link value = record v { link = value }
with_value v keyword.Dev value = record v { dev = number_of value }
with_value v keyword.Inode value = record v { inode = number_of value }
with_value v keyword.Ctime value = record v { ctime = number_of value }
with_value v keyword.Size value = record v { size = number_of value }
with_value v keyword.Contents value = record v { contents = Some value }
with_value v keyword.Other value = v

-- the values, without the value of this keyword
abbrev pub without : Values → Keyword → Values
without v keyword.Type = record v { kind = types.File }
without v keyword.Link = record v { link = [] }
without v keyword.Dev = record v { dev = None }
without v keyword.Inode = record v { inode = None }
without v keyword.Ctime = record v { ctime = None }
without v keyword.Size = record v { size = None }
without v keyword.Contents = record v { contents = None }
without v keyword.Other = v

-- ---- the keywords of a line

-- the values after some of a line's keywords, and the first error of these keywords
pub record Given : Type 0 where
  pub values : Values
  pub fault : Option LineKind

-- KEY=VALUE, or KEY without a value
abbrev pub divided : List ℕ → Option ℕ → Keyword × Option (List ℕ)
divided word None = (keyword_of word, None)
divided word (Some n) = (keyword_of (take n word), Some (drop (n + 1) word))

-- a known keyword needs a value, and later values override earlier ones
abbrev pub given_by : Given → Keyword × Option (List ℕ) → Given
given_by g (keyword, None) = record { values = g.values; fault = first_fault g.fault (fault_unless (not (is_known keyword)) BadLine) }
given_by g (keyword, Some value) =
    record { values = with_value g.values keyword value; fault = first_fault g.fault (value_fault keyword value) }

abbrev pub given_word : Given → List ℕ → Given
given_word g word = given_by g (divided word (position is_equals word))

-- the values of a line: its keywords override the defaults
abbrev pub given : Values → List (List ℕ) → Given
given defaults words = fold given_word (record { values = defaults; fault = None }) words

-- `/unset`: names of keywords, or `all`
abbrev pub unset_word : Values → List ℕ → Values
unset_word v word = if bytes_eq word (codes "all") then no_values else without v (keyword_of word)

abbrev pub unset : Values → List (List ℕ) → Values
unset defaults words = fold unset_word defaults words
