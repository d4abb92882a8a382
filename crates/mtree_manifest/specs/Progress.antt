-- How the code reads the physical lines: it keeps the open line and adds words to it, one at a time.
use Rattle.std.specs.Prelude.{ℕ, ◌+◌, Bool, List, [], ◌∷◌, fold, if◌then◌else◌, Option, Some, None, Result, Ok}
use Rattle.manifest_words.specs.Keys.{Values, Given, given_word, unset_word}
use Rattle.manifest_words.specs.Lines.{goes_on, physical_words}
use Rattle.mtree_manifest.specs.Manifest.{Reading, Defaults, Puts, State, ◌>>=◌, head_of, set_line, close_line, entry, with_reading}
use Rattle.manifest_words.specs.Paths.{Stack}
use Rattle.mtree_manifest.specs.declared.fault.ManifestFault.{ManifestFault}
use Rattle.mtree_manifest.specs.declared.line.Head.{Head}
use Rattle.mtree_manifest.specs.declared.line.Head.TheVariants as head

-- a line of which some words are read
pub record Open : Type 0 where
  pub number : ℕ
  pub first : Option (Head × List ℕ)
  pub given : Given

abbrev pub started : ℕ → Values → Open
started number defaults = record { number = number; first = None; given = record { values = defaults; fault = None } }

abbrev pub given_by_head : Head → Given → List ℕ → Given
given_by_head head.Comment g word = g
given_by_head head.Close g word = g
given_by_head head.Set g word = given_word g word
given_by_head head.Entry g word = given_word g word
given_by_head head.Unset g word = record g { values = unset_word g.values word }

abbrev pub with_word_after : ℕ → Option (Head × List ℕ) → Given → List ℕ → Open
with_word_after number None g word = record { number = number; first = Some (head_of word, word); given = g }
with_word_after number (Some first) g word = record { number = number; first = Some first; given = given_by_head first.0 g word }

abbrev pub with_word : Open → List ℕ → Open
with_word o word = with_word_after o.number o.first o.given word

abbrev pub reading_of : Head → List ℕ → Given → Stack → Reading
reading_of head.Comment first g dirs = Puts dirs None
reading_of head.Set first g dirs = set_line g
reading_of head.Unset first g dirs = Defaults g.values
reading_of head.Close first g dirs = close_line dirs
reading_of head.Entry first g dirs = entry dirs first g

abbrev pub reading_after : Option (Head × List ℕ) → Given → Stack → Reading
reading_after None g dirs = Puts dirs None
reading_after (Some first) g dirs = reading_of first.0 first.1 g dirs

-- the state after the lines that have ended, and the open line
pub record Progress : Type 0 where
  pub state : State
  pub line : Open
  -- the number of the next physical line
  pub next : ℕ

-- the end of the open line
abbrev pub line_ended : State → Open → Result State ManifestFault
line_ended s o = with_reading o.number s (reading_after o.first o.given s.dirs)

abbrev pub going_on : Bool → ℕ → State → Open → Result Progress ManifestFault
going_on goes_on next s o =
    if goes_on then Ok (record { state = s; line = o; next = next })
    else line_ended s o >>= (λ t. Ok (record { state = t; line = started next t.defaults; next = next }))

-- reads one more physical line; `next` is the number of the line after it
abbrev pub physical_taken : ℕ → State → Open → List ℕ → Result Progress ManifestFault
physical_taken next s o line = going_on (goes_on line) next s (fold with_word o (physical_words line))

abbrev pub with_physical : Progress → List ℕ → Result Progress ManifestFault
with_physical p line = physical_taken (p.next + 1) p.state p.line line

abbrev pub with_physicals : Progress → List (List ℕ) → Result State ManifestFault
with_physicals p [] = line_ended p.state p.line
with_physicals p (line ∷ lines) = with_physical p line >>= (λ q. with_physicals q lines)
