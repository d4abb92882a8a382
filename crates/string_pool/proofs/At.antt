-- The index of a text in a list.
use Rattle.std.proofs.Common.{◌≡◌, ◌+◌, ℕ, suc, List, [], ◌∷◌, Option, Some, None, IfSome, sym, subst, arith}
use Rattle.std.proofs.lemmas.Iterator.Adapters.{position_from-zero}
use Rattle.std.proofs.lemmas.Slice.Eq.{bytes_eq-Decides}
use Rattle.std.specs.List.{position, position_from}
use Rattle.std.specs.Str.{bytes_eq}
use Rattle.lib_types.proofs.SortedPairs.{by_test}
use Rattle.string_pool.specs.At.{IsAt}

-- counted from n on
abbrev IsFrom : List (List ℕ) → ℕ → List ℕ → ℕ → Type 0
IsFrom texts n text i = (k : ℕ) × ((i ≡ n + k) × IsAt texts k text)

further : (x : List ℕ) (texts : List (List ℕ)) (n : ℕ) (text : List ℕ) (o : Option ℕ) → IfSome o (IsFrom texts (n + 1) text) → IfSome o (IsFrom (x ∷ texts) n text)
further x texts n text None at = tt
further x texts n text (Some i) at = (suc at.0, (omega (arith, at.1.0), record { within = omega (arith, at.1.1.within); is = at.1.1.is }))

at_from : (text : List ℕ) (texts : List (List ℕ)) (n : ℕ) → IfSome (position_from (bytes_eq text) n texts) (IsFrom texts n text)
at_from text [] n = tt
at_from text (x ∷ texts) n = by_test (bytes_eq text x)
    (λ same. rw same (0, (omega arith, record { within = omega arith; is = sym ((bytes_eq-Decides text x).0 same) })))
    (λ other. rw other (further x texts n text (position_from (bytes_eq text) (n + 1) texts) (at_from text texts (n + 1))))

from_front : (texts : List (List ℕ)) (text : List ℕ) (o : Option ℕ) → IfSome o (IsFrom texts 0 text) → IfSome o (λ i. IsAt texts i text)
from_front texts text None at = tt
from_front texts text (Some i) at = let same : at.0 ≡ i = omega (arith, at.1.0) in subst (λ k. IsAt texts k text) same at.1.1

-- a text that is found is at the index that is found
pub at_position : (text : List ℕ) (texts : List (List ℕ)) → IfSome (position (bytes_eq text) texts) (λ i. IsAt texts i text)
at_position text texts = from_front texts text (position (bytes_eq text) texts)
    (subst (λ o. IfSome o (IsFrom texts 0 text)) (sym (position_from-zero (bytes_eq text) texts)) (at_from text texts 0))
