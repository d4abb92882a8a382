-- Texts in the order of their bytes.
use Rattle.std.specs.Prelude.{◌≡◌, ℕ, false, List, [], ◌∷◌, fold, ⊤}
use Rattle.std.specs.BTreeSet.{insert_key}
use Rattle.std.specs.Cmp.Lexicographic.{slice_cmp}
use Rattle.std.specs.List.{AllByRecursion}
use Rattle.std.specs.Ordering.{is_lt, nat_cmp}

-- inserts a text in order, unless it is there already
abbrev pub with_text : List (List ℕ) → List ℕ → List (List ℕ)
with_text texts text = insert_key (slice_cmp nat_cmp) texts text

-- these texts in the order of their bytes, each once
unfoldable pub ascending : List (List ℕ) → List (List ℕ)
ascending texts = fold with_text [] texts

-- each of these texts is at least as large as every text before it
abbrev pub AreAscending : List (List ℕ) → Type 0
AreAscending [] = ⊤
AreAscending (text ∷ texts) = AllByRecursion (λ other. is_lt (slice_cmp nat_cmp other text) ≡ false) texts × AreAscending texts
