-- The ranges of sets, and where a set ends.
use Rattle.std.proofs.Common.{◌≡◌, ◌<◌, ◌≤◌, ◌-◌, ◌+◌, ℕ, true, false, List, [], ◌∷◌, length, drop, get_or, ltb, None, refl, ap, arith, eqb}
use Rattle.std.proofs.lemmas.Bool.{and_parts, lt-ltb}
use Rattle.std.specs.List.{list_any}
use Rattle.std.specs.Option.{option_map}
use Rattle.conf_patterns.specs.Glob.{ranges, is_close, no_end, set_len}
use Rattle.conf_patterns.specs.Pieces.{begins_with_range, has_close}
use Rattle.conf_patterns.proofs.Absent.{no_position, none_further}

pub range_of_two : (set : List ℕ) → begins_with_range set ≡ true → ranges set ≡ (get_or set 0 0, get_or set 2 0) ∷ ranges (drop 3 set)
range_of_two [] e = cc
range_of_two (low ∷ []) e = cc
range_of_two (low ∷ next ∷ []) e = cc
range_of_two (low ∷ next ∷ high ∷ rest) e = let dash : eqb next 45 ≡ true = (and_parts (ltb 2 (length (low ∷ next ∷ high ∷ rest))) (eqb next 45) e).1 in rw dash refl

pub range_of_one : (set : List ℕ) → 0 < length set → begins_with_range set ≡ false → ranges set ≡ (get_or set 0 0, get_or set 0 0) ∷ ranges (drop 1 set)
range_of_one [] some e = absurd (omega arith)
range_of_one (low ∷ []) some e = refl
range_of_one (low ∷ next ∷ []) some e = refl
range_of_one (low ∷ next ∷ high ∷ rest) some e =
    let long : ltb 2 (length (low ∷ next ∷ high ∷ rest)) ≡ true = lt-ltb _ _ (omega arith) in
    let dash : eqb next 45 ≡ false = rw long at e in rw dash refl

pub no_set : (following : List ℕ) (unclosed first : ℕ) → has_close unclosed following ≡ false → first ≡ no_end following → length following - unclosed ≤ first → set_len following ≡ None
no_set following unclosed first none e short =
    let further : list_any is_close (drop (no_end following) following) ≡ false = none_further is_close following (length following - unclosed) (no_end following) (omega (arith, short, e)) none in
    ap (option_map (λ n. no_end following + n)) (no_position is_close (drop (no_end following) following) further)
