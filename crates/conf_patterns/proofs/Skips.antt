-- The parts of a pattern, one after another.
use Rattle.std.proofs.Common.{◌≡◌, ◌<◌, ◌-◌, ℕ, zero, suc, false, List, [], ◌∷◌, length, drop, get_or, refl, ap, arith}
use Rattle.conf_patterns.specs.Glob.{Part, part_at, parts, parts_after, more_of, is_close}
use Rattle.conf_patterns.specs.Pieces.{has_close}
use Rattle.conf_patterns.proofs.Absent.{none_further}

skipped : (n : ℕ) (pattern : List ℕ) → parts_after n pattern ≡ parts (drop n pattern)
skipped zero pattern = refl
skipped (suc n) [] = refl
skipped (suc n) (b ∷ following) = skipped n following

pub first_part : (pattern : List ℕ) (part : Part) → 0 < length pattern → part ≡ part_at (get_or pattern 0 0) (drop 1 pattern) →
    parts pattern ≡ part ∷ parts (drop (more_of part) (drop 1 pattern))
first_part [] part some e = absurd (omega arith)
first_part (b ∷ following) part some e = rw e (ap (λ ps. part_at b following ∷ ps) (skipped (more_of (part_at b following)) following))

one_less : (unclosed b : ℕ) (bytes : List ℕ) → has_close unclosed (b ∷ bytes) ≡ false → has_close unclosed bytes ≡ false
one_less unclosed b bytes none = none_further is_close (b ∷ bytes) (length (b ∷ bytes) - unclosed) (suc (length bytes - unclosed)) (omega arith) none

pub unclosed_after : (n unclosed : ℕ) (bytes : List ℕ) → has_close unclosed bytes ≡ false → has_close unclosed (drop n bytes) ≡ false
unclosed_after zero unclosed bytes none = none
unclosed_after (suc n) unclosed [] none = none
unclosed_after (suc n) unclosed (b ∷ bytes) none = unclosed_after n unclosed bytes (one_less unclosed b bytes none)
