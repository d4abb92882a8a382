-- The UTF-8 test is true exactly for UTF-8.
use Rattle.std.proofs.Common.{◌≡◌, ℕ, List, Bool, true, false, refl}
use Rattle.std.specs.Str.{IsUtf8, is_utf8}
use Rattle.std.proofs.lemmas.Str.{IsUtf8-from_is_utf8, is_utf8-from_IsUtf8}

pub test_holds : (bytes : List ℕ) → IsUtf8 bytes → true ≡ is_utf8 bytes
test_holds bytes holds = cc (is_utf8-from_IsUtf8 bytes holds)

not_true : (b : Bool) → (b ≡ true → ⊥) → false ≡ b
not_true true other = absurd (other refl)
not_true false other = refl

pub test_fails : (bytes : List ℕ) → (IsUtf8 bytes → ⊥) → false ≡ is_utf8 bytes
test_fails bytes fails = not_true (is_utf8 bytes) (λ e. fails (IsUtf8-from_is_utf8 bytes e))
