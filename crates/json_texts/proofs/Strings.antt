-- Bytes that are UTF-8, and others.
use Rattle.std.proofs.Common.{◌≡◌, ℕ, List, Bool, true, false, if◌then◌else◌, refl}
use Rattle.std.specs.Str.{IsUtf8, is_utf8}
use Rattle.std.proofs.lemmas.Str.{IsUtf8-from_is_utf8, is_utf8-from_IsUtf8}
use Rattle.serde_json.specs.Data.{Data, string}
use Rattle.json_texts.specs.Texts.{base64_data, bytes_data}

by_test : (b : Bool) (a c : Data) → b ≡ true → a ≡ (if b then a else c)
by_test true a c e = refl
by_test false a c e = absurd (cc)

by_other : (b : Bool) (a c : Data) → (b ≡ true → ⊥) → c ≡ (if b then a else c)
by_other true a c other = absurd (other refl)
by_other false a c other = refl

pub is_string : (bytes : List ℕ) → IsUtf8 bytes → string bytes ≡ bytes_data bytes
is_string bytes holds = by_test (is_utf8 bytes) _ _ (is_utf8-from_IsUtf8 bytes holds)

pub is_other : (bytes : List ℕ) → (IsUtf8 bytes → ⊥) → base64_data bytes ≡ bytes_data bytes
is_other bytes fails = by_other (is_utf8 bytes) _ _ (λ e. fails (IsUtf8-from_is_utf8 bytes e))
