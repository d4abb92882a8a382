-- ASCII bytes without a slash and a NUL.
use Rattle.std.proofs.Common.{◌≡◌, ℕ, true, ltb, ◌&&◌, List, [], ◌∷◌, refl}
use Rattle.std.specs.Str.{IsAscii, is_utf8}
use Rattle.std.proofs.lemmas.Bool.{and_parts, and_from, ltb-true}
use Rattle.std.proofs.lemmas.Str.{IsUtf8-from_ascii, is_utf8-from_IsUtf8}
use Rattle.std.proofs.lemmas.Str.Ascii.{IsAscii-nil, IsAscii-cons}
use Rattle.lib_types.specs.Name.{is_plain_ascii, have_no_slash}

ascii : (bytes : List ℕ) → is_plain_ascii bytes ≡ true → IsAscii bytes
ascii [] e = IsAscii-nil
ascii (b ∷ bytes) e =
    let parts = and_parts _ (is_plain_ascii bytes) e in
    IsAscii-cons b bytes (ltb-true b 128 (and_parts _ (ltb b 128) parts.0).1) (ascii bytes parts.1)

no_slash : (bytes : List ℕ) → is_plain_ascii bytes ≡ true → have_no_slash bytes ≡ true
no_slash [] e = refl
no_slash (b ∷ bytes) e =
    let parts = and_parts _ (is_plain_ascii bytes) e in
    and_from _ (have_no_slash bytes) (and_parts _ (ltb b 128) parts.0).0 (no_slash bytes parts.1)

pub plain_bytes : (bytes : List ℕ) → is_plain_ascii bytes ≡ true → (have_no_slash bytes && is_utf8 bytes) ≡ true
plain_bytes bytes e = and_from (have_no_slash bytes) (is_utf8 bytes) (no_slash bytes e) (is_utf8-from_IsUtf8 bytes (IsUtf8-from_ascii bytes (ascii bytes e)))
