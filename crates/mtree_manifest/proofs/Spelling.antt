-- A word decodes to the bytes that it represents.
use Rattle.std.proofs.Common.{◌≡◌, ◌<◌, ◌≤◌, ℕ, zero, suc, Bool, true, false, cond, eqb, leb, not, ◌&&◌, ◌||◌, List, [], ◌∷◌, ◌++◌, length, map, flat_map, Option, Some, None, refl, ap, sym, ◌∙◌, arith}
use Rattle.std.proofs.lemmas.Bool.{agree_below_at, and_parts, leb-true}
use Rattle.std.specs.Option.{is_none, option_map}
use Rattle.manifest_words.specs.Decoding.{first_byte, escape_at, escape_by, octal_at}
use Rattle.manifest_words.specs.Escape.{DecodesAll, Represents, backslash, byte_of, decoded, in_front, is_octal, letter, octal, octal_value}
use Rattle.manifest_words.proofs.Decoded.{decoded_nil, decoded_plain, decoded_step, then_rest}

-- ---- a word that represents bytes decodes to them

-- an octal digit isn't an escape letter
abbrev is_no_letter : ℕ → Bool
is_no_letter c = not (is_octal c) || is_none (letter c)

none_is : {A : Type 0} (o : Option A) → is_none o ≡ true → o ≡ None
none_is None h = refl
none_is (Some x) h = absurd (cc)

other : (a b : Bool) → (not a || b) ≡ true → a ≡ true → b ≡ true
other true b h e = h
other false b h e = absurd (cc)

no_letter : (c : ℕ) → is_octal c ≡ true → letter c ≡ None
no_letter c h =
    let bounds = and_parts (leb 48 c) (leb c 55) h in
    let below : c < 56 = omega (arith, leb-true c 55 bounds.1) in
    none_is (letter c) (other (is_octal c) (is_none (letter c)) (agree_below_at is_no_letter (λ _. true) 56 c refl below) h)

test_holds : {A : Type 0} (p : Bool) (x : A) (y : A) → cond p (Some x) None ≡ Some y → p ≡ true
test_holds true x y h = refl
test_holds false x y h = absurd (cc)

digit_first : (c d e b : ℕ) → octal c d e ≡ Some b → letter c ≡ None
digit_first c d e b h =
    let value = octal_value c d e in
    let all = test_holds (is_octal c && is_octal d && is_octal e && leb 1 value && leb value 255) value b h in
    let bounds = and_parts (is_octal c && is_octal d && is_octal e && leb 1 value) (leb value 255) all in
    let digits = and_parts (is_octal c && is_octal d && is_octal e) (leb 1 value) bounds.0 in
    let two = and_parts (is_octal c && is_octal d) (is_octal e) digits.0 in
    no_letter c (and_parts (is_octal c) (is_octal d) two.0).0

-- a byte by itself
plain_one : (p : Bool) (x b : ℕ) (rest : List ℕ) → eqb x backslash ≡ p → cond p None (Some x) ≡ Some b → decoded (x ∷ rest) ≡ in_front (Some b) (decoded rest)
plain_one true x b rest is h = absurd (cc)
plain_one false x b rest is h = decoded_plain x rest is ∙ ap (λ o. in_front o (decoded rest)) h

-- an escape with a letter
by_letter : (l : Option ℕ) (b : ℕ) (rest : List ℕ) (digits : Option (ℕ × List ℕ)) → l ≡ Some b → then_rest (escape_by l rest digits) ≡ in_front (Some b) (decoded rest)
by_letter l b rest digits e = rw e refl

by_digits : (l o : Option ℕ) (b : ℕ) (rest following : List ℕ) → l ≡ None → o ≡ Some b → then_rest (escape_by l following (option_map {U = ℕ × List ℕ} (λ n. (n, rest)) o)) ≡ in_front (Some b) (decoded rest)
by_digits l o b rest following e h = rw (e, h) refl

letter_one : (p : Bool) (x c b : ℕ) (rest : List ℕ) → eqb x backslash ≡ p → cond p (letter c) None ≡ Some b → decoded (x ∷ c ∷ rest) ≡ in_front (Some b) (decoded rest)
letter_one true x c b rest is h =
    decoded_step x (c ∷ rest) ∙ (ap (λ t. then_rest (cond t (escape_at (c ∷ rest)) (Some (x, c ∷ rest)))) is ∙ by_letter (letter c) b rest (octal_at (c ∷ rest)) h)
letter_one false x c b rest is h = absurd (cc)

octal_one : (p : Bool) (x c d e b : ℕ) (rest : List ℕ) → eqb x backslash ≡ p → cond p (octal c d e) None ≡ Some b → decoded (x ∷ c ∷ d ∷ e ∷ rest) ≡ in_front (Some b) (decoded rest)
octal_one true x c d e b rest is h =
    decoded_step x (c ∷ d ∷ e ∷ rest)
    ∙ (ap (λ t. then_rest (cond t (escape_at (c ∷ d ∷ e ∷ rest)) (Some (x, c ∷ d ∷ e ∷ rest)))) is
    ∙ by_digits (letter c) (octal c d e) b rest (d ∷ e ∷ rest) (digit_first c d e b h) h)
octal_one false x c d e b rest is h = absurd (cc)

one_decoded : (text rest : List ℕ) (b : ℕ) → byte_of text ≡ Some b → decoded (text ++ rest) ≡ in_front (Some b) (decoded rest)
one_decoded [] rest b h = absurd (cc)
one_decoded (x ∷ []) rest b h = plain_one (eqb x backslash) x b rest refl h
one_decoded (x ∷ c ∷ []) rest b h = letter_one (eqb x backslash) x c b rest refl h
one_decoded (x ∷ c ∷ d ∷ []) rest b h = absurd (cc)
one_decoded (x ∷ c ∷ d ∷ e ∷ []) rest b h = octal_one (eqb x backslash) x c d e b rest refl h
one_decoded (x ∷ c ∷ d ∷ e ∷ f ∷ more) rest b h = absurd (cc)

all_decoded : (texts : List (List ℕ)) (bytes : List ℕ) → map byte_of texts ≡ map Some bytes → decoded (flat_map (λ text. text) texts) ≡ Some bytes
all_decoded [] [] each = decoded_nil
all_decoded [] (b ∷ bytes) each = absurd (cc)
all_decoded (text ∷ texts) [] each = absurd (cc)
all_decoded (text ∷ texts) (b ∷ bytes) each =
    let first : byte_of text ≡ Some b = cc in
    let rest : map byte_of texts ≡ map Some bytes = cc in
    one_decoded text (flat_map (λ text. text) texts) b first ∙ ap (in_front (Some b)) (all_decoded texts bytes rest)

-- ---- a word that decodes to bytes represents them

-- the parts of a pair
first_is : (p q : ℕ × List ℕ) → Some p ≡ Some q → p.0 ≡ q.0
first_is p q h = let e : p ≡ q = cc in ap (λ (x : ℕ × List ℕ). x.0) e

rest_is : (p q : ℕ × List ℕ) → Some p ≡ Some q → p.1 ≡ q.1
rest_is p q h = let e : p ≡ q = cc in ap (λ (x : ℕ × List ℕ). x.1) e

-- the text of the first byte
record HasFront (word : List ℕ) (b : ℕ) (after : List ℕ) : Type 0 where
  text : List ℕ
  writes : byte_of text ≡ Some b
  joined : text ++ after ≡ word
  shorter : length after < length word

octal_front : (o : Option ℕ) (x c d e b : ℕ) (rest after : List ℕ) → octal c d e ≡ o → eqb x backslash ≡ true →
    option_map {U = ℕ × List ℕ} (λ n. (n, rest)) o ≡ Some (b, after) → HasFront (x ∷ c ∷ d ∷ e ∷ rest) b after
octal_front None x c d e b rest after o_is is h = absurd (cc)
octal_front (Some n) x c d e b rest after o_is is h =
    let same : n ≡ b = first_is (n, rest) (b, after) h in
    let end : rest ≡ after = rest_is (n, rest) (b, after) h in
    record {
      text = x ∷ c ∷ d ∷ e ∷ [];
      writes = rw is (o_is ∙ ap Some same);
      joined = ap (λ r. x ∷ c ∷ d ∷ e ∷ r) (sym end);
      shorter = rw (← end) (omega arith);
    }

digits_front : (rest after : List ℕ) (x c b : ℕ) → eqb x backslash ≡ true → octal_at (c ∷ rest) ≡ Some (b, after) → HasFront (x ∷ c ∷ rest) b after
digits_front [] after x c b is h = absurd (cc)
digits_front (d ∷ []) after x c b is h = absurd (cc)
digits_front (d ∷ e ∷ rest) after x c b is h = octal_front (octal c d e) x c d e b rest after refl is h

letter_front : (l : Option ℕ) (rest after : List ℕ) (x c b : ℕ) → letter c ≡ l → eqb x backslash ≡ true →
    escape_by l rest (octal_at (c ∷ rest)) ≡ Some (b, after) → HasFront (x ∷ c ∷ rest) b after
letter_front None rest after x c b l_is is h = digits_front rest after x c b is h
letter_front (Some n) rest after x c b l_is is h =
    let same : n ≡ b = first_is (n, rest) (b, after) h in
    let end : rest ≡ after = rest_is (n, rest) (b, after) h in
    record {
      text = x ∷ c ∷ [];
      writes = rw is (l_is ∙ ap Some same);
      joined = ap (λ r. x ∷ c ∷ r) (sym end);
      shorter = rw (← end) (omega arith);
    }

escape_front : (rest after : List ℕ) (x b : ℕ) → eqb x backslash ≡ true → escape_at rest ≡ Some (b, after) → HasFront (x ∷ rest) b after
escape_front [] after x b is h = absurd (cc)
escape_front (c ∷ rest) after x b is h = letter_front (letter c) rest after x c b refl is h

has_front : (p : Bool) (x b : ℕ) (rest after : List ℕ) → eqb x backslash ≡ p → cond p (escape_at rest) (Some (x, rest)) ≡ Some (b, after) → HasFront (x ∷ rest) b after
has_front true x b rest after is h = escape_front rest after x b is h
has_front false x b rest after is h =
    let same : x ≡ b = first_is (x, rest) (b, after) h in
    let end : rest ≡ after = rest_is (x, rest) (b, after) h in
    record {
      text = x ∷ [];
      writes = rw is (ap Some same);
      joined = ap (λ r. x ∷ r) (sym end);
      shorter = rw (← end) (omega arith);
    }

with_front : (word bytes after : List ℕ) (b : ℕ) → HasFront word b after → Represents after bytes → Represents word (b ∷ bytes)
with_front word bytes after b front rest = record {
  texts = front.text ∷ rest.texts;
  joined = ap (λ t. front.text ++ t) rest.joined ∙ front.joined;
  each = cc (front.writes, rest.each);
}

-- the induction hypothesis: shorter words represent the bytes that they decode to
abbrev Shorter : ℕ → Type 0
Shorter n = (word bytes : List ℕ) → length word ≤ n → decoded word ≡ Some bytes → Represents word bytes

from_decoded : (n : ℕ) → Shorter n → (d : Option (List ℕ)) (word bytes after : List ℕ) (b : ℕ) → length word ≤ suc n → decoded after ≡ d → HasFront word b after
    → in_front (Some b) d ≡ Some bytes → Represents word bytes
from_decoded n shorter None word bytes after b le is front e = absurd (cc)
from_decoded n shorter (Some following) word bytes after b le is front e =
    let whole : b ∷ following ≡ bytes = cc in
    rw (← whole) (with_front word following after b front (shorter after following (omega (arith, front.shorter)) is))

from_first : (n : ℕ) → Shorter n → (first : Option (ℕ × List ℕ)) (x : ℕ) (rest bytes : List ℕ) → length (x ∷ rest) ≤ suc n → first_byte (x ∷ rest) ≡ first
    → then_rest first ≡ Some bytes → Represents (x ∷ rest) bytes
from_first n shorter None x rest bytes le is e = absurd (cc)
from_first n shorter (Some front) x rest bytes le is e =
    from_decoded n shorter (decoded front.1) (x ∷ rest) bytes front.1 front.0 le refl (has_front (eqb x backslash) x front.0 rest front.1 refl is) e

represents : (n : ℕ) (word bytes : List ℕ) → length word ≤ n → decoded word ≡ Some bytes → Represents word bytes
represents n [] [] le h = record { texts = []; joined = refl; each = refl }
represents n [] (b ∷ bytes) le h = absurd (cc (decoded_nil, h))
represents zero (x ∷ rest) bytes le h = absurd (omega arith)
represents (suc n) (x ∷ rest) bytes le h =
    from_first n (represents n) (first_byte (x ∷ rest)) x rest bytes le refl (sym (decoded_step x rest) ∙ h)

pub decodes_all : DecodesAll
decodes_all word bytes = (
  λ h. represents (length word) word bytes (omega arith) h,
  λ located. ap decoded (sym located.joined) ∙ all_decoded located.texts bytes located.each,
)
