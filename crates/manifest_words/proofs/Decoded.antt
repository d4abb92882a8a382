-- Decoding from the front.
use Rattle.std.proofs.Common.{◌≡◌, ◌<◌, ℕ, Bool, true, false, cond, eqb, List, [], ◌∷◌, ◌++◌, length, Option, Some, None, refl, ap, sym, ◌∙◌, append_assoc, arith}
use Rattle.std.proofs.lemmas.Bool.{or_parts}
use Rattle.std.proofs.lemmas.List.{append-nil}
use Rattle.std.specs.Option.{option_map}
use Rattle.std.specs.List.{list_any, AllByRecursion}
use Rattle.manifest_words.specs.Escape.{decoded, backslash, letter, octal, in_front, escape}
use Rattle.manifest_words.specs.Keys.{text_fault}
use Rattle.manifest_words.specs.Views.{fault_of_text, written_fault, may_be}
use Rattle.manifest_words.specs.Decoding.{first_byte, escape_at, escape_by, Decodes}

-- the first byte, and then the rest
abbrev pub then_rest : Option (ℕ × List ℕ) → Option (List ℕ)
then_rest None = None
then_rest (Some x) = in_front (Some x.0) (decoded x.1)

by_letter : (l : Option ℕ) (rest : List ℕ) → in_front l (decoded rest) ≡ then_rest (escape_by l rest None)
by_letter None rest = refl
by_letter (Some b) rest = refl

by_escape : (l o : Option ℕ) (r t : List ℕ) → escape l (decoded r) o (decoded t) ≡ then_rest (escape_by l r (option_map (λ n. (n, t)) o))
by_escape (Some b) o r t = refl
by_escape None (Some b) r t = refl
by_escape None None r t = refl

by_test : (p : Bool) (x y : Option (List ℕ)) (f g : Option (ℕ × List ℕ)) → x ≡ then_rest f → y ≡ then_rest g → cond p x y ≡ then_rest (cond p f g)
by_test true x y f g e h = e
by_test false x y f g e h = h

pub decoded_step : (b : ℕ) (rest : List ℕ) → decoded (b ∷ rest) ≡ then_rest (first_byte (b ∷ rest))
unfolding decoded
decoded_step b [] = by_test (eqb b backslash) _ _ None (Some (b, [])) refl refl
decoded_step b (c ∷ []) = by_test (eqb b backslash) _ _ (escape_at (c ∷ [])) (Some (b, c ∷ [])) (by_letter (letter c) []) refl
decoded_step b (c ∷ d ∷ []) = by_test (eqb b backslash) _ _ (escape_at (c ∷ d ∷ [])) (Some (b, c ∷ d ∷ [])) (by_letter (letter c) (d ∷ [])) refl
decoded_step b (c ∷ d ∷ e ∷ rest) = by_test (eqb b backslash) _ _ (escape_at (c ∷ d ∷ e ∷ rest)) (Some (b, c ∷ d ∷ e ∷ rest)) (by_escape (letter c) (octal c d e) (d ∷ e ∷ rest) rest) refl

pub decoded_nil : decoded [] ≡ Some []
unfolding decoded
decoded_nil = refl

-- a byte except a backslash represents itself
pub decoded_plain : (b : ℕ) (rest : List ℕ) → eqb b backslash ≡ false → decoded (b ∷ rest) ≡ in_front (Some b) (decoded rest)
decoded_plain b rest h = decoded_step b rest ∙ ap (λ t. then_rest (cond t (escape_at rest) (Some (b, rest)))) h

pub none_is : (word : List ℕ) → list_any (λ b. eqb b backslash) word ≡ false → AllByRecursion (λ b. eqb b backslash ≡ false) word
none_is [] h = tt
none_is (b ∷ rest) h = let parts = or_parts (eqb b backslash) (list_any (λ b. eqb b backslash) rest) h in (parts.0, none_is rest parts.1)

-- a word without a backslash represents itself
pub other_decoded : (word : List ℕ) → AllByRecursion (λ b. eqb b backslash ≡ false) word → decoded word ≡ Some word
other_decoded [] all = decoded_nil
other_decoded (b ∷ rest) all = decoded_plain b rest all.0 ∙ ap (in_front (Some b)) (other_decoded rest all.1)

pub plain_decoded : (word : List ℕ) → list_any (λ b. eqb b backslash) word ≡ false → decoded word ≡ Some word
plain_decoded word h = other_decoded word (none_is word h)

-- bytes, and then the bytes that a word represents
abbrev pub following : List ℕ → Option (List ℕ) → Option (List ℕ)
following front text = option_map (λ bytes. front ++ bytes) text

after_one : (front : List ℕ) (b : ℕ) (text : Option (List ℕ)) → following front (in_front (Some b) text) ≡ following (front ++ b ∷ []) text
after_one front b None = refl
after_one front b (Some bytes) = ap Some (sym (append_assoc front (b ∷ []) bytes))

-- one more byte
pub after_step : (front rest after : List ℕ) (b : ℕ) → 0 < length rest → first_byte rest ≡ Some (b, after) → following (front ++ b ∷ []) (decoded after) ≡ following front (decoded rest)
after_step front [] after b some e = absurd (omega arith)
after_step front (x ∷ rest) after b some e = sym (ap (following front) (decoded_step x rest ∙ ap then_rest e) ∙ after_one front b (decoded after))

-- the end of the word
pub all_decoded : (old new rest : List ℕ) (text : Option (List ℕ)) → length rest ≡ 0 → following new (decoded rest) ≡ following old text → Decodes old new text true
all_decoded old new [] None empty e = absurd (cc (ap (following new) decoded_nil))
all_decoded old new [] (Some text) empty e = (refl, cc (ap (following new) decoded_nil, append-nil new))
all_decoded old new (x ∷ rest) text empty e = absurd (omega arith)

-- a bad escape
pub not_decoded : (old new rest : List ℕ) (text : Option (List ℕ)) → 0 < length rest → first_byte rest ≡ None → following new (decoded rest) ≡ following old text → Decodes old new text false
not_decoded old new rest None some none e = refl
not_decoded old new [] (Some text) some none e = absurd (omega arith)
not_decoded old new (x ∷ rest) (Some text) some none e = absurd (cc (ap (following new) (decoded_step x rest ∙ ap then_rest none)))

-- the error of a value without a backslash
pub plain_fault : (is_contents : Bool) (value : List ℕ) → list_any (λ b. eqb b backslash) value ≡ false → fault_of_text is_contents value ≡ written_fault is_contents value
plain_fault is_contents value h = sym (ap (text_fault (may_be is_contents)) (plain_decoded value h))
