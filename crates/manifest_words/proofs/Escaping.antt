-- Escaped bytes decode to the same bytes.
use Rattle.std.proofs.Common.{◌≡◌, ◌≢◌, ◌<◌, ◌+◌, ◌/◌, ◌%◌, ℕ, Bool, true, false, leb, eqb, not, ◌&&◌, ◌||◌, cond, List, [], ◌∷◌, ◌++◌, length, map, codes, Option, Some, None, refl, ap, sym, ◌∙◌, length-append, arith}
use Rattle.std.specs.Option.{is_none, option_eq, option_map, option_and_then}
use Rattle.std.specs.List.{list_all, list_any, filter, slice_split, onto_first, AllByRecursion}
use Rattle.std.specs.Str.{byte, bytes_eq}
use Rattle.std.proofs.lemmas.Bool.{and_parts, and_from, or_parts, not-true, agree_below_at, cond-true, eqb-true, eq-eqb, ne_eqb, false_from_ne_true}
use Rattle.std.proofs.lemmas.List.{append-nil}
use Rattle.std.proofs.lemmas.List.Folds.{list_all-append}
use Rattle.std.proofs.lemmas.List.Splits.{slice_split-cons_yes, slice_split-cons_no, length-slice_split}
use Rattle.lib_types.specs.Name.{is_name}
use Rattle.image_tree.specs.Node.{has_no_nul}
use Rattle.manifest_words.specs.Decoding.{first_byte, escape_by, octal_at}
use Rattle.manifest_words.specs.Escape.{decoded, escaped, escaped_byte, octal_digits, is_unescaped, backslash, letter, octal, in_front}
use Rattle.manifest_words.specs.Lines.{goes_on}
use Rattle.image_tree.specs.Paths.{is_slash, is_kept}
use Rattle.manifest_words.specs.Paths.{decoded_each}
use Rattle.manifest_words.specs.Range.{AreBytes}
use Rattle.manifest_words.proofs.Decoded.{decoded_step, decoded_plain, then_rest, decoded_nil, plain_decoded}
use Rattle.manifest_words.proofs.Names.{no_nul, name_facts}
use Rattle.manifest_words.proofs.Tokens.{are_printed, goes_on-append}

-- ---- one byte, by a table of all bytes

-- three octal digits represent their byte, and the first digit isn't an escape letter
abbrev is_octal_of : ℕ → Bool
is_octal_of b = option_eq eqb (octal (byte "0" + b / 64) (byte "0" + b / 8 % 8) (byte "0" + b % 8)) (Some b) && is_none (letter (byte "0" + b / 64))

abbrev is_sound : ℕ → Bool
is_sound b =
    (eqb b 0 || is_octal_of b)
    && are_printed (escaped_byte b) && not (goes_on (escaped_byte b))
    && (eqb b 47 || not (list_any is_slash (escaped_byte b)))

all_sound : (b : ℕ) → b < 256 → is_sound b ≡ true
all_sound b lt = agree_below_at is_sound (λ _. true) 256 b refl lt

-- what the table says about a byte
record IsSound (b : ℕ) : Type 0 where
  octal : b ≢ 0 → is_octal_of b ≡ true
  printed : are_printed (escaped_byte b) ≡ true
  ends : goes_on (escaped_byte b) ≡ false
  no_slash : b ≢ 47 → list_any is_slash (escaped_byte b) ≡ false

other_holds : (a b : Bool) → (a || b) ≡ true → a ≡ false → b ≡ true
other_holds true b h e = absurd (cc)
other_holds false b h e = h

sound : (b : ℕ) → b < 256 → IsSound b
sound b lt =
    let all = and_parts _ (eqb b 47 || not (list_any is_slash (escaped_byte b))) (all_sound b lt) in
    let front = and_parts _ (not (goes_on (escaped_byte b))) all.0 in
    let parts = and_parts (eqb b 0 || is_octal_of b) (are_printed (escaped_byte b)) front.0 in
    record {
      octal = λ other. other_holds (eqb b 0) (is_octal_of b) parts.0 (ne_eqb b 0 other);
      printed = parts.1;
      ends = not-true _ front.1;
      no_slash = λ other. not-true _ (other_holds (eqb b 47) (not (list_any is_slash (escaped_byte b))) all.1 (ne_eqb b 47 other));
    }

-- ---- bytes

plain_is_none : (o : Option ℕ) → is_none o ≡ true → o ≡ None
plain_is_none None e = refl
plain_is_none (Some x) e = absurd (cc)

some_is : (o : Option ℕ) (b : ℕ) → option_eq eqb o (Some b) ≡ true → o ≡ Some b
some_is None b e = absurd (cc)
some_is (Some x) b e = ap Some (eqb-true x b e)

-- the escape of a byte
octal_first : (b : ℕ) (rest : List ℕ) → is_octal_of b ≡ true → first_byte (backslash ∷ octal_digits b ++ rest) ≡ Some (b, rest)
octal_first b rest e =
    let x = byte "0" + b / 64 in
    let y = byte "0" + b / 8 % 8 in
    let z = byte "0" + b % 8 in
    let parts = and_parts (option_eq eqb (octal x y z) (Some b)) (is_none (letter x)) e in
    ap (λ l. escape_by l (y ∷ z ∷ rest) (octal_at (x ∷ y ∷ z ∷ rest))) (plain_is_none (letter x) parts.1)
    ∙ ap (option_map (λ n. (n, rest))) (some_is (octal x y z) b parts.0)

is_plain_not_backslash : (b : ℕ) → is_unescaped b ≡ true → eqb b backslash ≡ false
is_plain_not_backslash b e =
    not-true _ (and_parts _ (not (eqb b backslash)) (and_parts _ (not (eqb b (byte "#"))) e).0).1

byte_read : (t : Bool) (b : ℕ) (rest : List ℕ) → is_unescaped b ≡ t → is_octal_of b ≡ true → decoded (cond t (b ∷ []) (backslash ∷ octal_digits b) ++ rest) ≡ in_front (Some b) (decoded rest)
byte_read true b rest plain e = decoded_plain b rest (is_plain_not_backslash b plain)
byte_read false b rest plain e = decoded_step backslash (octal_digits b ++ rest) ∙ ap then_rest (octal_first b rest e)

nonzero : (b : ℕ) → not (eqb b 0) ≡ true → b ≢ 0
nonzero b e = λ same. absurd (cc (ap (λ t. not t) (eq-eqb b 0 same)))

pub decoded_escaped : (bytes : List ℕ) → AreBytes bytes → has_no_nul bytes ≡ true → decoded (escaped bytes) ≡ Some bytes
decoded_escaped [] all clear = decoded_nil
decoded_escaped (b ∷ bytes) all clear =
    let parts = and_parts (not (eqb b 0)) (has_no_nul bytes) clear in
    byte_read (is_unescaped b) b (escaped bytes) refl ((sound b all.0).octal (nonzero b parts.0)) ∙ ap (in_front (Some b)) (decoded_escaped bytes all.1 parts.1)

pub escaped_printed : (bytes : List ℕ) → AreBytes bytes → are_printed (escaped bytes) ≡ true
escaped_printed [] all = refl
escaped_printed (b ∷ bytes) all =
    list_all-append (λ c. leb 33 c) (escaped_byte b) (escaped bytes)
    ∙ and_from (are_printed (escaped_byte b)) (are_printed (escaped bytes)) (sound b all.0).printed (escaped_printed bytes all.1)

byte_some : (b : ℕ) → 0 < length (escaped_byte b)
byte_some b = by_test (is_unescaped b)
  where
    by_test : (t : Bool) → 0 < length (cond t (b ∷ []) (backslash ∷ octal_digits b))
    by_test true = omega arith
    by_test false = omega arith

pub escaped_some : (bytes : List ℕ) → 0 < length bytes → 0 < length (escaped bytes)
escaped_some [] some = absurd (omega arith)
escaped_some (b ∷ bytes) some = omega (arith, byte_some b, length-append (escaped_byte b) (escaped bytes))

pub escaped_ends : (bytes : List ℕ) → AreBytes bytes → 0 < length bytes → goes_on (escaped bytes) ≡ false
escaped_ends [] all some = absurd (omega arith)
escaped_ends (b ∷ []) all some = ap goes_on (append-nil (escaped_byte b)) ∙ (sound b all.0).ends
escaped_ends (b ∷ c ∷ bytes) all some =
    goes_on-append (escaped_byte b) (escaped (c ∷ bytes)) (escaped_some (c ∷ bytes) (omega arith)) ∙ escaped_ends (c ∷ bytes) all.1 (omega arith)

-- bytes that need no escapes are not changed
pub plain_escaped : (bytes : List ℕ) → list_all is_unescaped bytes ≡ true → escaped bytes ≡ bytes
plain_escaped [] all = refl
plain_escaped (b ∷ bytes) all =
    let parts = and_parts (is_unescaped b) (list_all is_unescaped bytes) all in
    rw (parts.0) (ap (λ rest. b ∷ rest) (plain_escaped bytes parts.1))

-- ---- the components of a path

onto_front : List ℕ → List (List ℕ) → List (List ℕ)
onto_front w [] = w ∷ []
onto_front w (part ∷ parts) = (w ++ part) ∷ parts

onto_more : (b : ℕ) (w : List ℕ) (parts : List (List ℕ)) → onto_first b (onto_front w parts) ≡ onto_front (b ∷ w) parts
unfolding onto_front
onto_more b w [] = refl
onto_more b w (part ∷ parts) = refl

onto_nothing : (parts : List (List ℕ)) → 0 < length parts → onto_front [] parts ≡ parts
unfolding onto_front
onto_nothing [] some = absurd (omega arith)
onto_nothing (part ∷ parts) some = refl

split_front : (w xs : List ℕ) → list_any is_slash w ≡ false → slice_split is_slash (w ++ xs) ≡ onto_front w (slice_split is_slash xs)
split_front [] xs e = sym (onto_nothing (slice_split is_slash xs) (omega (arith, length-slice_split is_slash xs)))
split_front (b ∷ w) xs e =
    let parts = or_parts (is_slash b) (list_any is_slash w) e in
    slice_split-cons_no is_slash b (w ++ xs) parts.0 ∙ ap (onto_first b) (split_front w xs parts.1) ∙ onto_more b w (slice_split is_slash xs)

escaped_first : (b : ℕ) (parts : List (List ℕ)) → map escaped (onto_first b parts) ≡ onto_front (escaped_byte b) (map escaped parts)
unfolding onto_front
escaped_first b [] = ap (λ w. w ∷ []) (append-nil (escaped_byte b))
escaped_first b (part ∷ parts) = refl

pub split_escaped : (bytes : List ℕ) → AreBytes bytes → slice_split is_slash (escaped bytes) ≡ map escaped (slice_split is_slash bytes)
split_escaped [] all = refl
split_escaped (b ∷ bytes) all = by_byte (eqb b 47) b bytes refl all (split_escaped bytes all.1)
  where
    by_byte : (t : Bool) (b : ℕ) (bytes : List ℕ) → eqb b 47 ≡ t → AreBytes (b ∷ bytes) → slice_split is_slash (escaped bytes) ≡ map escaped (slice_split is_slash bytes) → slice_split is_slash (escaped (b ∷ bytes)) ≡ map escaped (slice_split is_slash (b ∷ bytes))
    by_byte true b bytes e all rest =
        let same = eqb-true b 47 e in
        ap (λ c. slice_split is_slash (escaped (c ∷ bytes))) same ∙ ap (λ parts. [] ∷ parts) rest ∙ ap (map escaped) (sym (slice_split-cons_yes is_slash b bytes e))
    by_byte false b bytes e all rest =
        split_front (escaped_byte b) (escaped bytes) ((sound b all.0).no_slash (λ same. absurd (cc (eq-eqb b 47 same))))
        ∙ ap (onto_front (escaped_byte b)) rest
        ∙ sym (ap (map escaped) (slice_split-cons_no is_slash b bytes e) ∙ escaped_first b (slice_split is_slash bytes))

-- what holds for all bytes holds for the bytes of each part
pub all_of_parts : (P : ℕ → Type 0) (bytes : List ℕ) → AllByRecursion P bytes → AllByRecursion (AllByRecursion P) (slice_split is_slash bytes)
all_of_parts P [] all = (tt, tt)
all_of_parts P (b ∷ bytes) all = by_byte (is_slash b) (slice_split is_slash bytes) (all_of_parts P bytes all.1)
  where
    first_onto : (parts : List (List ℕ)) → AllByRecursion (AllByRecursion P) parts → AllByRecursion (AllByRecursion P) (onto_first b parts)
    first_onto [] h = ((all.0, tt), tt)
    first_onto (part ∷ parts) h = ((all.0, h.0), h.1)

    by_byte : (t : Bool) (parts : List (List ℕ)) → AllByRecursion (AllByRecursion P) parts → AllByRecursion (AllByRecursion P) (cond t ([] ∷ parts) (onto_first b parts))
    by_byte true parts h = (tt, h)
    by_byte false parts h = first_onto parts h

pub bytes_of_parts : (bytes : List ℕ) → AreBytes bytes → AllByRecursion AreBytes (slice_split is_slash bytes)
bytes_of_parts bytes all = all_of_parts (λ b. b < 256) bytes all

pub bytes_same : (xs ys : List ℕ) → bytes_eq xs ys ≡ true → xs ≡ ys
bytes_same [] [] e = refl
bytes_same [] (y ∷ ys) e = absurd (cc)
bytes_same (x ∷ xs) [] e = absurd (cc)
bytes_same (x ∷ xs) (y ∷ ys) e =
    let parts = and_parts (eqb x y) (bytes_eq xs ys) e in
    ap (λ b. b ∷ xs) (eqb-true x y parts.0) ∙ ap (λ bs. y ∷ bs) (bytes_same xs ys parts.1)

name_decoded : (name : List ℕ) → is_name name ≡ true → AreBytes name → decoded (escaped name) ≡ Some name
name_decoded name e all = decoded_escaped name all (no_nul name (name_facts name e).clear)

-- an escaped name is not dropped like an empty component or a dot
name_kept : (name : List ℕ) → is_name name ≡ true → AreBytes name → is_kept (escaped name) ≡ true
name_kept name e all =
    let facts = name_facts name e in
    and_from (not (eqb (length (escaped name)) 0)) (not (bytes_eq (escaped name) (codes ".")))
    (ap (λ t. not t) (ne_eqb _ _ (λ same. absurd (omega (arith, escaped_some name facts.some)))))
    (ap (λ t. not t) (false_from_ne_true _ (λ dot. absurd (no_dot (bytes_same (escaped name) (codes ".") dot)))))
  where
    no_dot : escaped name ≡ codes "." → ⊥
    no_dot same =
        let first : Some name ≡ decoded (codes ".") = sym (name_decoded name e all) ∙ ap decoded same in
        let dot : decoded (codes ".") ≡ Some (codes ".") = plain_decoded (codes ".") refl in
        let equal : name ≡ codes "." = cc in
        absurd (cc (ap (λ n. bytes_eq n (codes ".")) equal, (name_facts name e).no_dot))

pub names_kept : (names : List (List ℕ)) → list_all is_name names ≡ true → AllByRecursion AreBytes names → filter is_kept (map escaped names) ≡ map escaped names
names_kept [] good all = refl
names_kept (name ∷ names) good all =
    let parts = and_parts (is_name name) (list_all is_name names) good in
    cond-true (is_kept (escaped name)) _ _ (name_kept name parts.0 all.0) ∙ ap (λ ns. escaped name ∷ ns) (names_kept names parts.1 all.1)

pub names_decoded : (names : List (List ℕ)) → list_all is_name names ≡ true → AllByRecursion AreBytes names → decoded_each (map escaped names) ≡ Some names
names_decoded [] good all = refl
names_decoded (name ∷ names) good all =
    let parts = and_parts (is_name name) (list_all is_name names) good in
    ap (option_and_then (λ n. option_map (λ ns. n ∷ ns) (decoded_each (map escaped names)))) (name_decoded name parts.0 all.0)
    ∙ ap (option_map (λ ns. name ∷ ns)) (names_decoded names parts.1 all.1)
