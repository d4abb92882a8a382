-- The bytes before the first NUL, read in pieces.
use Rattle.std.proofs.Common.{◌≡◌, position, is_some, Result, Ok, Err, IfOk, ◌⊎◌, inl, inr, ◌&&◌, length-take, length-drop, ℕ, ◌+◌, ◌-◌, ◌<◌, ◌≤◌, min, Bool, true, false, cond, not, nat_lt, ◌||◌, List, [], ◌∷◌, ◌++◌, length, take, drop, Option, Some, None, option_map, refl, ap, sym, ◌∙◌, arith, append_assoc}
use Rattle.std.proofs.lemmas.Bool.{cases_lt}
use Rattle.std.proofs.lemmas.Bool.Decides.{nat_tests}
use Rattle.std.proofs.lemmas.List.{take-append-drop, take-take, take_all, take_min}
use Rattle.std.proofs.lemmas.List.Folds.{list_any-append}
use Rattle.std.specs.List.{list_any, take_while}
use Rattle.lib_types.proofs.FirstByte.{is_some_position}
use Rattle.tree_face.specs.Known.{IfKnown}
use Rattle.elf_dynamic.specs.declared.kinds.Place.{Place}
use Rattle.elf_dynamic.specs.Section.{bytes_of, is_nul, near, has_text_at}
use Rattle.elf_dynamic.specs.Texts.{before_nul, text_found}
use Rattle.elf_dynamic.proofs.Known.{with, both}
use Rattle.elf_dynamic.proofs.Live.{while_true, while_false, part_on}
use Rattle.elf_dynamic.specs.declared.text.TheConstants.{TEXT_LIMIT}

-- ---- two pieces

abbrev pub live : ℕ → Bool
live b = not (is_nul b)

while_none : (xs : List ℕ) → list_any is_nul xs ≡ false → take_while live xs ≡ xs
while_none [] h = refl
while_none (x ∷ xs) h = elim (is_nul x) as (λ b. is_nul x ≡ b → (b || list_any is_nul xs) ≡ false → take_while live (x ∷ xs) ≡ x ∷ xs) [
  | true ↦ λ e k. absurd (cc)
  | false ↦ λ e k. while_true live x xs (ap not e) ∙ ap (λ ys. x ∷ ys) (while_none xs k)
] refl h

while_there : (xs ys : List ℕ) → list_any is_nul xs ≡ true → take_while live (xs ++ ys) ≡ take_while live xs
while_there [] ys h = absurd (cc)
while_there (x ∷ xs) ys h = elim (is_nul x) as (λ b. is_nul x ≡ b → (b || list_any is_nul xs) ≡ true → take_while live (x ∷ (xs ++ ys)) ≡ take_while live (x ∷ xs)) [
  | true ↦ λ e k. while_false live x (xs ++ ys) (ap not e) ∙ sym (while_false live x xs (ap not e))
  | false ↦ λ e k. while_true live x (xs ++ ys) (ap not e) ∙ ap (λ zs. x ∷ zs) (while_there xs ys k) ∙ sym (while_true live x xs (ap not e))
] refl h

while_on : (xs ys : List ℕ) → list_any is_nul xs ≡ false → take_while live (xs ++ ys) ≡ xs ++ take_while live ys
while_on [] ys h = refl
while_on (x ∷ xs) ys h = elim (is_nul x) as (λ b. is_nul x ≡ b → (b || list_any is_nul xs) ≡ false → take_while live (x ∷ (xs ++ ys)) ≡ x ∷ (xs ++ take_while live ys)) [
  | true ↦ λ e k. absurd (cc)
  | false ↦ λ e k. while_true live x (xs ++ ys) (ap not e) ∙ ap (λ zs. x ∷ zs) (while_on xs ys k)
] refl h

nul_there : (xs ys : List ℕ) → list_any is_nul xs ≡ true → before_nul (xs ++ ys) ≡ Some (take_while live xs)
nul_there xs ys h = rw (list_any-append is_nul xs ys, h, while_there xs ys h) refl

some_if : (b : Bool) (xs ys : List ℕ) → cond b (Some (xs ++ ys)) None ≡ option_map (λ r. xs ++ r) (cond b (Some ys) None)
some_if true xs ys = refl
some_if false xs ys = refl

nul_after : (xs ys : List ℕ) → list_any is_nul xs ≡ false → before_nul (xs ++ ys) ≡ option_map (λ r. xs ++ r) (before_nul ys)
nul_after xs ys h = rw (list_any-append is_nul xs ys, h, while_on xs ys h) (some_if (list_any is_nul ys) xs (take_while live ys))

-- ---- the pieces of a file

pub cut : (count left at : ℕ) (bytes : List ℕ) → count ≤ left → take left (drop at bytes) ≡ take count (drop at bytes) ++ take (left - count) (drop (at + count) bytes)
cut count left at bytes h =
    let front = take-take count left (drop at bytes) h in
    let rest = part_on count left at bytes h in
    sym (take-append-drop count (take left (drop at bytes))) ∙ rw (front, rest) refl

map_map : (xs ys : List ℕ) (o : Option (List ℕ)) → option_map (λ r. (xs ++ ys) ++ r) o ≡ option_map (λ r. xs ++ r) (option_map (λ r. ys ++ r) o)
map_map xs ys None = refl
map_map xs ys (Some zs) = rw append_assoc refl

abbrev Is : List ℕ → ℕ → ℕ → (List ℕ → Option (List ℕ)) → List ℕ → Type 0
Is found at left all bytes = option_map (λ r. found ++ r) (before_nul (take left (drop at bytes))) ≡ all bytes

pub ended_here : (known : Option (List ℕ)) (found piece new : List ℕ) (at count left : ℕ) (all : List ℕ → Option (List ℕ)) → count ≤ left → list_any is_nul piece ≡ true → new ≡ found ++ take_while live piece →
    IfKnown known (λ bytes. piece ≡ take count (drop at bytes)) → IfKnown known (Is found at left all) → IfKnown known (λ bytes. Some new ≡ all bytes)
ended_here known found piece new at count left all h nul more read whole =
    both {P = λ bytes. piece ≡ take count (drop at bytes)} {Q = Is found at left all} {R = λ bytes. Some new ≡ all bytes} known read whole
    (λ bytes read whole.
    let rest = take (left - count) (drop (at + count) bytes) in
    let split : take left (drop at bytes) ≡ piece ++ rest = cut count left at bytes h ∙ ap (λ xs. xs ++ rest) (sym read) in
    let here : before_nul (take left (drop at bytes)) ≡ Some (take_while live piece) = ap before_nul split ∙ nul_there piece rest nul in
    ap Some more ∙ sym (ap (option_map (λ r. found ++ r)) here) ∙ whole)

pub goes_on : (known : Option (List ℕ)) (found piece new : List ℕ) (at count left : ℕ) (all : List ℕ → Option (List ℕ)) → count ≤ left → list_any is_nul piece ≡ false → new ≡ found ++ take_while live piece →
    IfKnown known (λ bytes. piece ≡ take count (drop at bytes)) → IfKnown known (Is found at left all) → IfKnown known (Is new (at + count) (left - count) all)
goes_on known found piece new at count left all h none more read whole =
    both {P = λ bytes. piece ≡ take count (drop at bytes)} {Q = Is found at left all} {R = Is new (at + count) (left - count) all} known read whole
    (λ bytes read whole.
    let rest = take (left - count) (drop (at + count) bytes) in
    let split : take left (drop at bytes) ≡ piece ++ rest = cut count left at bytes h ∙ ap (λ xs. xs ++ rest) (sym read) in
    let following : before_nul (take left (drop at bytes)) ≡ option_map (λ r. piece ++ r) (before_nul rest) = ap before_nul split ∙ nul_after piece rest none in
    let all_of_it : new ≡ found ++ piece = more ∙ ap (λ xs. found ++ xs) (while_none piece none) in
    ap (λ xs. option_map (λ r. xs ++ r) (before_nul rest)) all_of_it ∙ map_map found piece (before_nul rest) ∙ sym (ap (option_map (λ r. found ++ r)) following) ∙ whole)

-- ---- whether there is a NUL, read in pieces

abbrev Has : ℕ → ℕ → (List ℕ → Bool) → List ℕ → Type 0
Has at end all bytes = list_any is_nul (take (end - at) (drop at bytes)) ≡ all bytes

pub some_nul : (piece : List ℕ) (o : Option ℕ) (b : Bool) → o ≡ position is_nul piece → b ≡ is_some o → list_any is_nul piece ≡ b
some_nul piece o b e f = sym (f ∙ ap is_some e ∙ is_some_position is_nul piece)

split_nul : (piece : List ℕ) (at count end : ℕ) (bytes : List ℕ) → count ≤ end - at → piece ≡ take count (drop at bytes) →
    list_any is_nul (take (end - at) (drop at bytes)) ≡ (list_any is_nul piece || list_any is_nul (take (end - at - count) (drop (at + count) bytes)))
split_nul piece at count end bytes h read =
    let rest = take (end - at - count) (drop (at + count) bytes) in
    ap (list_any is_nul) (cut count (end - at) at bytes h ∙ ap (λ xs. xs ++ rest) (sym read)) ∙ list_any-append is_nul piece rest

pub nul_here : (known : Option (List ℕ)) (piece : List ℕ) (at count end : ℕ) (all : List ℕ → Bool) → count ≤ end - at → list_any is_nul piece ≡ true →
    IfKnown known (λ bytes. piece ≡ take count (drop at bytes)) → IfKnown known (Has at end all) → IfKnown known (λ bytes. true ≡ all bytes)
nul_here known piece at count end all h nul read whole =
    both {P = λ bytes. piece ≡ take count (drop at bytes)} {Q = Has at end all} {R = λ bytes. true ≡ all bytes} known read whole
    (λ bytes read whole. sym (split_nul piece at count end bytes h read ∙ rw nul refl) ∙ whole)

pub nul_on : (known : Option (List ℕ)) (piece : List ℕ) (at count end : ℕ) (all : List ℕ → Bool) → count ≤ end - at → list_any is_nul piece ≡ false →
    IfKnown known (λ bytes. piece ≡ take count (drop at bytes)) → IfKnown known (Has at end all) → IfKnown known (Has (at + count) end all)
nul_on known piece at count end all h none read whole =
    both {P = λ bytes. piece ≡ take count (drop at bytes)} {Q = Has at end all} {R = Has (at + count) end all} known read whole
    (λ bytes read whole.
    let left : end - (at + count) ≡ end - at - count = omega arith in
    ap (λ n. list_any is_nul (take n (drop (at + count) bytes))) left ∙ sym (split_nul piece at count end bytes h read ∙ rw none refl) ∙ whole)

-- ---- the text at an offset of a table

near_is : (most offset at size : ℕ) (bytes : List ℕ) → offset < size → most ≡ min (size - offset) TEXT_LIMIT → take TEXT_LIMIT (drop offset (take size (drop at bytes))) ≡ take most (drop (at + offset) bytes)
near_is most offset at size bytes h e =
    let part = part_on offset size at bytes (omega arith) in
    let rest = drop (at + offset) bytes in
    let n = size - offset in
    let by : (n < TEXT_LIMIT) ⊎ (TEXT_LIMIT ≤ n) → take TEXT_LIMIT (take n rest) ≡ take most rest =
    λ c. elim c as (λ _. take TEXT_LIMIT (take n rest) ≡ take most rest) [
      | inl less ↦ let same : n ≡ most = omega arith in take_all TEXT_LIMIT (take n rest) (omega (arith, length-take n rest)) ∙ ap (λ k. take k rest) same
      | inr more ↦ let same : TEXT_LIMIT ≡ most = omega arith in take-take TEXT_LIMIT n rest more ∙ ap (λ k. take k rest) same
    ] in
    ap (take TEXT_LIMIT) part ∙ by (cases_lt n TEXT_LIMIT)

within_table : (offset : ℕ) (t : Place) (bytes : List ℕ) → offset < t.size → t.at + t.size ≤ length bytes → nat_lt offset (length (bytes_of t bytes)) ≡ true
within_table offset t bytes h inside =
    let size : length (take t.size (drop t.at bytes)) ≡ t.size = length-take t.size (drop t.at bytes) ∙ ap (min t.size) (length-drop t.at bytes) ∙ omega arith in
    ap (nat_lt offset) size ∙ grind (arith, nat_tests)

text_by : (a : Bool) (b : Bool) (o : Option (List ℕ)) → a ≡ true → cond b o None ≡ cond (a && b) o None
text_by a b o h = rw h refl

text_is : (most offset : ℕ) (t : Place) (bytes : List ℕ) → offset < t.size → t.at + t.size ≤ length bytes → most ≡ min (t.size - offset) TEXT_LIMIT →
    before_nul (take most (drop (t.at + offset) bytes)) ≡ text_found (bytes_of t bytes) offset
unfolding near
text_is most offset t bytes h inside e =
    ap before_nul (sym (near_is most offset t.at t.size bytes h e)) ∙ text_by (nat_lt offset (length (bytes_of t bytes))) _ _ (within_table offset t bytes h inside)

has_by : (a b : Bool) → a ≡ true → b ≡ (a && b)
has_by a b h = rw h refl

has_is : (most offset : ℕ) (t : Place) (bytes : List ℕ) → offset < t.size → t.at + t.size ≤ length bytes → most ≡ min (t.size - offset) TEXT_LIMIT →
    list_any is_nul (take most (drop (t.at + offset) bytes)) ≡ has_text_at (bytes_of t bytes) offset
unfolding near
has_is most offset t bytes h inside e =
    ap (list_any is_nul) (sym (near_is most offset t.at t.size bytes h e)) ∙ has_by (nat_lt offset (length (bytes_of t bytes))) _ (within_table offset t bytes h inside)

pub text_known : {F : Type 0} (known : Option (List ℕ)) (most offset : ℕ) (t : Place) (size : ℕ) (r : Result (Option (List ℕ)) F) → offset < t.size → t.at + t.size ≤ size → most ≡ min (t.size - offset) TEXT_LIMIT →
    IfKnown known (λ bytes. length bytes ≡ size) → IfOk r (λ o. IfKnown known (λ bytes. o ≡ before_nul (take most (drop (t.at + offset) bytes)))) →
    IfOk r (λ o. IfKnown known (λ bytes. o ≡ text_found (bytes_of t bytes) offset))
text_known known most offset t size (Err f) h inside e same read = tt
text_known known most offset t size (Ok o) h inside e same read =
    both {P = λ bytes. length bytes ≡ size} {Q = λ bytes. o ≡ before_nul (take most (drop (t.at + offset) bytes))} {R = λ bytes. o ≡ text_found (bytes_of t bytes) offset} known same read
    (λ bytes same read. read ∙ text_is most offset t bytes h (omega arith) e)

pub nul_known : {F : Type 0} (known : Option (List ℕ)) (most offset : ℕ) (t : Place) (size : ℕ) (r : Result Bool F) → offset < t.size → t.at + t.size ≤ size → most ≡ min (t.size - offset) TEXT_LIMIT →
    IfKnown known (λ bytes. length bytes ≡ size) → IfOk r (λ b. IfKnown known (λ bytes. b ≡ list_any is_nul (take most (drop (t.at + offset) bytes)))) →
    IfOk r (λ b. IfKnown known (λ bytes. b ≡ has_text_at (bytes_of t bytes) offset))
nul_known known most offset t size (Err f) h inside e same read = tt
nul_known known most offset t size (Ok b) h inside e same read =
    both {P = λ bytes. length bytes ≡ size} {Q = λ bytes. b ≡ list_any is_nul (take most (drop (t.at + offset) bytes))} {R = λ bytes. b ≡ has_text_at (bytes_of t bytes) offset} known same read
    (λ bytes same read. read ∙ has_is most offset t bytes h (omega arith) e)

take_take_min : (n r : ℕ) (xs : List ℕ) → take n (take r xs) ≡ take (min n r) xs
take_take_min n r xs = elim (cases_lt r n) as (λ _. take n (take r xs) ≡ take (min n r) xs) [
  | inl less ↦ let same : r ≡ min n r = omega arith in take_all n (take r xs) (omega (arith, length-take r xs)) ∙ ap (λ k. take k xs) same
  | inr more ↦ let same : n ≡ min n r = omega arith in take-take n r xs more ∙ ap (λ k. take k xs) same
]

-- the first bytes of what a window holds
pub front_of : (known : Option (List ℕ)) (piece part : List ℕ) (at ready left : ℕ) → piece ≡ take left part → IfKnown known (λ bytes. part ≡ take ready (drop at bytes)) → IfKnown known (λ bytes. piece ≡ take (length piece) (drop at bytes))
front_of known piece part at ready left e read =
    with {P = λ bytes. part ≡ take ready (drop at bytes)} {Q = λ bytes. piece ≡ take (length piece) (drop at bytes)} known read
    (λ bytes read.
    let rest = drop at bytes in
    let is : piece ≡ take (min left ready) rest = e ∙ ap (take left) read ∙ take_take_min left ready rest in
    let size : length piece ≡ min (min left ready) (length rest) = ap length is ∙ length-take (min left ready) rest in
    is ∙ sym (take_min (min left ready) rest) ∙ ap (λ k. take k rest) (sym size))
