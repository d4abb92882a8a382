-- The header of a file, by the first rule that applies.
use Rattle.std.proofs.Common.{◌≡◌, ℕ, ◌+◌, ◌*◌, ◌⊎◌, ◌≤◌, take, lit<, lit≤, get_or-take, Bool, true, false, cond, not, ◌&&◌, ◌||◌, ◌==◌, nat_lt, List, Option, Some, None, is_none, Result, Ok, Err, [], ◌∷◌, refl, ap, sym, ◌∙◌, arith}
use Rattle.std.proofs.lemmas.Bool.Decides.{nat_tests}
use Rattle.std.specs.List.{list_any}
use Rattle.std.specs.Option.{option_map_or}
use Rattle.byteorder.specs.Numbers.{little_from-take}
use Rattle.lib_types.specs.Bytes.{field}
use Rattle.lib_types.specs.declared.abi.Abi.{Abi}
use Rattle.lib_types.specs.declared.analysis.Defect.{Defect}
use Rattle.lib_types.specs.declared.analysis.Defect.TheVariants.{NotElf, TooShort, BadClass, BadData, BadMachine, NotShared, BadPhdrs}
use Rattle.elf_headers.specs.declared.kinds.Head.{Head}
use Rattle.elf_headers.specs.Layout.{class, encoding, is_wide, word_size, at_class, header_length, etype, machine, phoff, phentsize, phnum, program_header_length}
use Rattle.elf_headers.specs.Header.{Sentence, first_defect, unless_defect, has_magic, has_class, abi, abi_in, is_loadable, has_bad_headers, header_sentences_of, head_with, as_head, head_of}
use Rattle.elf_headers.specs.Identified.{IsIdentified}

pub not_elf : (size : ℕ) (bytes : List ℕ) → has_magic bytes ≡ false → head_of size bytes ≡ Err NotElf
unfolding head_of
not_elf size bytes magic = rw magic refl

pub short : (size : ℕ) (bytes : List ℕ) → has_magic bytes ≡ true → nat_lt size 16 ≡ true → head_of size bytes ≡ Err (TooShort size)
unfolding head_of
short size bytes magic h = rw (magic, h) refl

pub bad_class : (size : ℕ) (bytes : List ℕ) → has_magic bytes ≡ true → nat_lt size 16 ≡ false → has_class bytes ≡ false → head_of size bytes ≡ Err (BadClass (class bytes))
unfolding head_of
bad_class size bytes magic long h = rw (magic, long, h) refl

pub bad_data : (size : ℕ) (bytes : List ℕ) → has_magic bytes ≡ true → nat_lt size 16 ≡ false → has_class bytes ≡ true → (encoding bytes == 1) ≡ false → head_of size bytes ≡ Err (BadData (encoding bytes))
unfolding head_of
bad_data size bytes magic long kind h = rw (magic, long, kind, h) refl

-- the rules after those on the identification
abbrev following : ℕ → ℕ → List ℕ → Result Head Defect
following w size bytes =
    cond (nat_lt size (header_length w)) (Err (TooShort size))
    (cond (is_none (abi_in w bytes)) (Err (BadMachine (machine bytes)))
    (cond (not (is_loadable bytes)) (Err (NotShared (etype bytes)))
    (cond (has_bad_headers w size bytes) (Err BadPhdrs)
    (as_head w size bytes))))

by_rest : (a b c d e f g h : Bool) (x1 x2 x3 x4 x5 x6 x7 x8 : Defect) (r : Result Head Defect) → a ≡ true → b ≡ false → c ≡ true → d ≡ true →
    unless_defect (first_defect ((not a, x1) ∷ (b, x2) ∷ (not c, x3) ∷ (not d, x4) ∷ (e, x5) ∷ (f, x6) ∷ (g, x7) ∷ (h, x8) ∷ [])) r
    ≡ cond e (Err x5) (cond f (Err x6) (cond g (Err x7) (cond h (Err x8) r)))
by_rest a b c d true f g h x1 x2 x3 x4 x5 x6 x7 x8 r ha hb hc hd = rw (ha, hb, hc, hd) refl
by_rest a b c d false true g h x1 x2 x3 x4 x5 x6 x7 x8 r ha hb hc hd = rw (ha, hb, hc, hd) refl
by_rest a b c d false false true h x1 x2 x3 x4 x5 x6 x7 x8 r ha hb hc hd = rw (ha, hb, hc, hd) refl
by_rest a b c d false false false true x1 x2 x3 x4 x5 x6 x7 x8 r ha hb hc hd = rw (ha, hb, hc, hd) refl
by_rest a b c d false false false false x1 x2 x3 x4 x5 x6 x7 x8 r ha hb hc hd = rw (ha, hb, hc, hd) refl

pub identified : {w size : ℕ} {bytes : List ℕ} → IsIdentified w size bytes → head_of size bytes ≡ following w size bytes
unfolding head_of
identified {w = w} {size = size} {bytes = bytes} i =
    rw i.width (by_rest
    (has_magic bytes) (nat_lt size 16) (has_class bytes) (encoding bytes == 1) (nat_lt size (header_length w)) (is_none (abi_in w bytes)) (not (is_loadable bytes)) (has_bad_headers w size bytes)
    NotElf (TooShort size) (BadClass (class bytes)) (BadData (encoding bytes)) (TooShort size) (BadMachine (machine bytes)) (NotShared (etype bytes)) BadPhdrs
    (as_head w size bytes) i.magic i.long i.class i.encoding)

pub class_short : {w size : ℕ} {bytes : List ℕ} → IsIdentified w size bytes → nat_lt size (header_length w) ≡ true → head_of size bytes ≡ Err (TooShort size)
class_short i h = identified i ∙ rw h refl

pub bad_machine : {w size : ℕ} {bytes : List ℕ} → IsIdentified w size bytes → nat_lt size (header_length w) ≡ false → abi_in w bytes ≡ None → head_of size bytes ≡ Err (BadMachine (machine bytes))
bad_machine i long h = identified i ∙ rw (long, h) refl

pub not_shared : {w size : ℕ} {bytes : List ℕ} (a : Abi) → IsIdentified w size bytes → nat_lt size (header_length w) ≡ false → abi_in w bytes ≡ Some a → is_loadable bytes ≡ false →
    head_of size bytes ≡ Err (NotShared (etype bytes))
not_shared a i long known h = identified i ∙ rw (long, known, h) refl

pub bad_headers : {w size : ℕ} {bytes : List ℕ} (a : Abi) → IsIdentified w size bytes → nat_lt size (header_length w) ≡ false → abi_in w bytes ≡ Some a → is_loadable bytes ≡ true → has_bad_headers w size bytes ≡ true →
    head_of size bytes ≡ Err BadPhdrs
bad_headers a i long known loadable h = identified i ∙ rw (long, known, loadable, h) refl

pub good : {w size : ℕ} {bytes : List ℕ} (a : Abi) → IsIdentified w size bytes → nat_lt size (header_length w) ≡ false → abi_in w bytes ≡ Some a → is_loadable bytes ≡ true → has_bad_headers w size bytes ≡ false →
    head_of size bytes ≡ Ok (head_with w size bytes a)
good a i long known loadable h = identified i ∙ rw (long, known, loadable, h) refl

pub wide_by : (b : Bool) (w : ℕ) → word_size b ≡ w → (w == 8) ≡ b
wide_by true w h = rw (sym h) refl
wide_by false w h = rw (sym h) refl

-- ---- what an accepted header gives

pub record Gives (size : ℕ) (bytes : List ℕ) (h : Head) : Type 0 where
  pub size_is : h.length ≡ size
  pub wide_is : h.wide ≡ is_wide bytes
  pub phoff_is : h.phoff ≡ phoff (word_size (is_wide bytes)) bytes
  pub phnum_is : h.phnum ≡ phnum (word_size (is_wide bytes)) bytes
  pub etype_is : h.etype ≡ etype bytes
  pub abi_is : abi bytes ≡ Some h.abi
  pub no_defect : first_defect (header_sentences_of (word_size (is_wide bytes)) size bytes) ≡ None

gives_by : (o : Option Defect) (a : Option Abi) (size : ℕ) (bytes : List ℕ) (m : Defect) (h : Head) →
    (let w = word_size (is_wide bytes) in
    unless_defect o (option_map_or (λ a. Ok (head_with w size bytes a)) a (Err m)) ≡ Ok h → (o ≡ None) × (x : Abi) × (a ≡ Some x) × (head_with w size bytes x ≡ h))
gives_by (Some d) a size bytes m h e = absurd (cc)
gives_by None None size bytes m h e = absurd (cc)
gives_by None (Some x) size bytes m h e = (refl, x, refl, cc)

pub gives : {size : ℕ} {bytes : List ℕ} {h : Head} → head_of size bytes ≡ Ok h → Gives size bytes h
unfolding head_of
gives {size = size} {bytes = bytes} {h = h} e =
    let (none, x, known, same) = gives_by _ _ size bytes _ h e in
    record {
      size_is = sym (ap (λ h. h.length) same);
      wide_is = sym (ap (λ h. h.wide) same);
      phoff_is = sym (ap (λ h. h.phoff) same);
      phnum_is = sym (ap (λ h. h.phnum) same);
      etype_is = sym (ap (λ h. h.etype) same);
      abi_is = known ∙ ap (λ h. Some h.abi) same;
      no_defect = none;
    }

-- ---- the header depends only on the first 64 bytes

first_four : (xs : List ℕ) → has_magic (take 64 xs) ≡ has_magic xs
first_four [] = refl
first_four (a ∷ []) = refl
first_four (a ∷ b ∷ []) = refl
first_four (a ∷ b ∷ c ∷ []) = refl
first_four (a ∷ b ∷ c ∷ d ∷ xs) = refl

in_front : (i n : ℕ) (xs : List ℕ) → i + n ≤ 64 → field (take 64 xs) i n ≡ field xs i n
in_front i n xs h = little_from-take i n 64 xs h

fits : (b : Bool) → (at_class (word_size b) 28 32 + word_size b ≤ 64) × (at_class (word_size b) 42 54 + 2 ≤ 64) × (at_class (word_size b) 44 56 + 2 ≤ 64) × (at_class (word_size b) 36 48 + 4 ≤ 64)
fits true = (lit≤ tt, lit≤ tt, lit≤ tt, lit≤ tt)
fits false = (lit≤ tt, lit≤ tt, lit≤ tt, lit≤ tt)

pub front : (size : ℕ) (xs : List ℕ) → head_of size (take 64 xs) ≡ head_of size xs
unfolding head_of
front size xs =
    let kind : class (take 64 xs) ≡ class xs = get_or-take 64 xs 4 0 (lit< tt) in
    let data_is : encoding (take 64 xs) ≡ encoding xs = get_or-take 64 xs 5 0 (lit< tt) in
    let w = word_size (is_wide xs) in
    let within = fits (is_wide xs) in
    rw (
      first_four xs,
      kind,
      data_is,
      in_front 16 2 xs (lit≤ tt),
      in_front 18 2 xs (lit≤ tt),
      in_front (at_class w 28 32) w xs within.0,
      in_front (at_class w 42 54) 2 xs within.1,
      in_front (at_class w 44 56) 2 xs within.2,
      in_front (at_class w 36 48) 4 xs within.3,
    )
    refl

-- ---- the program headers of an accepted header are inside the file

none_holds : (rows : List Sentence) → first_defect rows ≡ None → list_any (λ s. s.0) rows ≡ false
none_holds [] h = refl
none_holds ((true, d) ∷ rows) h = absurd (cc)
none_holds ((false, d) ∷ rows) h = none_holds rows h

last_of : (a b c d e f g h : Bool) → (a || (b || (c || (d || (e || (f || (g || (h || false)))))))) ≡ false → h ≡ false
last_of a b c d e f g h all = grind arith

inside_by : (n each at size : ℕ) (a c : Bool) → (a || (not (n == 0) && (not c || nat_lt size (at + n * each)))) ≡ false → (n ≡ 0) ⊎ (at + n * each ≤ size)
inside_by n each at size a c h = grind (arith, nat_tests)

pub inside : (size : ℕ) (bytes : List ℕ) (h : Head) → head_of size bytes ≡ Ok h → (h.phnum ≡ 0) ⊎ (h.phoff + h.phnum * program_header_length (word_size h.wide) ≤ h.length)
inside size bytes h e =
    let g = gives {size = size} {bytes = bytes} {h = h} e in
    let w = word_size (is_wide bytes) in
    let fine : has_bad_headers w size bytes ≡ false = last_of
    (not (has_magic bytes)) (nat_lt size 16) (not (has_class bytes)) (not (encoding bytes == 1)) (nat_lt size (header_length w)) (is_none (abi bytes)) (not (is_loadable bytes)) (has_bad_headers w size bytes)
    (none_holds (header_sentences_of w size bytes) g.no_defect) in
    let within = inside_by (phnum w bytes) (program_header_length w) (phoff w bytes) size (phnum w bytes == 65535) (phentsize w bytes == program_header_length w) fine in
    rw (g.size_is, g.wide_is, g.phoff_is, g.phnum_is) within

-- ---- a rejected header

fifth_of : (a b c d e f g h : Bool) → (a || (b || (c || (d || (e || (f || (g || (h || false)))))))) ≡ false → f ≡ false
fifth_of a b c d e f g h all = grind arith

defect_by : (o : Option Defect) (a : Option Abi) (size w : ℕ) (bytes : List ℕ) (m x : Defect) → (o ≡ None → is_none a ≡ false) →
    unless_defect o (option_map_or (λ a. Ok (head_with w size bytes a)) a (Err m)) ≡ Err x → o ≡ Some x
defect_by (Some d) a size w bytes m x known h = cc
defect_by None None size w bytes m x known h = absurd (let e = known refl in cc)
defect_by None (Some a) size w bytes m x known h = absurd (cc)

pub has_abi : (size : ℕ) (bytes : List ℕ) → first_defect (header_sentences_of (word_size (is_wide bytes)) size bytes) ≡ None → is_none (abi bytes) ≡ false
has_abi size bytes e =
    let w = word_size (is_wide bytes) in
    fifth_of
    (not (has_magic bytes)) (nat_lt size 16) (not (has_class bytes)) (not (encoding bytes == 1)) (nat_lt size (header_length w)) (is_none (abi bytes)) (not (is_loadable bytes)) (has_bad_headers w size bytes)
    (none_holds (header_sentences_of w size bytes) e)

pub defect_of : (size : ℕ) (bytes : List ℕ) (x : Defect) → head_of size bytes ≡ Err x → first_defect (header_sentences_of (word_size (is_wide bytes)) size bytes) ≡ Some x
unfolding head_of
defect_of size bytes x h = defect_by _ (abi bytes) size (word_size (is_wide bytes)) bytes (BadMachine (machine bytes)) x (has_abi size bytes) h
