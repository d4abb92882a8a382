-- The first value, over a range of numbers, that passes a test.
use Rattle.std.proofs.Common.{◌≡◌, ℕ, suc, ◌+◌, ◌-◌, ◌*◌, ◌<◌, ◌≤◌, Bool, true, false, List, ◌∷◌, length, take, drop, map, find, Option, Some, Ok, refl, ap, sym, ◌∙◌, arith}
use Rattle.std.specs.List.{range_with_len}
use Rattle.tree_face.specs.Known.{IfKnown}
use Rattle.elf_headers.specs.declared.kinds.Head.{Head}
use Rattle.elf_headers.specs.declared.kinds.Segment.{Segment}
use Rattle.elf_headers.specs.Header.{head}
use Rattle.elf_headers.specs.Layout.{word_size, phnum, program_header_length, segment_at, segment, segments}
use Rattle.elf_headers.proofs.Heads.{gives}
use Rattle.elf_headers.proofs.Windows.{segment_here}
use Rattle.elf_dynamic.specs.declared.window.Window.{Window}
use Rattle.elf_dynamic.specs.Windows.{header_at, unread_from}
use Rattle.elf_dynamic.proofs.Known.{with, both}

range_first : {X : Type 0} (f : ℕ → X) (i n : ℕ) → i < n → map f (range_with_len i (n - i)) ≡ f i ∷ map f (range_with_len (i + 1) (n - (i + 1)))
range_first f i n h = let e : n - i ≡ suc (n - (i + 1)) = omega arith in ap (λ k. map f (range_with_len i k)) e

-- the first of the values for the numbers from i to n
abbrev pub found_from : {X : Type 0} → (X → Bool) → (ℕ → X) → ℕ → ℕ → Option X
found_from p f i n = find p (map f (range_with_len i (n - i)))

pub found_on : {X : Type 0} (p : X → Bool) (f : ℕ → X) (i n : ℕ) → i < n → p (f i) ≡ false → found_from p f i n ≡ found_from p f (i + 1) n
found_on p f i n h e = rw (range_first f i n h, e) refl

pub found_here : {X : Type 0} (p : X → Bool) (f : ℕ → X) (i n : ℕ) → i < n → p (f i) ≡ true → found_from p f i n ≡ Some (f i)
found_here p f i n h e = rw (range_first f i n h, e) refl

-- ---- the segments of a file

pub found_in : (known : Option (List ℕ)) (h : Head) (p : Segment → Bool) → IfKnown known (λ bytes. head bytes ≡ Ok h) →
    IfKnown known (λ bytes. let w = word_size h.wide in find p (segments w bytes) ≡ found_from p (segment w bytes) 0 h.phnum)
unfolding segments
found_in known h p is_head =
    with {P = λ bytes. head bytes ≡ Ok h} {Q = λ bytes. find p (segments (word_size h.wide) bytes) ≡ found_from p (segment (word_size h.wide) bytes) 0 h.phnum} known is_head
    (λ bytes e.
    let given = gives {size = length bytes} {bytes = bytes} {h = h} e in
    let count : phnum (word_size h.wide) bytes ≡ h.phnum - 0 = ap (λ b. phnum (word_size b) bytes) given.wide_is ∙ sym given.phnum_is ∙ omega arith in
    ap (λ n. find p (map (segment (word_size h.wide) bytes) (range_with_len 0 n))) count)

pub segment_known : (known : Option (List ℕ)) (h : Head) (index n : ℕ) (front : List ℕ) (s : Segment) → program_header_length (word_size h.wide) ≤ n → s ≡ segment_at (word_size h.wide) front 0 →
    IfKnown known (λ bytes. head bytes ≡ Ok h) → IfKnown known (λ bytes. front ≡ take n (drop (header_at h index) bytes)) → IfKnown known (λ bytes. s ≡ segment (word_size h.wide) bytes index)
segment_known known h index n front s enough is is_head read =
    both {P = λ bytes. head bytes ≡ Ok h} {Q = λ bytes. front ≡ take n (drop (header_at h index) bytes)} {R = λ bytes. s ≡ segment (word_size h.wide) bytes index} known is_head read
    (λ bytes e read. is ∙ segment_here (word_size h.wide) h index n front bytes refl e enough read)

pub next_known : (known : Option (List ℕ)) (p : Segment → Bool) (w i n : ℕ) (s : Segment) (whole : List ℕ → Option Segment) → i < n → p s ≡ false → IfKnown known (λ bytes. s ≡ segment w bytes i) →
    IfKnown known (λ bytes. whole bytes ≡ found_from p (segment w bytes) i n) → IfKnown known (λ bytes. whole bytes ≡ found_from p (segment w bytes) (i + 1) n)
next_known known p w i n s whole h e here all =
    both {P = λ bytes. s ≡ segment w bytes i} {Q = λ bytes. whole bytes ≡ found_from p (segment w bytes) i n} {R = λ bytes. whole bytes ≡ found_from p (segment w bytes) (i + 1) n} known here all
    (λ bytes is all. all ∙ found_on p (segment w bytes) i n h (ap p (sym is) ∙ e))

pub here_known : (known : Option (List ℕ)) (p : Segment → Bool) (w i n : ℕ) (s : Segment) (whole : List ℕ → Option Segment) → i < n → p s ≡ true → IfKnown known (λ bytes. s ≡ segment w bytes i) →
    IfKnown known (λ bytes. whole bytes ≡ found_from p (segment w bytes) i n) → IfKnown known (λ bytes. Some s ≡ whole bytes)
here_known known p w i n s whole h e here all =
    both {P = λ bytes. s ≡ segment w bytes i} {Q = λ bytes. whole bytes ≡ found_from p (segment w bytes) i n} {R = λ bytes. Some s ≡ whole bytes} known here all
    (λ bytes is all. ap Some is ∙ sym (found_here p (segment w bytes) i n h (ap p (sym is) ∙ e)) ∙ sym all)

-- ---- the bytes that were read

abbrev Few : Bool → ℕ → ℕ → Type 0
Few wide at n = at + n * program_header_length (word_size wide) - (at + 0 * program_header_length (word_size wide)) ≤ 56 * n

few : (wide : Bool) (at n : ℕ) → Few wide at n
few true at n = omega arith
few false at n = omega arith

pub unread_first : (w : Window) (h : Head) → unread_from w h 0 ≤ 112 * h.phnum
unread_first w h = let all = few h.wide h.phoff h.phnum in omega (arith, all)
