-- The content of a window after a read from a store.
use Rattle.std.proofs.Common.{◌≡◌, cond, ◌⊎◌, inl, inr, ℕ, suc, ◌*◌, Bool, true, false, lit≤, option_and_then, ◌+◌, ◌-◌, ◌<◌, ◌≤◌, min, List, ◌++◌, length, take, drop, Option, Some, None, Result, Ok, IfSome, IsSomeAnd, refl, subst, ap, sym, ◌∙◌, arith, length-drop, length-take}
use Rattle.std.proofs.Math.Nat.{mul-le-mul_right}
use Rattle.std.proofs.lemmas.List.{take-append-le, take_all, take_min}
use Rattle.lib_types.specs.declared.analysis.Defect.{Defect}
use Rattle.tree_face.specs.Known.{IfKnown}
use Rattle.tree_face.specs.Store.{Contents, StoreState, HasBegun, Begins, Reads}
use Rattle.elf_headers.specs.declared.kinds.Head.{Head}
use Rattle.elf_headers.specs.Layout.{is_wide, at_class, word_size, phoff, program_header_length, segment_at, segment}
use Rattle.lib_types.proofs.Fields.{field_window}
use Rattle.elf_headers.specs.Header.{head, head_of}
use Rattle.elf_headers.specs.Reading.{known_content, OfContent, IsHeadOf}
use Rattle.elf_headers.proofs.Heads.{front, gives}

-- After a read, the front of the buffer is the front of the bytes at the offset.
pub window : (m n at : ℕ) (xs before buf : List ℕ) → buf ≡ take n (drop at xs) ++ drop n before → n ≡ min m (length xs - at) → take n buf ≡ take m (drop at xs)
window m n at xs before buf e count =
    let rest = drop at xs in
    let size : length rest ≡ length xs - at = length-drop at xs in
    let within : n ≤ length rest = omega arith in
    let taken : length (take n rest) ≡ n = length-take n rest ∙ omega arith in
    let whole : take n (take n rest) ≡ take n rest = take_all n (take n rest) (omega arith) in
    let least : take n rest ≡ take m rest = ap (λ k. take k rest) (count ∙ ap (λ k. min m k) (sym size)) ∙ take_min m rest in
    ap (take n) e ∙ take-append-le n (take n rest) (drop n before) (omega arith) ∙ whole ∙ least

-- a read that fills the buffer
pub filled : (m n at size : ℕ) (xs before buf : List ℕ) → length xs ≡ size → at + m ≤ size → length buf ≡ m → n ≡ min m (size - at) → buf ≡ take n (drop at xs) ++ drop n before → buf ≡ take m (drop at xs)
filled m n at size xs before buf known within full count e =
    let all : take n buf ≡ buf = take_all n buf (omega arith) in
    sym all ∙ window m n at xs before buf e (omega arith)

-- ---- the front of the open file

pub record IsFront (size count : ℕ) (buf : List ℕ) (s : StoreState) (bytes : List ℕ) : Type 0 where
  pub size_is : length bytes ≡ size
  pub head_is : head_of size (take count buf) ≡ head bytes
  pub content_is : known_content s ≡ Some bytes

some_and : (P : List ℕ → Type 0) (o : Option (List ℕ)) (bytes : List ℕ) → o ≡ Some bytes → P bytes → IsSomeAnd o P
some_and P o bytes e h = rw e h

known_is : (s : StoreState) (held : Contents) (bytes : List ℕ) → s.held ≡ Some held → s.content ≡ Some bytes → known_content s ≡ Some bytes
known_is s held bytes h c = rw (h, c) refl

none_known : (s : StoreState) → s.held ≡ None → known_content s ≡ None
none_known s h = rw h refl

front_by : {s0 s1 s2 : StoreState} {key before buf : List ℕ} {size count : ℕ} (known : Option Contents) → s0.held ≡ known → Begins s0 s1 key (Ok size) → Reads s1 s2 0 before buf (Ok count) → length before ≡ 64 →
    OfContent known key (IsFront size count buf s2)
front_by None e b r l = tt
front_by {s1 = s1} {s2 = s2} {key = key} {before = before} {buf = buf} {size = size} {count = count} (Some held) e b r l =
    let begun : HasBegun s1 held key size = subst (λ o. IfKnown o (λ held. HasBegun s1 held key size)) e b.content in
    let bytes = begun.bytes in
    let read : buf ≡ take count (drop 0 bytes) ++ drop count before =
    subst (λ o. IfKnown o (λ content. buf ≡ take count (drop 0 content) ++ drop count before)) begun.content r.bytes in
    let many : count ≡ min (length before) (size - 0) = subst (λ o. IfSome o (λ size. count ≡ min (length before) (size - 0))) b.size r.count in
    let front_is : take count buf ≡ take 64 bytes = window 64 count 0 bytes before buf read (many ∙ rw (l, begun.size) refl) in
    let content_is = known_is s2 held bytes (r.held ∙ b.held ∙ e) (r.content ∙ begun.content) in
    let same : head_of size (take count buf) ≡ head bytes = ap (head_of size) front_is ∙ front size bytes ∙ ap (λ n. head_of n bytes) (sym begun.size) in
    let found : IsFront size count buf s2 bytes = record { size_is = begun.size; head_is = same; content_is = content_is } in
    some_and (IsFront size count buf s2) (held key) bytes begun.under_key found

pub front_of : {s0 s1 s2 : StoreState} {key before buf : List ℕ} {size count : ℕ} → Begins s0 s1 key (Ok size) → Reads s1 s2 0 before buf (Ok count) → length before ≡ 64 →
    OfContent s0.held key (IsFront size count buf s2)
front_of {s0 = s0} b r l = front_by s0.held refl b r l

pub weaken : {P Q : List ℕ → Type 0} (known : Option Contents) (key : List ℕ) → ((bytes : List ℕ) → P bytes → Q bytes) → OfContent known key P → OfContent known key Q
weaken None key f h = tt
weaken {P = P} {Q = Q} (Some held) key f h = by (held key) h
  where
    by : (o : Option (List ℕ)) → IsSomeAnd o P → IsSomeAnd o Q
    by None h = h
    by (Some bytes) h = f bytes h

-- ---- if the content is known

pub weaken_known : {P Q : List ℕ → Type 0} (known : Option (List ℕ)) → ((bytes : List ℕ) → known ≡ Some bytes → P bytes → Q bytes) → IfKnown known P → IfKnown known Q
weaken_known None f h = tt
weaken_known (Some bytes) f h = f bytes refl h

-- the header that was read is the header of the content
pub head_of_content : {s0 s1 s2 : StoreState} {key before buf : List ℕ} {size count : ℕ} (r : Result Head Defect) → Begins s0 s1 key (Ok size) → Reads s1 s2 0 before buf (Ok count) → length before ≡ 64 →
    head_of size (take count buf) ≡ r → OfContent s0.held key (λ bytes. head bytes ≡ r)
head_of_content {s0 = s0} {s2 = s2} {key = key} {buf = buf} {size = size} {count = count} r b w l e =
    weaken {P = IsFront size count buf s2} {Q = λ bytes. head bytes ≡ r} s0.held key (λ bytes i. sym i.head_is ∙ e) (front_of b w l)

known_by : (s : StoreState) (key : List ℕ) (r : Result Head Defect) (size count : ℕ) (buf : List ℕ) (known : Option Contents) → s.held ≡ known → head_of size (take count buf) ≡ r → OfContent known key (IsFront size count buf s) →
    IfKnown (known_content s) (λ bytes. head bytes ≡ r)
known_by s key r size count buf None e h f = subst (λ o. IfKnown o (λ bytes. head bytes ≡ r)) (sym (none_known s e)) tt
known_by s key r size count buf (Some held) e h f = by (held key) f
  where
    by : (o : Option (List ℕ)) → IsSomeAnd o (IsFront size count buf s) → IfKnown (known_content s) (λ bytes. head bytes ≡ r)
    by None f = absurd f
    by (Some bytes) f = subst (λ o. IfKnown o (λ bytes. head bytes ≡ r)) (sym f.content_is) (sym f.head_is ∙ h)

-- the same for the content of the open file
pub head_of_known : {s0 s1 s2 : StoreState} {key before buf : List ℕ} {size count : ℕ} (r : Result Head Defect) → Begins s0 s1 key (Ok size) → Reads s1 s2 0 before buf (Ok count) → length before ≡ 64 →
    head_of size (take count buf) ≡ r → IfKnown (known_content s2) (λ bytes. head bytes ≡ r)
head_of_known {s0 = s0} {s2 = s2} {key = key} {buf = buf} {size = size} {count = count} r b w l e =
    known_by s2 key r size count buf s0.held (w.held ∙ b.held) e (front_of b w l)

-- the open file has the content of this key
pub content_known : {s0 s1 s2 : StoreState} {key before buf : List ℕ} {size count : ℕ} → Begins s0 s1 key (Ok size) → Reads s1 s2 0 before buf (Ok count) → length before ≡ 64 →
    OfContent s0.held key (λ bytes. known_content s2 ≡ Some bytes)
content_known {s0 = s0} {s2 = s2} {key = key} {buf = buf} {size = size} {count = count} b w l =
    weaken {P = IsFront size count buf s2} {Q = λ bytes. known_content s2 ≡ Some bytes} s0.held key (λ bytes i. i.content_is) (front_of b w l)

-- ---- windows of the content

pub content_of : (s : StoreState) (bytes : List ℕ) → known_content s ≡ Some bytes → s.content ≡ Some bytes
content_of s bytes h = by s.held refl h
  where
    by : (o : Option Contents) → s.held ≡ o → option_and_then (λ _. s.content) o ≡ Some bytes → s.content ≡ Some bytes
    by None e h = absurd (cc)
    by (Some held) e h = h

pub filled_known : (s0 s1 : StoreState) (at n size : ℕ) (before buf bytes : List ℕ) → Reads s0 s1 at before buf (Ok n) → s0.size ≡ Some size → at + length before ≤ size → length buf ≡ length before →
    known_content s0 ≡ Some bytes → length bytes ≡ size → buf ≡ take (length before) (drop at bytes)
filled_known s0 s1 at n size before buf bytes r known within full content same =
    let read : buf ≡ take n (drop at bytes) ++ drop n before =
    subst (λ o. IfKnown o (λ content. buf ≡ take n (drop at content) ++ drop n before)) (content_of s0 bytes content) r.bytes in
    let many : n ≡ min (length before) (size - at) = subst (λ o. IfSome o (λ size. n ≡ min (length before) (size - at))) known r.count in
    filled (length before) n at size bytes before buf same within full many read

-- ---- the program header in a window

abbrev Fits : ℕ → Type 0
Fits w =
    let m = program_header_length w in
    (at_class w 4 8 + w ≤ m) × (at_class w 8 16 + w ≤ m) × (at_class w 16 32 + w ≤ m) × (4 ≤ m)

fits : (b : Bool) → Fits (word_size b)
fits true = (lit≤ tt, lit≤ tt, lit≤ tt, lit≤ tt)
fits false = (lit≤ tt, lit≤ tt, lit≤ tt, lit≤ tt)

-- from the bytes that start at the program header
segment_window : (w n at : ℕ) (bytes : List ℕ) → Fits w → program_header_length w ≤ n → segment_at w (take n (drop at bytes)) 0 ≡ segment_at w bytes at
segment_window w n at bytes within enough =
    let kind = field_window n at 0 at 4 bytes (omega (arith, within.3)) (omega arith) in
    let offset = field_window n at (0 + at_class w 4 8) (at + at_class w 4 8) w bytes (omega (arith, within.0)) (omega arith) in
    let vaddr = field_window n at (0 + at_class w 8 16) (at + at_class w 8 16) w bytes (omega (arith, within.1)) (omega arith) in
    let filesz = field_window n at (0 + at_class w 16 32) (at + at_class w 16 32) w bytes (omega (arith, within.2)) (omega arith) in
    rw (kind, offset, vaddr, filesz) refl

pub segment_here : (w : ℕ) (h : Head) (index n : ℕ) (front bytes : List ℕ) → word_size h.wide ≡ w → head bytes ≡ Ok h → program_header_length w ≤ n → front ≡ take n (drop (h.phoff + index * program_header_length w) bytes) →
    segment_at w front 0 ≡ segment w bytes index
segment_here w h index n front bytes width e enough read =
    let given = gives {size = length bytes} {bytes = bytes} {h = h} e in
    let wide : word_size (is_wide bytes) ≡ w = ap word_size (sym given.wide_is) ∙ width in
    let phoff_is : phoff w bytes ≡ h.phoff = ap (λ w. phoff w bytes) (sym wide) ∙ sym given.phoff_is in
    ap (λ b. segment_at w b 0) read
    ∙ segment_window w n (h.phoff + index * program_header_length w) bytes (subst Fits width (fits h.wide)) enough
    ∙ ap (λ k. segment_at w bytes (k + index * program_header_length w)) (sym phoff_is)

within_by : (at phoff index each n size : ℕ) → at ≡ phoff + index * each → index < n → (n ≡ 0) ⊎ (phoff + n * each ≤ size) → at + each ≤ size
within_by at phoff index each n size e h (inl none) = absurd (omega arith)
within_by at phoff index each n size e h (inr all) = let more : suc index * each ≤ n * each = mul-le-mul_right each h in omega arith

-- the segment in a window is the segment of the program header that was read
pub segment_read : (w : ℕ) (h : Head) (s0 s1 : StoreState) (at index n : ℕ) (before buf bytes : List ℕ) → word_size h.wide ≡ w → Reads s0 s1 at before buf (Ok n) → IsHeadOf s0 h → index < h.phnum →
    at ≡ h.phoff + index * program_header_length w → length before ≡ program_header_length w → length buf ≡ length before → known_content s0 ≡ Some bytes → head bytes ≡ Ok h → segment_at w buf 0 ≡ segment w bytes index
segment_read w h s0 s1 at index n before buf bytes width r is_head in_range place full kept content e =
    let given = gives {size = length bytes} {bytes = bytes} {h = h} e in
    let each = program_header_length w in
    let all : (h.phnum ≡ 0) ⊎ (h.phoff + h.phnum * each ≤ h.length) =
    subst (λ w. (h.phnum ≡ 0) ⊎ (h.phoff + h.phnum * program_header_length w ≤ h.length)) width is_head.headers in
    let within : at + each ≤ h.length = within_by at h.phoff index each h.phnum h.length place in_range all in
    let read = filled_known s0 s1 at n h.length before buf bytes r is_head.size (omega arith) kept content (sym given.size_is) in
    let here : take (length before) (drop at bytes) ≡ take each (drop (h.phoff + index * each) bytes) = ap (λ m. take m (drop at bytes)) full ∙ ap (λ k. take each (drop k bytes)) place in
    segment_here w h index each buf bytes width e (omega arith) (read ∙ here)

-- a program header fits a buffer of 56 bytes
pub least : (each : ℕ) (b : Bool) → each ≡ cond b 56 32 → min each 56 ≡ cond b 56 32
least each true e = omega arith
least each false e = omega arith
