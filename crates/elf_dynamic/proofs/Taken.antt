-- The effect of reading an object on a store, and the number of bytes that it reads.
use Rattle.std.proofs.Common.{◌≡◌, ℕ, ◌+◌, ◌*◌, ◌≤◌, List, length, Option, Some, None, IfSome, IsSomeAnd, Ok, Err, refl, ap, sym, subst, ◌∙◌, arith}
use Rattle.std.specs.Option.{option_map_or}
use Rattle.lib_types.specs.Counts.{raised}
use Rattle.lib_types.specs.declared.analysis.Defect.{Defect}
use Rattle.tree_face.specs.Known.{IfKnown}
use Rattle.tree_face.specs.Store.{Contents, StoreState, Lacks}
use Rattle.tree_face.specs.StoreUse.{Ending, Complete}
use Rattle.tree_face.proofs.StoreUse.{raised-add, raised-mono}
use Rattle.elf_headers.specs.declared.fault.HeadFault.{HeadFault}
use Rattle.elf_headers.specs.declared.fault.HeadFault.TheVariants as head_faults
use Rattle.elf_headers.specs.declared.kinds.Head.{Head}
use Rattle.elf_headers.specs.Faults.{head_ending}
use Rattle.elf_headers.specs.Header.{first_defect, header_sentences, head}
use Rattle.elf_headers.specs.Layout.{word_size}
use Rattle.elf_headers.specs.Reading.{known_content, OfContent, OfKnown, ReadsFile, OnlyReads}
use Rattle.elf_headers.proofs.Endings.{begun_and_read}
use Rattle.elf_headers.proofs.Heads.{gives}
use Rattle.elf_dynamic.specs.declared.fault.ObjectFault.{ObjectFault}
use Rattle.elf_dynamic.specs.declared.kinds.Object.{Object}
use Rattle.elf_dynamic.specs.Faults.{object_ending, of_head}
use Rattle.elf_dynamic.specs.Taken.{section_reading, readable_section, reading_after, most_taken, most_known}
use Rattle.elf_dynamic.proofs.Objects.{at_known, w_of}

-- The call reads at most this number of bytes of the file, if contents are known.
abbrev pub TakesKnown : Option Contents → List ℕ → ℕ → ℕ → Type 0
TakesKnown held key a b = IfSome (most_known held key) (λ n. b ≤ raised a n)

-- ---- a file whose header is rejected

least_by : (o : Option Defect) (w : ℕ) (bytes : List ℕ) → 128 ≤ reading_after o w bytes
least_by (Some d) w bytes = omega arith
least_by None w bytes = omega arith

least : (bytes : List ℕ) → 128 ≤ most_taken bytes
unfolding most_taken
least bytes = least_by (first_defect (header_sentences bytes)) (w_of bytes) bytes

taken_head : (held : Option Contents) (key : List ℕ) (a b : ℕ) → b ≤ raised a 64 → (Lacks held key → b ≡ a) → TakesKnown held key a b
taken_head None key a b h not_held = tt
taken_head (Some held) key a b h not_held = by (held key) not_held
  where
    by : (o : Option (List ℕ)) → (o ≡ None → b ≡ a) → b ≤ raised a (option_map_or most_taken o 0)
    by None not_held = let none = not_held refl in omega (arith, none)
    by (Some bytes) not_held = raised-mono a b 64 (most_taken bytes) (let l = least bytes in omega (arith, l)) h

same_ending : (f : HeadFault) (r : ObjectFault) → r ≡ of_head f → object_ending {X = Object} (Err r) ≡ head_ending (Err f)
same_ending (head_faults.Bad x) r e = ap (λ r. object_ending {X = Object} (Err r)) e
same_ending head_faults.StoreFault r e = ap (λ r. object_ending {X = Object} (Err r)) e

pub file_refused : (s t : StoreState) (key : List ℕ) (f : HeadFault) (r : ObjectFault) → r ≡ of_head f → ReadsFile key (Some 64) (head_ending (Err f)) s t → (Lacks s.held key → t.taken ≡ s.taken) →
    ReadsFile key (most_known s.held key) (object_ending {X = Object} (Err r)) s t
file_refused s t key f r e reads not_held =
    subst (λ ending. ReadsFile key (most_known s.held key) ending s t) (sym (same_ending f r e))
    (record {
      held = reads.held;
      begins = reads.begins;
      begun = reads.begun;
      begun_before = reads.begun_before;
      taken = taken_head s.held key s.taken t.taken reads.taken not_held;
      taken_before = reads.taken_before;
      faults = reads.faults;
      cause = reads.cause;
    })

-- ---- a file whose header is accepted

accepted : (bytes : List ℕ) (h : Head) → head bytes ≡ Ok h → most_taken bytes ≡ 128 + 448 * h.phnum + section_reading (word_size h.wide) bytes (readable_section (word_size h.wide) bytes)
unfolding most_taken
accepted bytes h e =
    let given = gives {size = length bytes} {bytes = bytes} {h = h} e in
    ap (λ o. reading_after o (w_of bytes) bytes) given.no_defect
    ∙ ap (λ n. 128 + 448 * n + section_reading (w_of bytes) bytes (readable_section (w_of bytes) bytes)) (sym given.phnum_is)
    ∙ ap (λ b. 128 + 448 * h.phnum + section_reading (word_size b) bytes (readable_section (word_size b) bytes)) (sym given.wide_is)

-- an upper bound on the bytes that are read after the header
abbrev TakesOf : Head → ℕ → ℕ → List ℕ → Type 0
TakesOf h b c bytes = c ≤ raised b (448 * h.phnum + section_reading (word_size h.wide) bytes (readable_section (word_size h.wide) bytes))

taken_of : (h : Head) (a b c : ℕ) (bytes : List ℕ) → b ≤ raised a 64 → head bytes ≡ Ok h → TakesOf h b c bytes → c ≤ raised a (most_taken bytes)
taken_of h a b c bytes first is_head taken =
    let size = section_reading (word_size h.wide) bytes (readable_section (word_size h.wide) bytes) in
    let whole = accepted bytes h is_head in
    raised-mono a c (64 + (448 * h.phnum + size)) (most_taken bytes) (rw whole (below h.phnum size)) (raised-add a b c 64 (448 * h.phnum + size) first taken)
  where
    below : (p n : ℕ) → 64 + (448 * p + n) ≤ 128 + 448 * p + n
    below p n = omega arith

taken_all : (held : Option Contents) (key : List ℕ) (known : Option (List ℕ)) (h : Head) (a b c : ℕ) → b ≤ raised a 64 → OfContent held key (λ bytes. known ≡ Some bytes) → IfKnown known (λ bytes. head bytes ≡ Ok h) →
    IfKnown known (TakesOf h b c) → TakesKnown held key a c
taken_all None key known h a b c first content is_head taken = tt
taken_all (Some held) key known h a b c first content is_head taken = by (held key) content
  where
    by : (o : Option (List ℕ)) → IsSomeAnd o (λ bytes. known ≡ Some bytes) → c ≤ raised a (option_map_or most_taken o 0)
    by None e = absurd e
    by (Some bytes) e = taken_of h a b c bytes first (at_known (λ bytes. head bytes ≡ Ok h) known bytes e is_head) (at_known (TakesOf h b c) known bytes e taken)

pub file_read : (s t u : StoreState) (key : List ℕ) (h : Head) (e : Ending) → ReadsFile key (Some 64) Complete s t → OfContent s.held key (λ bytes. known_content t ≡ Some bytes) → OfKnown t (λ bytes. head bytes ≡ Ok h) →
    OnlyReads e t u → OfKnown t (TakesOf h t.taken u.taken) → ReadsFile key (most_known s.held key) e s u
file_read s t u key h e first content is_head reads taken =
    begun_and_read s t u first reads (taken_all s.held key (known_content t) h s.taken t.taken u.taken first.taken content is_head taken)
