-- What a store's state says after reads from the open file.
use Rattle.std.proofs.Common.{◌≡◌, ℕ, ◌-◌, min, true, false, cond, nat_lt, List, [], ◌∷◌, ◌++◌, length, take, drop, find, Option, Some, None, option_and_then, IfSome, Ok, Err, refl, ap, sym, subst, ◌∙◌, arith}
use Rattle.std.proofs.lemmas.List.{length-drop, length-take, take_at, take_min}
use Rattle.std.specs.List.{before_first}
use Rattle.std.specs.Option.{IsSomeAnd}
use Rattle.elf_dynamic.proofs.Known.{both, sized, with}
use Rattle.elf_headers.proofs.Endings.{reads_nothing}
use Rattle.elf_headers.specs.Header.{head}
use Rattle.elf_headers.specs.Layout.{segments, word_size}
use Rattle.elf_headers.specs.Reading.{IsHeadOf, KeepsFile, OfContent, OfKnown, OnlyReads, ReadsFile, TakesAtMost, known_content}
use Rattle.elf_headers.specs.declared.kinds.Head.{Head}
use Rattle.elf_headers.specs.declared.kinds.Segment.{Segment}
use Rattle.elf_interpreter.specs.Interpreter.{interpreter, interpreter_by, interpreter_of, is_interpreter, text_in}
use Rattle.elf_interpreter.specs.declared.reader.TheConstants.{TEXT_MAX}
use Rattle.lib_types.specs.Bytes.{is_byte}
use Rattle.lib_types.specs.declared.analysis.Defect.{Defect}
use Rattle.tree_face.proofs.StoreUse.{reads_then}
use Rattle.tree_face.specs.Known.{IfKnown}
use Rattle.tree_face.specs.Store.{Contents, Lacks, StoreState}
use Rattle.tree_face.specs.StoreUse.{Complete, Ending, ReadsFiles}

-- calls that open no file, one after another
pub on : (m2 : Option ℕ) (e : Ending) (a b c : StoreState) → ReadsFiles ⊥ (Some []) None Complete a b → ReadsFiles ⊥ (Some []) m2 e b c → ReadsFiles ⊥ (Some []) None e a c
on m2 e a b c first next = reads_then e a b c ⊥ ⊥ ⊥ (Some []) (Some []) None m2 (λ no. no) first next

-- the content of the open file stays the same
pub same_content : (a b : StoreState) → b.held ≡ a.held → KeepsFile a b → known_content b ≡ known_content a
same_content a b held keeps = rw (held, keeps.content) refl

pub keeps_on : (a b c : StoreState) → KeepsFile a b → KeepsFile b c → KeepsFile a c
keeps_on a b c first next = record { key = next.key ∙ first.key; content = next.content ∙ first.content; size = next.size ∙ first.size }

-- a call that opens no file, and then one that only reads from the open file
pub only_reads_on : (n : ℕ) (e : Ending) (a b c : StoreState) → ReadsFiles ⊥ (Some []) None Complete a b → OnlyReads e b c → TakesAtMost n b c → ReadsFiles ⊥ (Some []) None e a c
only_reads_on n e a b c first next taken = on (Some n) e a b c first (reads_nothing next taken)

-- a call whose bytes aren't counted
pub uncounted : (l : Type 0) (keys : Option (List (List ℕ))) (most : Option ℕ) (e : Ending) (a b : StoreState) → ReadsFiles l keys most e a b → ReadsFiles l keys None e a b
uncounted l keys most e a b reads = record {
  held = reads.held;
  begins = reads.begins;
  begun = reads.begun;
  begun_before = reads.begun_before;
  taken = tt;
  taken_before = reads.taken_before;
  faults = reads.faults;
  cause = reads.cause;
}

-- a file is opened, and then it is only read from
pub opened_on : (key : List ℕ) (e : Ending) (a b c : StoreState) → ReadsFile key (Some 64) Complete a b → ReadsFiles ⊥ (Some []) None e b c → ReadsFile key None e a c
opened_on key e a b c first next = reads_then e a b c (Lacks a.held key) ⊥ (Lacks a.held key) (Some (key ∷ [])) (Some []) (Some 64) None (λ no. absurd no) first next

-- ---- known content

module _ (a : StoreState) (h : Head) (s : Segment) (n : ℕ) (old new : List ℕ) (is_head : IsHeadOf a h)
    (read : IfKnown a.content (λ bytes. new ≡ take n (drop s.offset bytes) ++ drop n old)) (counted : IfSome a.size (λ size. n ≡ min (length old) (size - s.offset))) (room : length old ≡ s.filesz) where
  count : n ≡ min (length old) (h.length - s.offset)
  count = subst (λ o. IfSome o (λ size. n ≡ min (length old) (size - s.offset))) is_head.size counted

  front : (bytes : List ℕ) → length bytes ≡ h.length → new ≡ take n (drop s.offset bytes) ++ drop n old → take n new ≡ take s.filesz (drop s.offset bytes)
  front bytes long_as here =
      let rest = drop s.offset bytes in
      let size : length rest ≡ h.length - s.offset = length-drop s.offset bytes ∙ ap (λ k. k - s.offset) long_as in
      let is : n ≡ min s.filesz (length rest) = count ∙ ap (λ k. min k (h.length - s.offset)) room ∙ ap (min s.filesz) (sym size) in
      let long : length (take n rest) ≡ n = length-take n rest ∙ omega (arith, is) in
      ap (take n) here ∙ take_at (take n rest) (drop n old) n long ∙ ap (λ k. take k rest) is ∙ take_min s.filesz rest

  is_text : (bytes : List ℕ) → nat_lt TEXT_MAX s.filesz ≡ false → take n new ≡ take s.filesz (drop s.offset bytes) → Some (before_first (is_byte 0) (take n new)) ≡ text_in bytes s
  is_text bytes small same =
      ap (λ xs. Some (before_first (is_byte 0) xs)) same
      ∙ sym (ap (λ b. cond b None (Some (before_first (is_byte 0) (take s.filesz (drop s.offset bytes))))) small)

  content_read : (held : Option Contents) (content : Option (List ℕ)) → IfKnown content (λ bytes. new ≡ take n (drop s.offset bytes) ++ drop n old)
      → IfKnown (option_and_then (λ _. content) held) (λ bytes. new ≡ take n (drop s.offset bytes) ++ drop n old)
  content_read None content read = tt
  content_read (Some held) content read = read

  -- the text that was read
  pub text_read : (text : List ℕ) → nat_lt TEXT_MAX s.filesz ≡ false → text ≡ before_first (is_byte 0) (take n new) → OfKnown a (λ bytes. Some text ≡ text_in bytes s)
  text_read text small is =
      both {P = λ bytes. length bytes ≡ h.length} {Q = λ bytes. new ≡ take n (drop s.offset bytes) ++ drop n old} {R = λ bytes. Some text ≡ text_in bytes s} (known_content a)
      (sized a h is_head) (content_read a.held a.content read) (λ bytes long here. ap Some is ∙ is_text bytes small (front bytes long here))

-- a segment that is too long for a path
pub too_long : (a : StoreState) (s : Segment) → nat_lt TEXT_MAX s.filesz ≡ true → OfKnown a (λ bytes. None ≡ text_in bytes s)
too_long a s long = by (known_content a)
  where
    none : (bytes : List ℕ) → None ≡ text_in bytes s
    none bytes = sym (ap (λ b. cond b None (Some (before_first (is_byte 0) (take s.filesz (drop s.offset bytes))))) long)

    by : (known : Option (List ℕ)) → IfKnown known (λ bytes. None ≡ text_in bytes s)
    by None = tt
    by (Some bytes) = none bytes

-- the text in the segment that was found
pub text_found : (a b : StoreState) (h : Head) (o : Option Segment) (s : Segment) (text : Option (List ℕ)) → o ≡ Some s → known_content b ≡ known_content a
    → OfKnown a (λ bytes. o ≡ find is_interpreter (segments (word_size h.wide) bytes)) → OfKnown b (λ bytes. text ≡ text_in bytes s) → OfKnown a (λ bytes. text ≡ interpreter_by (word_size h.wide) bytes)
text_found a b h o s text is same found read =
    both {P = λ bytes. o ≡ find is_interpreter (segments (word_size h.wide) bytes)} {Q = λ bytes. text ≡ text_in bytes s} {R = λ bytes. text ≡ interpreter_by (word_size h.wide) bytes} (known_content a)
    found (subst (λ k. IfKnown k (λ bytes. text ≡ text_in bytes s)) same read) (λ bytes first here. here ∙ ap (option_and_then (text_in bytes)) (sym is ∙ first))

pub none_found : (a : StoreState) (h : Head) (o : Option Segment) → o ≡ None → OfKnown a (λ bytes. o ≡ find is_interpreter (segments (word_size h.wide) bytes))
    → OfKnown a (λ bytes. None ≡ interpreter_by (word_size h.wide) bytes)
none_found a h o is found =
    with {P = λ bytes. o ≡ find is_interpreter (segments (word_size h.wide) bytes)} {Q = λ bytes. None ≡ interpreter_by (word_size h.wide) bytes} (known_content a) found
    (λ bytes first. ap (option_and_then (text_in bytes)) (sym is ∙ first))

module _ (key : List ℕ) (s : StoreState) (h : Head) (text : Option (List ℕ)) where
  by_content : (content : Option (List ℕ)) → IsSomeAnd content (λ bytes. head bytes ≡ Ok h) → IsSomeAnd content (λ bytes. known_content s ≡ Some bytes)
      → OfKnown s (λ bytes. text ≡ interpreter_by (word_size h.wide) bytes) → IsSomeAnd content (λ bytes. text ≡ interpreter bytes)
  by_content None is_head opened read = is_head
  by_content (Some bytes) is_head opened read =
      subst (λ k. IfKnown k (λ bytes. text ≡ interpreter_by (word_size h.wide) bytes)) opened read ∙ sym (ap (λ r. interpreter_of r bytes) is_head)

  -- the interpreter of a file that was opened
  pub read_whole : (held : Option Contents) → OfContent held key (λ bytes. head bytes ≡ Ok h) → OfContent held key (λ bytes. known_content s ≡ Some bytes)
      → OfKnown s (λ bytes. text ≡ interpreter_by (word_size h.wide) bytes) → OfContent held key (λ bytes. text ≡ interpreter bytes)
  read_whole None is_head opened read = tt
  read_whole (Some held) is_head opened read = by_content (held key) is_head opened read

-- a file without a valid header
pub no_head : (key : List ℕ) (d : Defect) (held : Option Contents) → OfContent held key (λ bytes. head bytes ≡ Err d) → OfContent held key (λ bytes. None ≡ interpreter bytes)
no_head key d None bad = tt
no_head key d (Some held) bad = by (held key) bad
  where
    by : (content : Option (List ℕ)) → IsSomeAnd content (λ bytes. head bytes ≡ Err d) → IsSomeAnd content (λ bytes. None ≡ interpreter bytes)
    by None bad = bad
    by (Some bytes) bad = sym (ap (λ r. interpreter_of r bytes) bad)
