-- A store from which a file is read in windows.
use Rattle.std.specs.Prelude.{◌≡◌, ◌⊎◌, ◌≤◌, ◌<◌, ◌^◌, ◌+◌, ◌*◌, ℕ, List, [], ◌∷◌, Option, Some, IsSomeAnd, option_and_then, Result, Ok, Err}
use Rattle.lib_types.specs.Counts.{raised, HasRisen}
use Rattle.lib_types.specs.declared.fault.Failed.{Failed}
use Rattle.tree_face.specs.Known.{IfKnown}
use Rattle.tree_face.specs.Store.{Contents, StoreState, Lacks}
use Rattle.tree_face.specs.StoreUse.{Ending, Complete, DeviceFailed, GaveUp, ReadsFiles}
use Rattle.elf_headers.specs.declared.kinds.Head.{Head}
use Rattle.elf_headers.specs.Layout.{word_size, program_header_length}
use Rattle.elf_headers.specs.Header.{head}

-- the content of the open file, if the store makes contents known
abbrev pub known_content : StoreState → Option (List ℕ)
known_content s = option_and_then (λ _. s.content) s.held

-- a fact about that content, if it is known
abbrev pub OfKnown : StoreState → (List ℕ → Type 0) → Type 0
OfKnown s P = IfKnown (known_content s) P

-- the call reads at most this number of bytes
abbrev pub TakesAtMost : ℕ → StoreState → StoreState → Type 0
TakesAtMost n old new = new.taken ≤ raised old.taken n

-- If contents are known, the key has a content, and the fact is true of it.
abbrev pub OfContent : Option Contents → List ℕ → (List ℕ → Type 0) → Type 0
OfContent held key P = IfKnown held (λ held. IsSomeAnd (held key) P)

-- ---- how a call ends, and its effect on the store

-- a call that fails only if the store fails
abbrev pub reading_ending : {X : Type 0} → Result X Failed → Ending
reading_ending (Ok x) = Complete
reading_ending (Err f) = DeviceFailed

-- the call opens the file of this key, and reads at most this number of bytes
abbrev pub ReadsFile : List ℕ → Option ℕ → Ending → StoreState → StoreState → Type 0
ReadsFile key most ending old new = ReadsFiles (Lacks old.held key) (Some (key ∷ [])) most ending old new

-- the open file stays the same
pub record KeepsFile (old new : StoreState) : Type 0 where
  pub key : new.key ≡ old.key
  pub content : new.content ≡ old.content
  pub size : new.size ≡ old.size

-- The count of faults increases exactly if the store has failed.
abbrev pub CountsFaults : Ending → ℕ → ℕ → Type 0
CountsFaults Complete before after = after ≡ before
CountsFaults DeviceFailed before after = HasRisen before after
CountsFaults GaveUp before after = after ≡ before

-- A private function only reads from the open file. Only the counts of bytes and faults change.
pub record OnlyReads (ending : Ending) (old new : StoreState) : Type 0 where
  pub held : new.held ≡ old.held
  pub key : new.key ≡ old.key
  pub content : new.content ≡ old.content
  pub size : new.size ≡ old.size
  pub begun : new.begun ≡ old.begun
  pub keys : new.keys ≡ old.keys
  pub taken : old.taken ≤ new.taken
  pub faults : CountsFaults ending old.faults new.faults

-- the header is the header of the open file
pub record IsHeadOf (s : StoreState) (h : Head) : Type 0 where
  pub size : s.size ≡ Some h.length
  -- the length has 64 bits
  pub small : h.length < 2 ^ 64
  -- the program headers are inside the file
  pub headers : (h.phnum ≡ 0) ⊎ (h.phoff + h.phnum * program_header_length (word_size h.wide) ≤ h.length)
  pub content : IfKnown (known_content s) (λ bytes. head bytes ≡ Ok h)
