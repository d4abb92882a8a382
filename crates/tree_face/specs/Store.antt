-- A store: files by key. One file is open at a time, and is read in pieces.
use Rattle.std.specs.Prelude.{◌≡◌, ◌⊎◌, ◌≤◌, ◌-◌, ◌++◌, ℕ, min, List, [], ◌∷◌, length, take, drop, Option, Some, None, IfSome, Result, IfOk, OnOk, OnErr, MatchResult}
use Rattle.lib_types.specs.declared.fault.Failed.{Failed}
use Rattle.lib_types.specs.Counts.{raised, HasRisen}
use Rattle.tree_face.specs.Known.{IfKnown, Relates}
use Rattle.tree_face.specs.Follows.{IsFollowedBy, IsFollowedByPart}

-- the bytes of the file with each key, if the store holds it
abbrev pub Contents : Type 0
Contents = List ℕ → Option (List ℕ)

pub record StoreState : Type 0 where
  -- the files that the store holds, if known
  pub held : Option Contents
  -- the key and the content of the open file, if known
  pub key : Option (List ℕ)
  pub content : Option (List ℕ)
  -- the length of the open file, always known; None if no file is open
  pub size : Option ℕ
  pub faults : ℕ
  -- the number of files opened
  pub begun : ℕ
  -- the keys of these files in order, if known; the key of a call that failed may be missing
  pub keys : Option (List (List ℕ))
  -- the number of bytes read
  pub taken : ℕ

-- the contents of the store are known, and the key is not among them
abbrev pub Lacks : Option Contents → List ℕ → Type 0
Lacks None key = ⊥
Lacks (Some held) key = held key ≡ None

-- the file with this key is open, with the bytes that the store holds for it
pub record HasBegun (s : StoreState) (held : Contents) (key : List ℕ) (n : ℕ) : Type 0 where
  pub bytes : List ℕ
  pub under_key : held key ≡ Some bytes
  pub begun : s.key ≡ Some key
  pub content : s.content ≡ Some bytes
  pub size : length bytes ≡ n

-- the call that opens a file
pub record Begins (old new : StoreState) (key : List ℕ) (result : Result ℕ Failed) : Type 0 where
  pub held : new.held ≡ old.held
  pub size : MatchResult result (λ n. new.size ≡ Some n) (λ _. new.size ≡ None)
  pub none : OnErr result ((new.key ≡ None) × (new.content ≡ None))
  pub content : IfOk result (λ n. IfKnown old.held (λ held. HasBegun new held key n))
  pub not_held : Lacks old.held key → OnErr result (new.faults ≡ old.faults)
  pub lacking : Lacks old.held key → IfOk result (λ _. ⊥)
  pub begun : MatchResult result (λ _. new.begun ≡ raised old.begun 1) (λ _. new.begun ≤ raised old.begun 1)
  pub keys : OnOk result (Relates (IsFollowedBy (key ∷ [])) old.keys new.keys)
  pub keys_refused : OnErr result (Relates (IsFollowedByPart (key ∷ [])) old.keys new.keys)
  pub begun_before : old.begun ≤ new.begun
  pub taken : new.taken ≡ old.taken
  pub faults : old.faults ≤ new.faults
  pub no_fault : OnOk result (new.faults ≡ old.faults)
  pub cause : OnErr result (HasRisen old.faults new.faults ⊎ Lacks old.held key)

-- the call that reads from an offset of the open file into the front of a buffer
pub record Reads (old new : StoreState) (at : ℕ) (before after : List ℕ) (result : Result ℕ Failed) : Type 0 where
  pub held : new.held ≡ old.held
  pub key : new.key ≡ old.key
  pub content : new.content ≡ old.content
  pub size : new.size ≡ old.size
  pub count : IfOk result (λ n. IfSome old.size (λ size. n ≡ min (length before) (size - at)))
  pub bytes : IfOk result (λ n. IfKnown old.content (λ content. after ≡ take n (drop at content) ++ drop n before))
  pub rest : IfOk result (λ n. drop n after ≡ drop n before)
  pub begun : new.begun ≡ old.begun
  pub keys : new.keys ≡ old.keys
  pub taken : MatchResult result (λ n. new.taken ≡ raised old.taken n) (λ _. new.taken ≤ raised old.taken (length before))
  pub taken_before : old.taken ≤ new.taken
  pub faults : old.faults ≤ new.faults
  pub no_fault : OnOk result (new.faults ≡ old.faults)
  pub cause : OnErr result (HasRisen old.faults new.faults)
