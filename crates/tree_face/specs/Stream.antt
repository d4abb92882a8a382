-- Where input comes from and where output goes.
use Rattle.std.specs.Prelude.{◌≡◌, ◌↔◌, ◌<◌, ◌≤◌, ◌+◌, ◌++◌, ℕ, List, [], length, take, Option, Result, Ok, Err, IfOk, IsErrOf, OnOk, OnErr, Vec}
use Rattle.std.specs.declared.alloc.Global.{Global}
use Rattle.lib_types.specs.declared.fault.Failed.{Failed}
use Rattle.lib_types.specs.Counts.{HasRisen}
use Rattle.tree_face.specs.declared.stream.ReadFault.{ReadFault}
use Rattle.tree_face.specs.declared.stream.ReadFault.TheVariants.{TooLong, InputFault, NoMemory}
use Rattle.tree_face.specs.Known.{Relates, IsSame}
use Rattle.tree_face.specs.Follows.{IsFollowedBy, IsFollowedByPart}

pub record SourceState : Type 0 where
  -- what is left to read, if known
  pub left : Option (List ℕ)
  pub faults : ℕ

pub record SinkState : Type 0 where
  -- the bytes written so far, if known
  pub written : Option (List ℕ)
  pub faults : ℕ

-- the first n bytes of the buffer are the first bytes of the input that was left; if the buffer has room, n is 0 exactly at the end
pub record Gives (room n : ℕ) (bytes : List ℕ) (a b : List ℕ) : Type 0 where
  pub taken : a ≡ take n bytes ++ b
  pub end : 0 < room → (n ≡ 0) ↔ (a ≡ [])

-- the call that reads into the front of a buffer
pub record ReadsInput (old new : SourceState) (before after : List ℕ) (result : Result ℕ Failed) : Type 0 where
  pub within : IfOk result (λ n. n ≤ length before)
  pub done : IfOk result (λ n. Relates (Gives (length before) n after) old.left new.left)
  pub failed : OnErr result (Relates IsSame old.left new.left)
  pub faults : old.faults ≤ new.faults
  pub no_fault : OnOk result (new.faults ≡ old.faults)
  pub cause : OnErr result (HasRisen old.faults new.faults)

-- the call that writes bytes: a prefix of them is written, or the call fails
pub record Takes (old new : SinkState) (bytes : List ℕ) (result : Result ℕ Failed) : Type 0 where
  pub within : IfOk result (λ n. n ≤ length bytes)
  pub some : IfOk result (λ n. 0 < length bytes → 0 < n)
  pub done : IfOk result (λ n. Relates (IsFollowedBy (take n bytes)) old.written new.written)
  pub failed : OnErr result (Relates IsSame old.written new.written)
  pub faults : old.faults ≤ new.faults
  pub no_fault : OnOk result (new.faults ≡ old.faults)
  pub cause : OnErr result (HasRisen old.faults new.faults)

-- all of the bytes are written; if the sink fails, a prefix of them is written
pub record TakesAll (old new : SinkState) (bytes : List ℕ) (result : Result (Unit {0}) Failed) : Type 0 where
  pub done : OnOk result (Relates (IsFollowedBy bytes) old.written new.written)
  pub failed : OnErr result (Relates (IsFollowedByPart bytes) old.written new.written)
  pub faults : old.faults ≤ new.faults
  pub no_fault : OnOk result (new.faults ≡ old.faults)
  pub cause : OnErr result (HasRisen old.faults new.faults)

-- these bytes were read from the front of the input that was left
abbrev pub AreRead : List ℕ → List ℕ → List ℕ → Type 0
AreRead bytes a b = a ≡ bytes ++ b

-- the input that was left was read to its end: these bytes
pub record GivesAll (bytes a b : List ℕ) : Type 0 where
  pub all : a ≡ bytes
  pub end : b ≡ []

-- some bytes were read from the front of the input that was left, and the fact holds of their number
pub record GivesSome (P : ℕ → Type 0) (a b : List ℕ) : Type 0 where
  pub bytes : List ℕ
  pub count : P (length bytes)
  pub read : AreRead bytes a b

-- what was read of an input that may have at most `limit` bytes; the input is too long if it has one more
abbrev pub ReadsTo : ℕ → Result (Vec ℕ Global) ReadFault → Option (List ℕ) → Option (List ℕ) → Type 0
ReadsTo limit (Ok bytes) = Relates (GivesAll bytes.items)
ReadsTo limit (Err (TooLong taken)) = Relates (GivesSome (λ n. n ≡ taken))
ReadsTo limit (Err InputFault) = Relates (GivesSome (λ n. n ≤ limit))
ReadsTo limit (Err NoMemory) = Relates (GivesSome (λ n. n ≤ limit + 1))

-- the call that reads an input to its end
pub record ReadsAll (limit : ℕ) (old new : SourceState) (result : Result (Vec ℕ Global) ReadFault) : Type 0 where
  pub reads : ReadsTo limit result old.left new.left
  pub within : IfOk result (λ bytes. length bytes.items ≤ limit)
  pub too_long : (taken : ℕ) → IsErrOf result (TooLong taken) → taken ≡ limit + 1
  pub faults : old.faults ≤ new.faults
  -- the source failed exactly if the result says so
  pub cause : IsErrOf result InputFault → HasRisen old.faults new.faults
  pub no_fault : (IsErrOf result InputFault → ⊥) → new.faults ≡ old.faults
