-- Texts that are buffered before they go to a sink.
use Rattle.std.specs.Prelude.{◌≡◌, ◌≤◌, ◌++◌, ℕ, List, Result, OnOk, OnErr}
use Rattle.lib_types.specs.Counts.{HasRisen}
use Rattle.lib_types.specs.declared.fault.Failed.{Failed}
use Rattle.tree_face.specs.Known.{Relates}
use Rattle.tree_face.specs.Follows.{IsFollowedByPart}
use Rattle.tree_face.specs.Stream.{SinkState}

-- A first part of the text went to the sink, and the rest is buffered.
pub record Moves (text rest a b : List ℕ) : Type 0 where
  pub moved : List ℕ
  pub parts : text ≡ moved ++ rest
  pub taken : b ≡ a ++ moved

-- The text is added after the buffered bytes. After an error the sink has received a first part of both.
pub record Puts (text before after : List ℕ) (old new : SinkState) (result : Result (Unit {0}) Failed) : Type 0 where
  pub done : OnOk result (Relates (Moves (before ++ text) after) old.written new.written)
  pub failed : OnErr result (Relates (IsFollowedByPart (before ++ text)) old.written new.written)
  pub faults : old.faults ≤ new.faults
  pub no_fault : OnOk result (new.faults ≡ old.faults)
  pub cause : OnErr result (HasRisen old.faults new.faults)
