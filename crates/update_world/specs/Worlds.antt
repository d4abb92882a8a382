-- A world as contracts see it.
use Rattle.std.specs.Prelude.{◌≡◌, ◌⊎◌, ℕ, zero, suc, ◌<◌, ◌≤◌, ◌++◌, List, [], length, map, take, drop, Some, None, IfSome}
use Rattle.std.specs.List.{AllPairs, Contains, slice_get}
use Rattle.atomic_replace.specs.Order.{all_calls}
use Rattle.tree_face.specs.Disk.{Content}
use Rattle.tree_face.specs.declared.disk.Call.{Call}
use Rattle.update_world.specs.Turns.{reading_after, repeated, steps_of}
use Rattle.update_world.specs.declared.fault.WorldFault.{WorldFault}
use Rattle.update_world.specs.declared.fault.WorldFault.TheVariants.{SameTag, NoMemory}
use Rattle.update_world.specs.declared.post.Post.{Post}
use Rattle.update_world.specs.declared.post.Reading.{Reading}
use Rattle.update_world.specs.declared.post.Turn.{Turn}

pub record Worlds : Type 0 where
  -- the content of the cache slot at the start
  pub first : Content
  pub posts : List Post
  -- the turns so far
  pub turns : List Turn
  -- the cache slot
  pub cache : Content
  -- the temporary file of each updater
  pub temporaries : List Content
  -- the remaining calls of each updater
  pub progress : List (List Call)

abbrev pub new_world : Content → List Post → Worlds
new_world first posts = record {
  first = first;
  posts = posts;
  turns = [];
  cache = first;
  temporaries = map (λ _. None) posts;
  progress = map (λ _. all_calls) posts;
}

-- Why there can't be a world: two updaters have this tag, and it is the first repeated tag.
abbrev pub IsFaultOf : List Post → WorldFault → Type 0
IsFaultOf posts (SameTag tag) = repeated posts ≡ Some tag
IsFaultOf posts NoMemory = Unit {0}

-- these further turns were taken
pub record HasTaken (more : List Turn) (old new : Worlds) : Type 0 where
  pub first : new.first ≡ old.first
  pub posts : new.posts ≡ old.posts
  pub turns : new.turns ≡ old.turns ++ more

-- the first n of these turns were taken
abbrev pub HasTakenPart : List Turn → Worlds → Worlds → Type 0
HasTakenPart more old new = (n : ℕ) × HasTaken (take n more) old new

-- the temporary file after n turns of its updater: created, written, flushed and renamed into place
abbrev pub temporary_after : ℕ → List ℕ → Content
temporary_after zero bytes = None
temporary_after (suc zero) bytes = Some []
temporary_after (suc (suc zero)) bytes = Some bytes
temporary_after (suc (suc (suc zero))) bytes = Some bytes
temporary_after (suc (suc (suc (suc n)))) bytes = None

-- the slot, the temporary files and the remaining calls are those after these turns
pub record IsAfterTurns (w : Worlds) : Type 0 where
  pub cache : w.cache ≡ (reading_after w.first w.posts w.turns).bytes
  pub temporaries : (i : ℕ) → IfSome (slice_get w.posts i) (λ p. slice_get w.temporaries i ≡ Some (temporary_after (steps_of i w.turns) p.bytes))
  pub progress : (i : ℕ) → i < length w.posts → slice_get w.progress i ≡ Some (drop (steps_of i w.turns) all_calls)

-- the bytes are the content at the start or all bytes of one updater
abbrev pub IsWhole : Content → List Post → Reading → Type 0
IsWhole first posts reading = ((reading.writer ≡ None) × (reading.bytes ≡ first)) ⊎ ((post : Post) × Contains posts post × (reading.writer ≡ Some post.tag) × (reading.bytes ≡ Some post.bytes))

-- a later reading never has fewer renames than an earlier one
abbrev pub NeverFalls : List Reading → Type 0
NeverFalls readings = AllPairs (λ (a b : Reading). a.published ≤ b.published) readings
