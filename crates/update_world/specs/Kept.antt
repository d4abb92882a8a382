-- The state of a world: the contents of the files, and the remaining calls of each updater.
use Rattle.std.specs.Prelude.{◌≡◌, ◌<◌, ◌≤◌, ◌^◌, ℕ, List, [], ◌∷◌, ◌++◌, length, map, drop, Option, Some, None, IfSome, nat_le}
use Rattle.std.specs.List.{count_by, slice_get, slice_index_or, slice_set}
use Rattle.std.specs.Option.{option_and_then, option_map, option_map_or}
use Rattle.atomic_replace.specs.Order.{all_calls, next_of}
use Rattle.tree_face.specs.Disk.{Content}
use Rattle.tree_face.specs.declared.disk.Call.{Call}
use Rattle.tree_face.specs.declared.disk.Call.TheVariants.{Create, Append, Sync, Publish, Settle}
use Rattle.update_world.specs.declared.post.Post.{Post}
use Rattle.update_world.specs.declared.post.Reading.{Reading}
use Rattle.update_world.specs.declared.post.Turn.{Turn}
use Rattle.update_world.specs.declared.post.Turn.TheVariants.{Step, Load}
use Rattle.update_world.specs.Turns.{calls, last_of, publishers, reading, repeated, steps_of, until_settled}
use Rattle.update_world.specs.Worlds.{Worlds, temporary_after}

pub record Machines : Type 0 where
  pub cache : Content
  pub temporaries : List Content
  pub progress : List (List Call)
  -- the updaters that have renamed their file into place, in order
  pub published : List ℕ
  -- the number of renames before the last directory fsync
  pub settled : ℕ

abbrev pub new_machine : Content → List Post → Machines
new_machine first posts = record { cache = first; temporaries = map (λ _. None) posts; progress = map (λ _. all_calls) posts; published = []; settled = 0 }

-- ---- a step

abbrev pub next_in : Machines → ℕ → Option Call
next_in m i = option_and_then next_of (slice_get m.progress i)

abbrev pub made : ℕ → List ℕ → Call → Machines → Machines
made i bytes Create m = record m { temporaries = slice_set m.temporaries i (Some []) }
made i bytes Append m = record m { temporaries = slice_set m.temporaries i (Some bytes) }
made i bytes Sync m = m
made i bytes Publish m = record m { cache = slice_index_or m.temporaries i None; temporaries = slice_set m.temporaries i None; published = m.published ++ i ∷ [] }
made i bytes Settle m = record m { settled = length m.published }

abbrev pub advanced : ℕ → Machines → Machines
advanced i m = record m { progress = slice_set m.progress i (drop 1 (slice_index_or m.progress i [])) }

-- after a step of this updater
abbrev pub stepped : List Post → ℕ → Machines → Machines
stepped posts i m = option_map_or (λ p. option_map_or (λ call. advanced i (made i p.bytes call m)) (next_in m i) m) (slice_get posts i) m

-- ---- a turn

abbrev pub after_turn : List Post → Turn → Machines → Machines
after_turn posts (Step i) m = stepped posts i m
after_turn posts Load m = m

-- the readings of a turn
abbrev pub seen : List Post → Turn → Machines → List Reading
seen posts (Step i) m = []
seen posts Load m = record { published = length m.published; writer = option_map (λ p. p.tag) (last_of posts m.published); bytes = m.cache } ∷ []

-- ---- the invariant

-- the number of updaters with at most one remaining call; each of them has renamed its file into place
abbrev pub spent : List (List Call) → ℕ
spent progress = count_by (λ calls. nat_le (length calls) 1) progress

pub record IsKept (first : Content) (posts : List Post) (turns : List Turn) (m : Machines) : Type 0 where
  pub few : length posts < 2 ^ 32
  pub different : repeated posts ≡ None
  pub cache : m.cache ≡ (reading first posts m.published).bytes
  pub temporaries : (i : ℕ) → IfSome (slice_get posts i) (λ p. slice_get m.temporaries i ≡ Some (temporary_after (steps_of i turns) p.bytes))
  pub files : length m.temporaries ≡ length posts
  pub progress : (i : ℕ) → i < length posts → slice_get m.progress i ≡ Some (drop (steps_of i turns) all_calls)
  pub each : length m.progress ≡ length posts
  pub published : m.published ≡ publishers (calls (length posts) turns)
  pub settled : m.settled ≡ length (publishers (until_settled (calls (length posts) turns)))
  pub counted : length m.published ≤ spent m.progress

abbrev pub world_of : Content → List Post → List Turn → Machines → Worlds
world_of first posts turns m = record { first = first; posts = posts; turns = turns; cache = m.cache; temporaries = m.temporaries; progress = m.progress }
