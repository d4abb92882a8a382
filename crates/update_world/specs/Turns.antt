-- Turns of updaters and loaders, with the calls that they make (write to a temporary file, fsync, rename(2), fsync of the directory) and
-- the contents that they read. The definitions only count calls; they don't model temporary files.
use Rattle.std.specs.Prelude.{ℕ, ◌+◌, ◌-◌, Bool, true, false, not, ◌==◌, nat_lt, List, [], ◌∷◌, ◌++◌, length, map, filter, take, Option, Some, None, if◌then◌else◌}
use Rattle.std.specs.List.{count_by, list_any, range_with_len, slice_get, suffix_len}
use Rattle.std.specs.Option.{option_map, option_map_or, option_and_then}
use Rattle.atomic_replace.specs.Order.{all_calls}
use Rattle.tree_face.specs.Disk.{Content}
use Rattle.tree_face.specs.declared.disk.Call.{Call}
use Rattle.tree_face.specs.declared.disk.Call.TheVariants.{Create, Append, Sync, Publish, Settle}
use Rattle.tree_face.specs.declared.disk.Tag.{Tag}
use Rattle.update_world.specs.declared.post.Post.{Post}
use Rattle.update_world.specs.declared.post.Reading.{Reading}
use Rattle.update_world.specs.declared.post.Turn.{Turn}
use Rattle.update_world.specs.declared.post.Turn.TheVariants.{Step, Load}

-- ---- tags

-- the tag of the first updater whose tag is one of these or that of an earlier updater
abbrev pub repeated_among : List ℕ → List Post → Option Tag
repeated_among tags [] = None
repeated_among tags (post ∷ posts) = if list_any (λ t. post.tag.0 == t) tags then Some post.tag else repeated_among (tags ++ post.tag.0 ∷ []) posts

abbrev pub repeated : List Post → Option Tag
repeated posts = repeated_among [] posts

-- ---- calls

abbrev pub is_step : ℕ → Turn → Bool
is_step i (Step j) = j == i
is_step i Load = false

-- the number of turns of an updater
abbrev pub steps_of : ℕ → List Turn → ℕ
steps_of i turns = count_by (is_step i) turns

-- a call, with the index of its updater
abbrev pub PostCall : Type 0
PostCall = ℕ × Call

-- the call of the turn after `before`: the next call of a replacement that the updater hasn't made yet
abbrev pub call_of : ℕ → List Turn → Turn → List PostCall
call_of posts before Load = []
call_of posts before (Step i) = if nat_lt i posts then option_map_or (λ call. (i, call) ∷ []) (slice_get all_calls (steps_of i before)) [] else []

-- the calls of the turns that follow `before`
abbrev pub calls_after : ℕ → List Turn → List Turn → List PostCall
calls_after posts before [] = []
calls_after posts before (turn ∷ turns) = call_of posts before turn ++ calls_after posts (before ++ turn ∷ []) turns

-- the calls of these turns, if there are this many updaters
abbrev pub calls : ℕ → List Turn → List PostCall
calls posts turns = calls_after posts [] turns

abbrev pub is_publish : Call → Bool
is_publish Publish = true
is_publish Create = false
is_publish Append = false
is_publish Sync = false
is_publish Settle = false

abbrev pub is_settle : Call → Bool
is_settle Settle = true
is_settle Create = false
is_settle Append = false
is_settle Sync = false
is_settle Publish = false

-- the updaters that rename their file into place, in order
abbrev pub publishers : List PostCall → List ℕ
publishers cs = map (λ c. c.0) (filter (λ c. is_publish c.1) cs)

-- the calls up to the last directory fsync
abbrev pub until_settled : List PostCall → List PostCall
until_settled cs = take (length cs - suffix_len (λ c. not (is_settle c.1)) cs) cs

-- ---- readings

-- the last of these updaters
abbrev pub last_of : List Post → List ℕ → Option Post
last_of posts published = option_and_then (slice_get posts) (slice_get published (length published - 1))

-- the content that is read after these renames
abbrev pub reading : Content → List Post → List ℕ → Reading
reading first posts published = record {
  published = length published;
  writer = option_map (λ p. p.tag) (last_of posts published);
  bytes = option_map_or (λ p. Some p.bytes) (last_of posts published) first;
}

-- the content that is read after these turns
abbrev pub reading_after : Content → List Post → List Turn → Reading
reading_after first posts turns = reading first posts (publishers (calls (length posts) turns))

-- the reading of a turn after `before`
abbrev pub read_in : Content → List Post → List Turn → Turn → List Reading
read_in first posts before (Step i) = []
read_in first posts before Load = reading_after first posts before ∷ []

-- the readings of the turns that follow `before`, one for each load
abbrev pub readings_after : Content → List Post → List Turn → List Turn → List Reading
readings_after first posts before [] = []
readings_after first posts before (turn ∷ turns) = read_in first posts before turn ++ readings_after first posts (before ++ turn ∷ []) turns

-- ---- the contents that a crash can leave

-- the reading at the last directory fsync, and the reading after each later rename
abbrev pub left_by : Content → List Post → List PostCall → List Reading
left_by first posts cs =
    let all = publishers cs in
    let settled = length (publishers (until_settled cs)) in
    map (λ n. reading first posts (take n all)) (range_with_len settled (length all + 1 - settled))

abbrev pub left : Content → List Post → List Turn → List Reading
left first posts turns = left_by first posts (calls (length posts) turns)
