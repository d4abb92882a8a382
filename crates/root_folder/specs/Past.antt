-- What was at a path of an in-memory directory, going back from now through the changes. The changes are listed newest first.
use Rattle.std.specs.Prelude.{◌&&◌, ◌||◌, ℕ, Bool, false, not, nat_le, List, [], ◌∷◌, length, if◌then◌else◌}
use Rattle.std.specs.Str.{bytes_eq}
use Rattle.root_folder.specs.Found.{Found, found_eq}
use Rattle.root_folder.specs.Whole.{is_in}
use Rattle.root_folder.specs.declared.memory.past.Change.{Change}
use Rattle.root_folder.specs.declared.memory.past.Change.TheVariants.{Linked, Settled}

-- what was at the path before a change
abbrev pub found_before : List ℕ → Found → Change → Found
found_before p now (Linked path before) = if bytes_eq path p then before else now
found_before p now (Settled dir) = now

-- the change is an fsync of the path's directory
abbrev pub is_settled_by : List ℕ → Change → Bool
is_settled_by p (Linked path before) = false
is_settled_by p (Settled dir) = is_in dir p

-- what was at the path at the last fsync of its directory, or at the start if it was never synced
abbrev pub settled_in : List ℕ → Found → List Change → Found
settled_in p now [] = now
settled_in p now (c ∷ earlier) = if is_settled_by p c then now else settled_in p (found_before p now c) earlier

-- A crash may leave what is at the path. Unless the last change was an fsync of its directory, a crash may also leave what a crash before
-- that change might have left.
abbrev pub left_in : List ℕ → Found → List Change → Found → Bool
left_in p now [] x = found_eq now x
left_in p now (c ∷ earlier) x = found_eq now x || (not (is_settled_by p c) && left_in p (found_before p now c) earlier x)

-- a crash at moment t or later might have left it; a moment's number is the number of changes before it
abbrev pub once_left_in : ℕ → List ℕ → Found → List Change → Found → Bool
once_left_in t p now [] x = nat_le t 0 && left_in p now [] x
once_left_in t p now (c ∷ earlier) x = (nat_le t (length (c ∷ earlier)) && left_in p now (c ∷ earlier) x) || once_left_in t p (found_before p now c) earlier x
