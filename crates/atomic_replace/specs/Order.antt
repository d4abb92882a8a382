-- The order of the calls that replace a slot: create and write a temporary file, fsync it, rename(2) it, fsync the directory.
use Rattle.std.specs.Prelude.{Bool, true, false, List, [], ◌∷◌, Option, Some, None}
use Rattle.tree_face.specs.declared.disk.Call.{Call}
use Rattle.tree_face.specs.declared.disk.Call.TheVariants.{Create, Append, Sync, Publish, Settle}

abbrev pub all_calls : List Call
all_calls = Create ∷ Append ∷ Sync ∷ Publish ∷ Settle ∷ []

-- the first remaining call
abbrev pub next_of : List Call → Option Call
next_of [] = None
next_of (call ∷ calls) = Some call

-- the remaining calls when this one is next
abbrev pub calls_from : Option Call → List Call
calls_from None = []
calls_from (Some Create) = all_calls
calls_from (Some Append) = Append ∷ Sync ∷ Publish ∷ Settle ∷ []
calls_from (Some Sync) = Sync ∷ Publish ∷ Settle ∷ []
calls_from (Some Publish) = Publish ∷ Settle ∷ []
calls_from (Some Settle) = Settle ∷ []

-- these calls need a temporary file that was created before
abbrev pub needs_file : Call → Bool
needs_file Create = false
needs_file Append = true
needs_file Sync = true
needs_file Publish = true
needs_file Settle = false
