-- Facts that private functions state about a walk that stops.
use Rattle.std.specs.Prelude.{◌≡◌, ◌⊎◌, ◌++◌, ◌&&◌, ◌+◌, ◌∷◌, ℕ, true, false, List, Option, Some, None, Result, Ok, Err, MatchResult}
use Rattle.std.specs.Option.{option_copied}
use Rattle.name_order.specs.LibraryName.{is_library_name}
use Rattle.image_tree.specs.declared.tree.Kind.TheVariants as kinds
use Rattle.image_tree.specs.Tree.{Nodes, kind_at}
use Rattle.image_tree.specs.Paths.{components, join}
use Rattle.path_walk.specs.Rest.{names_in}
use Rattle.path_walk.specs.Walk.{Stop, Ends, Follows, at_file, steps, is_plain_mode, start_of, target_at}
use Rattle.path_walk.specs.declared.walk.Mode.{Mode}
use Rattle.path_walk.specs.declared.walk.Mode.TheVariants.{Full}
use Rattle.path_walk.specs.declared.files.NextTo.{NextTo}
use Rattle.path_walk.specs.declared.files.NextTo.TheVariants as next_to
use Rattle.path_walk.specs.declared.walk.WalkFault.{WalkFault}
use Rattle.path_walk.specs.declared.walk.WalkFault.TheVariants.{Absent, TooManyLinks, NoMemory}
use Rattle.path_walk.specs.declared.walk.Child.{Child}
use Rattle.path_walk.specs.declared.walk.Child.TheVariants as child
use Rattle.path_walk.specs.declared.walk.End.{End}
use Rattle.path_walk.specs.declared.walk.End.TheVariants as end
use Rattle.path_walk.specs.declared.walk.Halt.{Halt}
use Rattle.path_walk.specs.declared.walk.Halt.TheVariants as halt

-- the stop of a walk that halts at this place
abbrev pub stop_of : Halt → List ℕ → Stop
stop_of (halt.Reached e) place = Ends (Ok place)
stop_of (halt.Link target rest) place = Follows (components target.now ++ names_in (option_copied rest)) (start_of target.now place)

-- the child is at the path
abbrev pub IsAt : Nodes → List ℕ → Child → Type 0
IsAt t place child.Dir = kind_at t place ≡ kinds.Dir
IsAt t place child.File = kind_at t place ≡ kinds.File
IsAt t place (child.Link target) = (kind_at t place ≡ kinds.Link) × (target.now ≡ target_at t place)

-- this child is at the path with this last name, and the mode doesn't hide it
abbrev pub IsChildAt : Nodes → Mode → List ℕ → List ℕ → Child → Type 0
IsChildAt t mode name place child.Dir = kind_at t place ≡ kinds.Dir
IsChildAt t mode name place child.File = kind_at t place ≡ kinds.File
IsChildAt t mode name place (child.Link target) =
    (kind_at t place ≡ kinds.Link) × ((is_plain_mode mode && is_library_name name) ≡ false) × (target.now ≡ target_at t place)

-- this child has the name in the folder `old`, and the walk goes on from `new`
abbrev pub IsChild : Nodes → Mode → List ℕ → List ℕ → List ℕ → Child → Type 0
IsChild t mode name old new child.Dir = (kind_at t (join old name) ≡ kinds.Dir) × (new ≡ join old name)
IsChild t mode name old new child.File = (kind_at t (join old name) ≡ kinds.File) × (new ≡ join old name)
IsChild t mode name old new (child.Link target) =
    (kind_at t (join old name) ≡ kinds.Link) × ((is_plain_mode mode && is_library_name name) ≡ false) × (target.now ≡ target_at t (join old name)) × (new ≡ old)

-- the path with this last name counts as absent
abbrev pub IsAbsentAt : Nodes → Mode → List ℕ → List ℕ → Type 0
IsAbsentAt t mode name place = (kind_at t place ≡ kinds.Absent) ⊎ ((kind_at t place ≡ kinds.Link) × ((is_plain_mode mode && is_library_name name) ≡ true))

abbrev pub IsNoChild : Nodes → Mode → List ℕ → List ℕ → WalkFault → Type 0
IsNoChild t mode name old fault = (fault ≡ NoMemory) ⊎ ((fault ≡ Absent) × IsAbsentAt t mode name (join old name))

-- the walk stops with this fault, or is out of memory
abbrev pub Fails : Stop → WalkFault → Type 0
Fails stop fault = (fault ≡ NoMemory) ⊎ (stop ≡ Ends (Err fault))

-- a walk that has reached a file ends there, or stops with this fault because names are left
abbrev pub EndsAtFile : List (List ℕ) → Result (Unit {0}) WalkFault → Type 0
EndsAtFile names result = (place : List ℕ) → MatchResult result (λ _. at_file names place ≡ Ends (Ok place)) (λ fault. at_file names place ≡ Ends (Err fault))

-- the walk by these names from `old` halts at `new` as `h` says
abbrev pub StopsAt : Nodes → Mode → List (List ℕ) → List ℕ → List ℕ → Halt → Type 0
StopsAt t mode names old new h = steps t mode names old ≡ stop_of h new

-- the walk by a name and then by the rest goes on from `new` by the rest, or halts at `new` as `h` says
abbrev pub GoesOn : Nodes → Mode → List ℕ → List (List ℕ) → List ℕ → List ℕ → Option Halt → Type 0
GoesOn t mode name rest old new None = steps t mode (name ∷ rest) old ≡ steps t mode rest new
GoesOn t mode name rest old new (Some h) = StopsAt t mode (name ∷ rest) old new h

-- the walk halts at a link that it must follow, and the fault is TooManyLinks
abbrev pub LinkIsLeft : Halt → WalkFault → Type 0
LinkIsLeft (halt.Reached e) fault = ⊥
LinkIsLeft (halt.Link target rest) fault = fault ≡ TooManyLinks

-- a walk leads from directories to directories
abbrev pub KeepsDir : Nodes → List ℕ → List ℕ → Type 0
KeepsDir t old new = kind_at t old ≡ kinds.Dir → kind_at t new ≡ kinds.Dir

-- the walk from `old` ends at a file, or at a directory if it began at a directory
abbrev pub EndsAt : Nodes → List ℕ → List ℕ → End → Type 0
EndsAt t old new end.Dir = KeepsDir t old new
EndsAt t old new end.File = kind_at t new ≡ kinds.File

abbrev pub HaltsAt : Nodes → List ℕ → List ℕ → Halt → Type 0
HaltsAt t old new (halt.Reached e) = EndsAt t old new e
HaltsAt t old new (halt.Link target rest) = KeepsDir t old new

-- the walk by the target of a link in this folder ends at a file after one name, or goes on by the target of another link there
abbrev pub IsNextTo : Nodes → List ℕ → List ℕ → NextTo → Type 0
IsNextTo t folder target (next_to.File path) = (steps t Full (components target) (start_of target folder) ≡ Ends (Ok path)) × (kind_at t path ≡ kinds.File)
IsNextTo t folder target (next_to.Link next) = steps t Full (components target) (start_of target folder) ≡ Follows (components next.now) (start_of next.now folder)
IsNextTo t folder target next_to.Other = Unit {0}
