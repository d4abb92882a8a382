-- Facts that private functions state about a walk that halts.
use Rattle.std.specs.Prelude.{◌≡◌, ◌++◌, ◌∷◌, [], ℕ, List, Ok, Err, if◌then◌else◌, codes}
use Rattle.std.specs.Option.{option_copied}
use Rattle.std.specs.Str.{bytes_eq}
use Rattle.image_tree.specs.Paths.{components, join}
use Rattle.image_tree.specs.Tree.{Nodes, kind_at}
use Rattle.image_tree.specs.declared.tree.Kind.TheVariants as kinds
use Rattle.path_walk.specs.Rest.{names_in}
use Rattle.path_walk.specs.Walk.{Stop, Ends, Follows, at_child, at_file, at_link, start_of, steps, target_at}
use Rattle.path_walk.specs.declared.walk.Mode.{Mode}
use Rattle.path_walk.specs.declared.walk.WalkFault.{WalkFault}
use Rattle.looked_tree.specs.declared.walking.Halt.{Halt}
use Rattle.looked_tree.specs.declared.walking.Halt.TheVariants as halt
use Rattle.looked_tree.specs.declared.walking.Step.{Step}
use Rattle.looked_tree.specs.declared.walking.Step.TheVariants as step
use Rattle.seen_tree.specs.Part.{below, passed}

-- the walk ends at this place, ends nowhere, or must follow a link
abbrev pub HaltsAt : Halt → Stop → Type 0
HaltsAt (halt.Reached place) stop = stop ≡ Ends (Ok place)
HaltsAt halt.Nowhere stop = (fault : WalkFault) × (stop ≡ Ends (Err fault))
HaltsAt (halt.Link place target rest) stop = stop ≡ Follows (components target ++ names_in (option_copied rest)) (start_of target place)

-- According to a tree with the node at the name's path, the walk goes on from this directory, or halts.
abbrev pub IsStep : Nodes → Mode → List ℕ → List (List ℕ) → List ℕ → Step → Type 0
IsStep t mode name rest place (step.To new) = (kind_at t (join place name) ≡ kinds.Dir) × (new ≡ join place name)
IsStep t mode name rest place (step.Halts h) =
    ((more : List (List ℕ)) → below (kind_at t (join place name)) more ≡ [])
    × ((dir : Stop) → HaltsAt h (at_child (kind_at t (join place name)) (at_link mode name (target_at t (join place name)) rest place) (at_file rest (join place name)) dir))

-- the path that is looked up for a name in a directory
abbrev pub stepped : List ℕ → List ℕ → List (List ℕ)
stepped name place = if bytes_eq name (codes "..") then [] else join place name ∷ []

-- after its first name a walk goes on from this directory by the rest, or halts
abbrev pub GoesOn : Nodes → Mode → List ℕ → List (List ℕ) → List ℕ → Step → Type 0
GoesOn t mode name rest place (step.To new) =
    (passed t (name ∷ rest) place ≡ stepped name place ++ passed t rest new) × (steps t mode (name ∷ rest) place ≡ steps t mode rest new)
GoesOn t mode name rest place (step.Halts h) = (passed t (name ∷ rest) place ≡ stepped name place) × HaltsAt h (steps t mode (name ∷ rest) place)
