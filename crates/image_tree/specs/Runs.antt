-- A tree's list, stored as sorted runs of bounded length.
use Rattle.std.specs.Prelude.{◌≡◌, ℕ, ◌+◌, ◌-◌, ◌<◌, ◌≤◌, ◌==◌, Bool, true, List, [], ◌∷◌, ◌++◌, ◌&&◌, not, nat_le, nat_eq, if◌then◌else◌, map, length, take, drop, slice_index_or, slice_set, Option, Some, None}
use Rattle.std.specs.List.{dedup, flat_map, filter, insert, list_all, HoldsAt, take_while, starts_with}
use Rattle.std.specs.Ordering.{is_gt}
use Rattle.std.specs.Str.{bytes_eq}
use Rattle.image_tree.specs.Paths.{path_cmp, folder, is_below, is_slash, name_after}
use Rattle.image_tree.specs.Index.{IsIndexOf, IsGapFor}
use Rattle.image_tree.specs.Tree.{Nodes, IsTree, kind_at}
use Rattle.image_tree.specs.declared.node.Node.{Node}
use Rattle.image_tree.specs.declared.tree.Kind.TheVariants.{Dir}
use Rattle.image_tree.specs.declared.tree.run.TheConstants.{RUN_MAX}
use Rattle.image_tree.specs.declared.tree.runs.Place.{Place}

-- the entries of all runs as one list
abbrev pub joined : List Nodes → Nodes
joined runs = flat_map (λ run. run) runs

-- a run has 1 to RUN_MAX entries
abbrev pub is_run : Nodes → Bool
is_run run = nat_le 1 (length run) && nat_le (length run) RUN_MAX

abbrev pub are_runs : List Nodes → Bool
are_runs runs = list_all is_run runs

-- the index in the joined list at which a run begins
abbrev pub start_of : List Nodes → ℕ → ℕ
start_of runs run = length (joined (take run runs))

-- the index in the joined list of the entry at a place
abbrev pub index_of : List Nodes → Place → ℕ
index_of runs place = start_of runs place.run + place.at

-- the number of entries of a run, or 0 after the last run
abbrev pub run_length : List Nodes → ℕ → ℕ
run_length runs run = length (slice_index_or runs run [])

-- there is an entry at the place
pub record IsEntryPlace (runs : List Nodes) (place : Place) : Type 0 where
  pub run : place.run < length runs
  pub at : place.at < run_length runs place.run

-- an entry may be inserted at the place
pub record IsPlace (runs : List Nodes) (place : Place) : Type 0 where
  pub run : place.run ≤ length runs
  pub at : place.at ≤ run_length runs place.run

-- an entry may be inserted at the place without dividing a run
pub record HasRoomAt (runs : List Nodes) (place : Place) : Type 0 where
  pub run : place.run < length runs
  pub at : place.at ≤ run_length runs place.run
  pub room : run_length runs place.run < RUN_MAX

-- the entry at the place has the path
pub record IsPlaceOf (runs : List Nodes) (path : List ℕ) (place : Place) : Type 0 where
  pub entry : IsEntryPlace runs place
  pub index : IsIndexOf (joined runs) path (index_of runs place)

-- no entry has the path, and it would be inserted at the place
pub record IsGapAt (runs : List Nodes) (path : List ℕ) (place : Place) : Type 0 where
  pub here : IsPlace runs place
  pub gap : IsGapFor (joined runs) path (index_of runs place)

-- the entry at this index
pub record IsEntryAt (t : Nodes) (index : ℕ) (e : List ℕ × Node) : Type 0 where
  pub within : index < length t
  pub same : HoldsAt (λ x. x ≡ e) t index

-- the entry directly before this index
pub record IsEntryBefore (t : Nodes) (index : ℕ) (e : List ℕ × Node) : Type 0 where
  pub i : ℕ
  pub next : index ≡ i + 1
  pub entry : IsEntryAt t i e

-- the new list is the old one with the node of the entry at this index replaced
abbrev pub IsWithNode : Nodes → ℕ → Node → Nodes → Type 0
IsWithNode old index node new = (d : List ℕ × Node) → new ≡ slice_set old index ((slice_index_or old index d).0, node)

-- the new runs are the old ones with the node of one entry of one run replaced
abbrev pub IsRunWithNode : List Nodes → ℕ → ℕ → Node → List Nodes → Type 0
IsRunWithNode old run at node new =
    (d : List ℕ × Node) → new ≡ slice_set old run (slice_set (slice_index_or old run []) at ((slice_index_or (slice_index_or old run []) at d).0, node))

-- the runs, with one run divided in two at an index
abbrev pub divided : List Nodes → ℕ → ℕ → List Nodes
divided runs run at = insert (slice_set runs run (take at (slice_index_or runs run []))) (run + 1) (drop at (slice_index_or runs run []))

-- the first entry of the run is at the path or before it
abbrev pub begins_by : List ℕ → Nodes → Bool
begins_by path [] = true
begins_by path (e ∷ run) = not (is_gt (path_cmp e.0 path))

-- valid runs of a tree
pub record AreRuns (runs : List Nodes) : Type 0 where
  pub tree : IsTree (joined runs)
  pub bounded : are_runs runs ≡ true

-- the path ends with the name at the offset n
abbrev pub ends_by : ℕ → List ℕ → Bool
ends_by n path = length (name_after n path) == length path - n

-- the name that follows a directory prefix of n bytes in the entry's path, and the node if the path ends after that name
abbrev pub child_at : ℕ → List ℕ × Node → List ℕ × Option Node
child_at n e = (name_after n e.0, if ends_by n e.0 then Some e.1 else None)

-- a name ends before these bytes: the list is empty, or its first byte is a slash
abbrev pub is_name_end : List ℕ → Bool
is_name_end [] = true
is_name_end (b ∷ rest) = is_slash b

-- the path is `folder` followed by one name
pub record IsPathOfChild (folder name path : List ℕ) : Type 0 where
  pub whole : path ≡ folder ++ name
  pub alone : list_all (λ b. not (is_slash b)) name ≡ true

abbrev pub is_same_child : List ℕ × Option Node → List ℕ × Option Node → Bool
is_same_child c d = bytes_eq c.0 d.0

-- the first entries, as long as their paths begin with `folder`
abbrev pub in_folder : List ℕ → Nodes → Nodes
in_folder folder t = take_while (λ e. starts_with nat_eq e.0 folder) t

-- The child of each entry. A child's own path comes before the paths below it, so the first entry of each name has the child's node.
abbrev pub children_after : List ℕ → Nodes → List (List ℕ × Option Node)
children_after folder t = map (child_at (length folder)) (in_folder folder t)

-- the same list, with each child once
abbrev pub children_in : List ℕ → Nodes → List (List ℕ × Option Node)
children_in folder t = dedup is_same_child (children_after folder t)

-- the path is a directory, and the entries begin with all entries below it
pub record AreFromDir (t : Nodes) (path : List ℕ) (entries : Nodes) : Type 0 where
  pub dir : kind_at t path ≡ Dir
  pub below : in_folder (folder path) entries ≡ filter (λ e. is_below path e.0) t
