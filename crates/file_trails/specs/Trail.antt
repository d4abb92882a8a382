-- The links that a path resolution follows, and the file at its end (path_resolution(7), symlink(7)). A set of files in which the path
-- leads to the same file has all of these.
use Rattle.std.specs.Prelude.{ℕ, zero, suc, List, [], ◌∷◌, ◌++◌, if◌then◌else◌, codes}
use Rattle.std.specs.Str.{bytes_eq}
use Rattle.image_tree.specs.Paths.{components, join, root}
use Rattle.image_tree.specs.Tree.{Nodes, kind_at}
use Rattle.image_tree.specs.declared.tree.Kind.{Kind}
use Rattle.image_tree.specs.declared.tree.Kind.TheVariants as kinds
use Rattle.path_walk.specs.Names.{parent}
use Rattle.path_walk.specs.Walk.{Stop, Ends, Follows, steps}
use Rattle.path_walk.specs.declared.walk.Mode.TheVariants.{Full}
use Rattle.path_walk.specs.declared.walk.TheConstants.{LINKS_MAX}

-- a walk stops at a file or a link, and goes on only from a directory
abbrev pub met_at : Kind → List ℕ → List (List ℕ) → List (List ℕ)
met_at kinds.Dir path more = more
met_at kinds.File path more = path ∷ []
met_at kinds.Link path more = path ∷ []
met_at kinds.Absent path more = []

-- the file or the link at which a walk by these names from a directory stops, if it is one
abbrev pub met : Nodes → List (List ℕ) → List ℕ → List (List ℕ)
met t [] place = []
met t (name ∷ rest) place =
    if bytes_eq name (codes "..") then met t rest (parent place) else
    met_at (kind_at t (join place name)) (join place name) (met t rest (join place name))

-- the same for a walk that follows fewer than `walks` links
abbrev pub met_by : Nodes → ℕ → Stop → List (List ℕ)
met_by t walks (Ends result) = []
met_by t zero (Follows names place) = []
met_by t (suc walks) (Follows names place) = met t names place ++ met_by t walks (steps t Full names place)

-- the links that are followed from the root, in order, and the file to which the path leads
unfoldable pub trail : Nodes → List ℕ → List (List ℕ)
trail t path = met_by t (suc LINKS_MAX) (Follows (components path) root)
