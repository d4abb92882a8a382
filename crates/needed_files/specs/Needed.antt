-- The files that programs need (execve(2), ld.so(8)), with each link on the way (symlink(7)). A copy of these files alone has all that the
-- programs open to start.
use Rattle.std.specs.Prelude.{◌++◌, ℕ, Bool, List, [], flat_map, is_none, Result, Ok, Err}
use Rattle.std.specs.List.{list_any}
use Rattle.file_trails.specs.Trail.{trail}
use Rattle.image_tree.specs.Tree.{Nodes}
use Rattle.ldd_resolve.specs.declared.kinds.ProgramFault.{ProgramFault}
use Rattle.ldd_resolve.specs.declared.kinds.ProgramScope.{ProgramScope}
use Rattle.ldd_resolve.specs.declared.kinds.Scope.{Scope}
use Rattle.path_walk.specs.Files.{file_at}
use Rattle.string_pool.specs.Order.{ascending}
use Rattle.tree_face.specs.Store.{Contents}
use Rattle.needed_files.specs.Interpreters.{interpreters}

-- the paths by which a program and its libraries are found; none without a program
abbrev pub found_in : Result Scope ProgramFault → List (List ℕ)
found_in (Ok scope) = scope.found
found_in (Err fault) = []

-- the paths that the kernel and the loader open for programs with these interpreters
abbrev pub opened : List (List ℕ) → List ProgramScope → List (List ℕ)
opened named programs = flat_map (λ p. found_in p.scope) programs ++ named

-- the links on the way of these paths and the files to which they lead, each once, in the order of their bytes
abbrev pub files_of : Nodes → List (List ℕ) → List (List ℕ)
files_of t paths = ascending (flat_map (trail t) paths)

unfoldable pub needed_files : Contents → Nodes → List ProgramScope → List (List ℕ)
needed_files held t programs = files_of t (opened (interpreters held t programs) programs)

abbrev pub lacks_file : Nodes → List (List ℕ) → Bool
lacks_file t paths = list_any (λ path. is_none (file_at t path)) paths

-- the path of a program's interpreter leads to no file
abbrev pub lacks_interpreter : Contents → Nodes → List ProgramScope → Bool
lacks_interpreter held t programs = lacks_file t (interpreters held t programs)
