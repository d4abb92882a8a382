-- The interpreters that programs name (execve(2)), and the files that are opened to read their paths.
use Rattle.std.specs.Prelude.{ℕ, List, [], flat_map, Option, Some, None, option_and_then, option_to_list, Result, Ok, Err}
use Rattle.elf_dynamic.specs.Begun.{LacksOne, key_in, until_known}
use Rattle.elf_interpreter.specs.Interpreter.{interpreter}
use Rattle.image_tree.specs.Tree.{Nodes, node_at}
use Rattle.ldd_resolve.specs.Resolving.{program_at}
use Rattle.ldd_resolve.specs.declared.kinds.ProgramFault.{ProgramFault}
use Rattle.ldd_resolve.specs.declared.kinds.ProgramScope.{ProgramScope}
use Rattle.ldd_resolve.specs.declared.kinds.Scope.{Scope}
use Rattle.tree_face.specs.Store.{Contents, StoreState}
use Rattle.tree_face.specs.StoreUse.{Ending, ReadsFiles}

-- ---- the interpreters

-- the key of the file to which a path leads
abbrev pub key_there : Nodes → List ℕ → Option (List ℕ)
key_there t path = option_and_then (λ real. key_in (node_at t real)) (program_at t path)

-- the path of the interpreter that the program at a path names
abbrev pub interpreter_at : Contents → Nodes → List ℕ → Option (List ℕ)
interpreter_at held t path = option_and_then interpreter (option_and_then held (key_there t path))

-- the same for a path with a program; a path without one has none
abbrev pub interpreter_of : Contents → Nodes → List ℕ → Result Scope ProgramFault → List (List ℕ)
interpreter_of held t path (Ok scope) = option_to_list (interpreter_at held t path)
interpreter_of held t path (Err fault) = []

abbrev pub interpreters : Contents → Nodes → List ProgramScope → List (List ℕ)
interpreters held t programs = flat_map (λ p. interpreter_of held t p.path p.scope) programs

-- ---- the files that are opened

abbrev pub key_at : Nodes → List ℕ → List (List ℕ)
key_at t path = option_to_list (key_there t path)

abbrev pub key_of : Nodes → List ℕ → Result Scope ProgramFault → List (List ℕ)
key_of t path (Ok scope) = key_at t path
key_of t path (Err fault) = []

-- the file of each program
abbrev pub program_keys : Nodes → List ProgramScope → List (List ℕ)
program_keys t programs = flat_map (λ p. key_of t p.path p.scope) programs

-- The call opens the files of these keys in order, up to and including the first key that the store doesn't hold.
abbrev pub ReadsPrograms : Option Contents → List (List ℕ) → Ending → StoreState → StoreState → Type 0
ReadsPrograms known keys ending old new = ReadsFiles (LacksOne known keys) (Some (until_known known keys)) None ending old new
