-- The programs and libraries of an image: the files with a dynamic section (gABI, "Dynamic Section").
use Rattle.std.specs.Prelude.{ℕ, Bool, true, false, ◌==◌, List, [], ◌∷◌, filter, flat_map, if◌then◌else◌, Some, option_and_then, option_to_list}
use Rattle.std.specs.Map.{keys_of}
use Rattle.std.specs.Option.{option_map_or}
use Rattle.elf_dynamic.specs.Analysis.{analysis}
use Rattle.elf_dynamic.specs.Begun.{key_in}
use Rattle.image_tree.specs.Tree.{Nodes}
use Rattle.image_tree.specs.declared.node.Node.{Node}
use Rattle.lib_types.specs.declared.analysis.Analysis.{Analysis}
use Rattle.lib_types.specs.declared.analysis.Analysis.TheVariants.{Lib, Not}
use Rattle.lib_types.specs.declared.analysis.Defect.{Defect}
use Rattle.lib_types.specs.declared.analysis.Defect.TheVariants.{NotElf, TooShort, BadClass, BadData, BadMachine, NotShared, NoDynamic}
use Rattle.tree_face.specs.Store.{Contents}

-- A file with this defect may have a dynamic section. A program at fixed addresses (ET_EXEC) has one, but isn't a library. Not so a file
-- that isn't ELF, one for another processor, and one of another type (a relocatable or a core file).
abbrev pub may_be_dynamic : Defect → Bool
may_be_dynamic NotElf = false
may_be_dynamic (TooShort length) = false
may_be_dynamic (BadClass value) = false
may_be_dynamic (BadData value) = false
may_be_dynamic (BadMachine number) = false
may_be_dynamic (NotShared type) = type == 2
may_be_dynamic NoDynamic = false
may_be_dynamic d = true

abbrev pub is_program : Analysis → Bool
is_program (Lib abi soname) = true
is_program (Not d) = may_be_dynamic d

-- the node is a file whose content is that of a program or a library
abbrev pub is_program_file : Contents → Node → Bool
is_program_file held node = option_map_or (λ bytes. is_program (analysis bytes)) (option_and_then held (key_in (Some node))) false

-- the paths of these files, in the order of the tree
abbrev pub image_programs : Contents → Nodes → List (List ℕ)
image_programs held t = keys_of (filter (λ e. is_program_file held e.1) t)

-- ---- the files that are opened

abbrev pub keys_of_node : Node → List (List ℕ)
keys_of_node node = option_to_list (key_in (Some node))

-- all files of the tree, in its order
abbrev pub node_keys : Nodes → List (List ℕ)
node_keys t = flat_map (λ e. keys_of_node e.1) t

-- ---- what private functions say

abbrev pub path_if_program : Contents → List ℕ → Node → List (List ℕ)
path_if_program held path node = if is_program_file held node then path ∷ [] else []
