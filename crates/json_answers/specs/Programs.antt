-- The libraries of programs as a JSON value.
use Rattle.std.specs.Prelude.{List, map, codes, Result, Ok, Err}
use Rattle.lib_types.specs.Defects.{defect_name}
use Rattle.ldd_resolve.specs.declared.kinds.Item.{Item}
use Rattle.ldd_resolve.specs.declared.kinds.ProgramFault.{ProgramFault}
use Rattle.ldd_resolve.specs.declared.kinds.ProgramFault.TheVariants.{NoProgram, BadProgram}
use Rattle.ldd_resolve.specs.declared.kinds.ProgramScope.{ProgramScope}
use Rattle.ldd_resolve.specs.declared.kinds.Scope.{Scope}
use Rattle.serde_json.specs.Data.{Data, null, array, object, member, no_members}
use Rattle.serde_json.specs.View.{items_of}
use Rattle.json_texts.specs.Texts.{bytes_data, optional_data}

-- a needed name, and the path at which it is found or null
abbrev pub item_data : Item → Data
item_data i = object (member (codes "name") (bytes_data i.name) (member (codes "path") (optional_data i.path) no_members))

-- the items of the listing in order, or null where no program is found
abbrev pub libraries_data : Result Scope ProgramFault → Data
libraries_data (Ok scope) = array (items_of (map item_data scope.listing))
libraries_data (Err fault) = null

-- the name of the fault, or null
abbrev pub fault_data : Result Scope ProgramFault → Data
fault_data (Ok scope) = null
fault_data (Err NoProgram) = bytes_data (codes "NoProgram")
fault_data (Err (BadProgram defect)) = bytes_data (codes "BadProgram")

-- the name of the file's first defect, or null
abbrev pub defect_data : Result Scope ProgramFault → Data
defect_data (Ok scope) = null
defect_data (Err NoProgram) = null
defect_data (Err (BadProgram defect)) = bytes_data (defect_name defect)

abbrev pub program_data : ProgramScope → Data
program_data p = object
    (member (codes "defect") (defect_data p.scope)
    (member (codes "fault") (fault_data p.scope)
    (member (codes "libraries") (libraries_data p.scope)
    (member (codes "path") (bytes_data p.path) no_members))))

-- the programs in the order in which they were asked for
abbrev pub programs_data : List ProgramScope → Data
programs_data ps = object (member (codes "programs") (array (items_of (map program_data ps))) no_members)
