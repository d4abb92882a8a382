-- Why a listing fails.
use Rattle.elf_dynamic.specs.declared.fault.ObjectFault.{ObjectFault}
use Rattle.elf_dynamic.specs.declared.fault.ObjectFault.TheVariants as object
use Rattle.rpath_search.specs.declared.fault.SearchFault.{SearchFault}
use Rattle.rpath_search.specs.declared.fault.SearchFault.TheVariants as search
use Rattle.ldd_resolve.specs.declared.kinds.ResolveFault.{ResolveFault}
use Rattle.ldd_resolve.specs.declared.kinds.ResolveFault.TheVariants.{BadProgram, StoreFault, NoMemory}

-- the error of a search as an error of the listing
abbrev pub of_search : SearchFault → ResolveFault
of_search search.StoreFault = StoreFault
of_search search.NoMemory = NoMemory

-- why the program's file can't be used
abbrev pub of_object : ObjectFault → ResolveFault
of_object (object.Bad d) = BadProgram d
of_object object.StoreFault = StoreFault
of_object object.NoMemory = NoMemory
