-- How the reading of an interpreter ends.
use Rattle.std.specs.Prelude.{Result, Ok, Err}
use Rattle.elf_interpreter.specs.declared.fault.InterpreterFault.{InterpreterFault}
use Rattle.elf_interpreter.specs.declared.fault.InterpreterFault.TheVariants.{StoreFault, NoMemory}
use Rattle.tree_face.specs.StoreUse.{Ending, Complete, DeviceFailed, GaveUp}

abbrev pub interpreter_ending : {A : Type 0} → Result A InterpreterFault → Ending
interpreter_ending (Ok text) = Complete
interpreter_ending (Err StoreFault) = DeviceFailed
interpreter_ending (Err NoMemory) = GaveUp
