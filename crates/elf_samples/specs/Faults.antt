-- Why a sample can't be generated.
use Rattle.elf_maker.specs.declared.fault.MakeFault.{MakeFault}
use Rattle.elf_maker.specs.declared.fault.MakeFault.TheVariants as make_faults
use Rattle.elf_samples.specs.declared.fault.SampleFault.{SampleFault}
use Rattle.elf_samples.specs.declared.fault.SampleFault.TheVariants.{TooLong, NoMemory}

abbrev pub of_make : MakeFault → SampleFault
of_make make_faults.TooLong = TooLong
of_make make_faults.NoMemory = NoMemory
