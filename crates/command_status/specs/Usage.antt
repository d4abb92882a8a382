-- No fault of a part has the status of invalid arguments.
use Rattle.std.specs.Prelude.{◌≡◌}
use Rattle.image_session.specs.declared.fault.LoadFault.{LoadFault}
use Rattle.image_session.specs.declared.fault.LoadFault.TheVariants as loading
use Rattle.ldd_resolve.specs.declared.kinds.ProgramFault.{ProgramFault}
use Rattle.ldd_resolve.specs.declared.kinds.ProgramFault.TheVariants as programs
use Rattle.ldd_resolve.specs.declared.kinds.ResolveFault.{ResolveFault}
use Rattle.ldd_resolve.specs.declared.kinds.ResolveFault.TheVariants as resolving
use Rattle.command_status.specs.Status.{of_load, of_program, of_resolve}
use Rattle.command_status.specs.declared.status.Status.TheVariants.{Usage}

pub load_no_usage : (fault : LoadFault) → of_load fault ≡ Usage → ⊥
load_no_usage (loading.DiskFailed slot) e = absurd (cc)
load_no_usage loading.NoManifest e = absurd (cc)
load_no_usage (loading.BadManifest fault) e = absurd (cc)
load_no_usage loading.NoMemory e = absurd (cc)

pub resolve_no_usage : (fault : ResolveFault) → of_resolve fault ≡ Usage → ⊥
resolve_no_usage resolving.NoProgram e = absurd (cc)
resolve_no_usage (resolving.BadProgram defect) e = absurd (cc)
resolve_no_usage resolving.StoreFault e = absurd (cc)
resolve_no_usage resolving.NoMemory e = absurd (cc)

pub program_no_usage : (fault : ProgramFault) → of_program fault ≡ Usage → ⊥
program_no_usage programs.NoProgram e = absurd (cc)
program_no_usage (programs.BadProgram defect) e = absurd (cc)
