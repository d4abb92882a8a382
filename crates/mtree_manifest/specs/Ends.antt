-- The result of the code, compared with the specified outcome.
use Rattle.std.specs.Prelude.{◌≡◌, Result, Ok, Err}
use Rattle.mtree_manifest.specs.declared.fault.ManifestFault.{ManifestFault}
use Rattle.mtree_manifest.specs.declared.fault.ManifestFault.TheVariants.{TooLong, Bad, Clash, TooMany, NoMemory}

-- the outcome is this error, or the error is NoMemory
abbrev pub Refuses : {A : Type 0} → ManifestFault → Result A ManifestFault → Type 0
Refuses NoMemory outcome = Unit {0}
Refuses (TooLong n) outcome = outcome ≡ Err (TooLong n)
Refuses (Bad line kind) outcome = outcome ≡ Err (Bad line kind)
Refuses (Clash line) outcome = outcome ≡ Err (Clash line)
Refuses (TooMany line) outcome = outcome ≡ Err (TooMany line)

-- a call that changes a value: if it succeeds, the outcome is the new value
abbrev pub Ends : {A : Type 0} → Result (Unit {0}) ManifestFault → Result A ManifestFault → A → Type 0
Ends (Ok _) outcome new = outcome ≡ Ok new
Ends (Err e) outcome new = Refuses e outcome
