-- The states of the devices over real directories and streams: unknown contents, and their counts.
use Rattle.std.specs.Prelude.{ℕ, true, None, refl}
use Rattle.tree_face.specs.Crash.{HasMoments}
use Rattle.tree_face.specs.Disk.{DiskState}
use Rattle.tree_face.specs.Store.{StoreState}
use Rattle.tree_face.specs.Stream.{SourceState, SinkState}
use Rattle.tree_real.specs.declared.counts.StoreCounts.{StoreCounts}

abbrev pub unknown_store : StoreCounts → StoreState
unknown_store c = record {
  held = None;
  key = None;
  content = None;
  size = c.size;
  faults = c.faults;
  begun = c.begun;
  keys = None;
  taken = c.taken;
}

-- the counts of a store that was not used yet
abbrev pub no_counts : StoreCounts
no_counts = record { size = None; faults = 0; begun = 0; taken = 0 }

-- any temporary file may have been made, and a crash may leave anything
abbrev pub unknown_disk : ℕ → ℕ → DiskState
unknown_disk faults read_faults = record {
  contents = None;
  made = λ _ _. true;
  time = 0;
  may = λ _ _. true;
  since = λ _ _ _. true;
  calls = None;
  reads = None;
  faults = faults;
  read_faults = read_faults;
}

pub unknown_moments : (faults read_faults : ℕ) → HasMoments (unknown_disk faults read_faults)
unknown_moments faults read_faults = record { held = tt; unknown = λ e slot b. refl; now = λ slot b. refl; earlier = λ t u slot b le within since. refl }

abbrev pub unknown_source : ℕ → SourceState
unknown_source faults = record { left = None; faults = faults }

abbrev pub unknown_sink : ℕ → SinkState
unknown_sink faults = record { written = None; faults = faults }
