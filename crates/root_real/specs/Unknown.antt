-- The state of a real directory: unknown content, and counts.
use Rattle.std.specs.Prelude.{ℕ, true, None, refl}
use Rattle.root_folder.specs.Crash.{HasMoments}
use Rattle.root_folder.specs.Folder.{FolderState}
use Rattle.root_folder.specs.declared.folder.FolderCounts.{FolderCounts}

-- a crash may leave anything
abbrev pub unknown_folder : FolderCounts → ℕ → ℕ → FolderState
unknown_folder counts faults read_faults = record {
  contents = None;
  time = 0;
  may = λ _ _. true;
  since = λ _ _ _. true;
  calls = None;
  counts = counts;
  faults = faults;
  read_faults = read_faults;
}

pub unknown_moments : (counts : FolderCounts) (faults read_faults : ℕ) → HasMoments (unknown_folder counts faults read_faults)
unknown_moments counts faults read_faults = record {
  held = tt;
  settled = tt;
  unknown = λ e p x. refl;
  now = λ p x. refl;
  earlier = λ t u p x le within since. refl;
}

-- the counts of a directory that was not used yet
abbrev pub no_counts : FolderCounts
no_counts = record { lists = 0; looks = 0; links = 0; settles = 0 }
