-- What a crash leaves of an unknown directory: anything, before a call and after it.
use Rattle.std.proofs.Common.{◌≡◌, ℕ, List, refl, arith, Result, Ok, Err, OnOk, OnErr}
use Rattle.lib_types.specs.declared.fault.Failed.{Failed}
use Rattle.root_folder.specs.Crash.{AddsLink, GoesOn, LeavesAtMost, LeavesMore, LeavesSame, Settles, is_link_to}
use Rattle.root_folder.specs.declared.folder.FolderCounts.{FolderCounts}
use Rattle.root_real.specs.Unknown.{unknown_folder}

module _ (c d : FolderCounts) (faults read_faults more more_read : ℕ) where
  goes_on : GoesOn (unknown_folder c faults read_faults) (unknown_folder d more more_read)
  goes_on = record { later = omega arith; moments = λ t p x le. refl }

  leaves_same : (p : List ℕ) → LeavesSame p (unknown_folder c faults read_faults) (unknown_folder d more more_read)
  leaves_same p = record { now = λ x. refl; during = λ t x le. refl }

  link_done : (path target : List ℕ) (r : Result (Unit {0}) Failed) → OnOk r (LeavesMore (is_link_to target) path (unknown_folder c faults read_faults) (unknown_folder d more more_read))
  link_done path target (Ok x) = record { now = λ x. refl; during = λ t x le. refl }
  link_done path target (Err e) = tt

  link_failed : (path target : List ℕ) (r : Result (Unit {0}) Failed) → OnErr r (LeavesAtMost (is_link_to target) path (unknown_folder c faults read_faults) (unknown_folder d more more_read))
  link_failed path target (Ok x) = tt
  link_failed path target (Err e) = record { now = λ x may. refl; during = λ t x le since. refl }

  pub adds_link : (path target : List ℕ) (r : Result (Unit {0}) Failed) → AddsLink path target (unknown_folder c faults read_faults) (unknown_folder d more more_read) r
  adds_link path target r = record {
    goes_on = goes_on;
    others = λ p other. leaves_same p;
    done = link_done path target r;
    failed = link_failed path target r;
    refused = tt;
  }

  settle_done : (r : Result (Unit {0}) Failed) → OnOk r (Unit {0})
  settle_done (Ok x) = tt
  settle_done (Err e) = tt

  settle_failed : (r : Result (Unit {0}) Failed) → OnErr r ((p : List ℕ) → LeavesSame p (unknown_folder c faults read_faults) (unknown_folder d more more_read))
  settle_failed (Ok x) = tt
  settle_failed (Err e) = leaves_same

  pub settles : (dir : List ℕ) (r : Result (Unit {0}) Failed) → Settles dir (unknown_folder c faults read_faults) (unknown_folder d more more_read) r
  settles dir r = record {
    goes_on = goes_on;
    others = λ p other. leaves_same p;
    during = λ t p x le. refl;
    done = settle_done r;
    failed = settle_failed r;
  }
