-- Readings in sequence.
use Rattle.std.proofs.Common.{◌≡◌, refl, ◌∙◌, Ok, Err}
use Rattle.root_folder.specs.Folder.{FolderState, HasNoFault, KeepsFolder}
use Rattle.root_folder.specs.declared.folder.FolderCounts.{FolderCounts}
use Rattle.root_tree.specs.ReadTree.{HasCause, HasRead, KeepsMade, ReadsOn}
use Rattle.root_tree.specs.declared.fault.TreeRead.{TreeRead}
use Rattle.root_tree.specs.declared.fault.TreeRead.TheVariants.{Failed, TooLarge, NoMemory}

pub no_reading : (s : FolderState) → HasRead s s
no_reading s = record {
  keeps = record { contents = refl; time = refl; may = refl; since = refl };
  made = record { links = refl; settles = refl };
  no_fault = record { faults = refl; read_faults = refl };
}

keeps_on : (a b c : FolderState) → KeepsFolder a b → KeepsFolder b c → KeepsFolder a c
keeps_on a b c first next = record { contents = next.contents ∙ first.contents; time = next.time ∙ first.time; may = next.may ∙ first.may; since = next.since ∙ first.since }

made_on : (a b c : FolderCounts) → KeepsMade a b → KeepsMade b c → KeepsMade a c
made_on a b c first next = record { links = next.links ∙ first.links; settles = next.settles ∙ first.settles }

no_fault_on : (a b c : FolderState) → HasNoFault a b → HasNoFault b c → HasNoFault a c
no_fault_on a b c first next = record { faults = next.faults ∙ first.faults; read_faults = next.read_faults ∙ first.read_faults }

pub read_on : (a b c : FolderState) → HasRead a b → HasRead b c → HasRead a c
read_on a b c first next = record {
  keeps = keeps_on a b c first.keeps next.keeps;
  made = made_on a.counts b.counts c.counts first.made next.made;
  no_fault = no_fault_on a b c first.no_fault next.no_fault;
}

pub read_ok : {A : Type 0} (x : A) (a b : FolderState) → ReadsOn {A = A} (Ok x) a b → HasRead a b
read_ok x a b reads = record { keeps = reads.keeps; made = reads.made; no_fault = reads.done }

cause_on : (a b c : FolderState) (fault : TreeRead) → HasNoFault a b → HasCause fault b c → HasCause fault a c
cause_on a b c (Failed at) none cause = (rw (← none.faults) cause.0, rw (← none.read_faults) cause.1)
cause_on a b c TooLarge none cause = no_fault_on a b c none cause
cause_on a b c NoMemory none cause = no_fault_on a b c none cause

pub fails_on : {A B : Type 0} (a b c : FolderState) (fault : TreeRead) → HasRead a b → ReadsOn {A = A} (Err fault) b c → ReadsOn {A = B} (Err fault) a c
fails_on a b c fault first next = record {
  keeps = keeps_on a b c first.keeps next.keeps;
  made = made_on a.counts b.counts c.counts first.made next.made;
  done = tt;
  failed = cause_on a b c fault first.no_fault next.failed;
}
