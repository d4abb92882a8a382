-- A crash leaves a new file only after all links exist.
use Rattle.std.proofs.Common.{◌≡◌, ◌≤◌, ◌⊎◌, inl, inr, ⊎_elim, ℕ, true, List, ap, sym, ◌∙◌, Result, Ok, Err, arith}
use Rattle.atomic_replace.specs.Replace.{Write}
use Rattle.atomic_replace.specs.OneByOne.{IsOfWrites}
use Rattle.root_links.specs.Links.{Linking, MakesAll}
use Rattle.root_writes.specs.Writing.{LeavesInOrder, States, WritesRoot}
use Rattle.root_writes.specs.declared.fault.WriteFault.{WriteFault}
use Rattle.root_writes.specs.declared.fault.WriteFault.TheVariants.{Links, Files}
use Rattle.tree_face.specs.declared.disk.Slot.{Slot}
use Rattle.tree_face.specs.declared.disk.Tag.{Tag}
use Rattle.tree_face.specs.Crash.{Leaves}
use Rattle.tree_face.specs.Disk.{Content, DiskState}

module _ (tag : Tag) (links : List Linking) (writes : List Write) (old new : States) where
  with_links : MakesAll tag links old.folder new.folder → Leaves (IsOfWrites writes) old.disk new.disk → LeavesInOrder tag links writes old new
  with_links made leaves = λ slot b h. ⊎_elim (λ was. inl was) (λ is. inr (is, made)) (leaves.during old.disk.time slot b (omega arith) h)

  pub in_order : (r : Result (Unit {0}) WriteFault) → WritesRoot tag links writes r old new → LeavesInOrder tag links writes old new
  in_order (Ok done) is = with_links is.0 is.1.leaves
  in_order (Err (Links fault)) is = λ slot b h. inl (sym (ap (λ (s : DiskState). s.since old.disk.time slot b) is.1) ∙ h)
  in_order (Err (Files fault)) is = with_links is.0 is.1.leaves
