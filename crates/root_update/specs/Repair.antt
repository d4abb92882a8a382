-- The next update of a directory repairs what an update leaves, whichever of its writing calls fails, and whenever it crashes.
use Rattle.std.specs.Prelude.{◌≡◌, false, Result, Ok, Err}
use Rattle.image_session.specs.Session.{image_with}
use Rattle.partial_links.specs.Left.{Repairs}
use Rattle.partial_links.specs.Resumed.{is_image}
use Rattle.root_update.specs.Loading.{IfAux}
use Rattle.root_update.specs.Made.{RootStates}
use Rattle.root_update.specs.declared.fault.RootFault.{RootFault}
use Rattle.root_update.specs.declared.fault.RootFault.TheVariants as faults
use Rattle.root_update.specs.declared.parts.RootParts.{RootParts}
use Rattle.tree_face.specs.Known.{IfKnown}

-- For each scope without a manifest, if the directory and its files are known: whichever tree is left, its update plans the missing links, and has the same outcome and
-- writes the same as this one.
abbrev pub RepairsRoot : RootParts → RootStates → RootStates → Type 0
RepairsRoot parts old new =
    is_image parts.scope ≡ false → IfKnown old.store.held (λ held. IfKnown old.folder.contents (λ before.
    IfAux parts.aux old.disk.contents (λ aux. Repairs parts.scope held (image_with before.now aux) old.folder new.folder)))

-- a property of a run that has made everything it writes
abbrev pub IfMade : {A : Type 0} → Result A RootFault → Type 0 → Type 0
IfMade (Ok updated) P = P
IfMade (Err (faults.Write fault)) P = P
IfMade (Err (faults.Slot fault)) P = Unit {0}
IfMade (Err (faults.Tree fault)) P = Unit {0}
IfMade (Err (faults.Update fault)) P = Unit {0}
