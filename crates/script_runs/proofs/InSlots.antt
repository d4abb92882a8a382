-- The session that is loaded is the one in the files.
use Rattle.std.proofs.Common.{Some, ap, sym, ◌∙◌}
use Rattle.ldconfig_core.specs.Repair.{IsImageIn}
use Rattle.image_session.specs.Manifest.{manifest_of}
use Rattle.image_session.specs.Session.{IsLoaded, Loaded, image_with}
use Rattle.tree_face.specs.Disk.{DiskContent}

pub image_is : (a : DiskContent) (s : Loaded) → IsLoaded (Some a) s → IsImageIn a.now s
image_is a s is = record { tree = ap manifest_of is.in_slots.0 ∙ is.reads; is = is.is ∙ ap (image_with s.tree) (sym is.in_slots.1) }
