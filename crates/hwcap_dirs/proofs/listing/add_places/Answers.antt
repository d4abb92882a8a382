use Rattle.std.proofs.Common.{append_assoc, refl}
use Rattle.hwcap_dirs.proofs.listing.add_places.Goals as goal

pub returns : goal.returns
returns c = rw (c.in_ok-add_below.ensures, c.in_ok-push.ensures.done, c.as_bytes.ensures, c.in_ok-below.ensures, c.in_ok-spelled.ensures, append_assoc) refl
