-- Contents that contracts can see. An I/O interface in memory makes its content known; a real one doesn't. Each fact about a content is
-- stated for known content only.
use Rattle.std.specs.Prelude.{◌≡◌, Option, Some, None, IfSome}

-- the fact holds of the content, if the content is known
abbrev pub IfKnown : {A : Type 0} → Option A → (A → Type 0) → Type 0
IfKnown content P = IfSome content P

-- known content stays known and changes by R; unknown content stays unknown
abbrev pub Relates : {A : Type 0} → (A → A → Type 0) → Option A → Option A → Type 0
Relates R None None = Unit {0}
Relates R None (Some b) = ⊥
Relates R (Some a) None = ⊥
Relates R (Some a) (Some b) = R a b

-- nothing changes
abbrev pub IsSame : {A : Type 0} → A → A → Type 0
IsSame a b = b ≡ a
