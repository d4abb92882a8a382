-- Contents that are known, and contents that change twice.
use Rattle.std.proofs.Common.{Option, Some, None}
use Rattle.tree_face.specs.Known.{IfKnown, Relates}

-- if P implies Q for each content, then it does for a content that may be unknown
pub known_then : {A : Type 0} (known : Option A) (P Q : A → Type 0) → ((a : A) → P a → Q a) → IfKnown known P → IfKnown known Q
known_then None P Q f h = tt
known_then (Some a) P Q f h = f a h

module _ {A : Type 0} (R S T : A → A → Type 0) where
  -- one change after another
  pub relates_on : ((a b c : A) → R a b → S b c → T a c) → (a b c : Option A) → Relates R a b → Relates S b c → Relates T a c
  relates_on f None None None first next = tt
  relates_on f None None (Some c) first next = absurd next
  relates_on f None (Some b) c first next = absurd first
  relates_on f (Some a) None c first next = absurd first
  relates_on f (Some a) (Some b) None first next = absurd next
  relates_on f (Some a) (Some b) (Some c) first next = f a b c first next

module _ {A : Type 0} (R S : A → A → Type 0) where
  pub relates_by : ((a b : A) → R a b → S a b) → (a b : Option A) → Relates R a b → Relates S a b
  relates_by f None None given = tt
  relates_by f None (Some b) given = absurd given
  relates_by f (Some a) None given = absurd given
  relates_by f (Some a) (Some b) given = f a b given
