-- A link with a library name (ldconfig(8)), its target, and the resolved path of its file, if it resolves to a file.
use Rattle.std.specs.Prelude.{ℕ, List, Option}

pub record FollowedLink : Type 0 where
  pub name : List ℕ
  pub target : List ℕ
  pub file : Option (List ℕ)
