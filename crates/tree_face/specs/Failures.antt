-- Which calls of an I/O interface in memory fail on demand.
use Rattle.std.specs.Prelude.{◌≡◌, ◌==◌, ◌-◌, ◌||◌, ℕ, Bool, false, IsTrue, List, Option, Some, if◌then◌else◌}
use Rattle.std.specs.List.{list_any}
use Rattle.std.specs.Option.{option_map, option_map_or}
use Rattle.lib_types.specs.Counts.{raised}
use Rattle.tree_face.specs.declared.memory.failures.Failures.{Failures}

pub record Plan : Type 0 where
  -- the numbers of the calls that fail
  pub fail : List ℕ
  -- the number of the next call
  pub next : ℕ
  -- the number of further writing calls after which every call fails, if any
  pub left : Option ℕ

abbrev pub plan_of : Failures → Plan
plan_of f = record { fail = f.fail.items; next = f.calls; left = f.stop }

-- the next call must fail
abbrev pub is_due : Plan → Bool
is_due p = option_map_or (λ left. left == 0) p.left false || list_any (λ call. call == p.next) p.fail

-- the plan after a call
abbrev pub after_call : Bool → Plan → Plan
after_call writes p = record {
  fail = p.fail;
  next = raised p.next 1;
  left = if writes then option_map (λ left. left - 1) p.left else p.left;
}

abbrev pub stopping_after : ℕ → Plan → Plan
stopping_after calls p = record p { left = Some calls }

-- a call that must fail fails, and the plan advances by one call
pub record FollowsPlan (writes : Bool) (old new : Plan) (failed : Bool) : Type 0 where
  pub due : IsTrue (is_due old) → IsTrue failed
  pub next : new ≡ after_call writes old
