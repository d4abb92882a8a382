-- The number of steps of a binary search.
use Rattle.std.proofs.Common.{◌≡◌, ◌<◌, ◌≤◌, ℕ, zero, suc, ◌+◌, ◌-◌, ◌/◌, ◌^◌, refl, subst, arith}
use Rattle.std.proofs.Math.Nat.{pow-suc}
use Rattle.tree_face.proofs.StoreUse.{raised-add, raised-mono}
use Rattle.lib_types.specs.Counts.{raised}
use Rattle.cache_lookup.specs.Searches.{Halves}

-- One more step, after which at most half of the entries are left.
pub halved : (k old count new width narrower : ℕ) → Halves k old count width → 0 < width → narrower ≤ width / 2 → new ≡ raised count 1 → Halves k old new narrower
halved k old count new width narrower h some half step = by h.left refl
  where
    by : (left : ℕ) → h.left ≡ left → Halves k old new narrower
    by zero e = absurd (let enough : width < 2 ^ 0 = subst (λ n. width < 2 ^ n) e h.enough in omega (arith, enough))
    by (suc left) e =
        let within : suc left ≤ k = subst (λ n. n ≤ k) e h.within in
        let enough : width < 2 ^ suc left = subst (λ n. width < 2 ^ n) e h.enough in
        let twice = pow-suc 2 left in
        let steps : count ≤ raised old (k - suc left) = subst (λ n. count ≤ raised old (k - n)) e h.steps in
        record {
          left = left;
          within = omega arith;
          enough = omega (arith, enough, twice, half);
          steps = raised-mono old new (k - suc left + 1) (k - left) (omega arith) (raised-add old count new (k - suc left) 1 steps (omega (arith, step)));
        }
