-- One step of a walk from link to link.
use Rattle.std.proofs.Common.{◌≡◌, ℕ, zero, suc, ◌+◌, List, Result, Err, refl, arith, ap, ◌∙◌}
use Rattle.image_tree.specs.Tree.{Nodes}
use Rattle.path_walk.specs.Walk.{Stop, Ends, Follows, steps, walk}
use Rattle.path_walk.specs.declared.walk.Mode.{Mode}
use Rattle.path_walk.specs.declared.walk.WalkFault.{WalkFault}
use Rattle.path_walk.specs.declared.walk.WalkFault.TheVariants.{TooManyLinks}

module _ (t : Nodes) (mode : Mode) where
  ended : (links : ℕ) (result : Result (List ℕ) WalkFault) → walk t mode links (Ends result) ≡ result
  ended zero result = refl
  ended (suc links) result = refl

  pub walk_ends : (links : ℕ) (stop : Stop) (result : Result (List ℕ) WalkFault) → stop ≡ Ends result → walk t mode links stop ≡ result
  walk_ends links stop result e = ap (walk t mode links) e ∙ ended links result

  pub walk_follows : (links more : ℕ) (stop : Stop) (names : List (List ℕ)) (place : List ℕ) → links ≡ more + 1 → stop ≡ Follows names place → walk t mode links stop ≡ walk t mode more (steps t mode names place)
  walk_follows links more stop names place e h = let s : links ≡ suc more = omega arith in ap (walk t mode links) h ∙ ap (λ n. walk t mode n (Follows names place)) s

  pub walk_stops : (stop : Stop) (names : List (List ℕ)) (place : List ℕ) → stop ≡ Follows names place → walk t mode 0 stop ≡ Err TooManyLinks
  walk_stops stop names place h = ap (walk t mode 0) h
