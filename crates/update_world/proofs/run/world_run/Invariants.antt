use Rattle.std.proofs.Common.{◌≡◌, ◌++◌, drop, take}
use Rattle.update_world.specs.Turns.{readings_after}
use Rattle.update_world.specs.Worlds.{HasTaken, IsAfterTurns}
use Rattle.update_world.proofs.run.world_run.Given as goal

-- the readings so far and those of the remaining turns are all readings
abbrev pub invariant-loop-turn : goal.invariant-loop-turn
invariant-loop-turn l =
    record {
      taken : HasTaken (take l.turn-index l.schedule) l.fn.world l.world;
      after_turns : IsAfterTurns l.world;
      rest : l.readings ++ readings_after l.world.first l.world.posts l.world.turns (drop l.turn-index l.schedule) ≡ readings_after l.fn.world.first l.fn.world.posts l.fn.world.turns l.schedule;
    }
