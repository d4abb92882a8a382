use Rattle.std.proofs.Common.{◌≡◌, ◌++◌, drop, map}
use Rattle.serde_json.specs.View.{view}
use Rattle.json_answers.specs.Programs.{item_data}
use Rattle.json_answers.proofs.programs.item_values.Given as goal

-- the values so far and those of the items that are left are all values
abbrev pub invariant-loop-item : goal.invariant-loop-item
invariant-loop-item l = map view l.values.items ++ map item_data (drop l.item-index l.items) ≡ map item_data l.items
