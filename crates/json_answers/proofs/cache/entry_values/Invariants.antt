use Rattle.std.proofs.Common.{◌≡◌, map, take}
use Rattle.serde_json.specs.View.{view}
use Rattle.cache_reader.specs.Cache.{read}
use Rattle.json_answers.specs.Cached.{entry_data}
use Rattle.json_answers.proofs.cache.entry_values.Given as goal

-- the values so far are those of the entries so far
abbrev pub invariant-loop-index : goal.invariant-loop-index
invariant-loop-index l = map view l.values.items ≡ map entry_data (take l.index (read l.cache))
