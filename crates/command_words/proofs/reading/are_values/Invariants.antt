use Rattle.std.proofs.Common.{◌≡◌, drop, map}
use Rattle.std.specs.List.{list_all}
use Rattle.command_words.specs.Values.{is_value}
use Rattle.command_words.proofs.reading.are_values.Given as goal

-- the texts that are left decide
abbrev pub invariant-loop-text : goal.invariant-loop-text
invariant-loop-text l = list_all is_value (map (λ t. t.now) (drop l.text-index l.texts)) ≡ list_all is_value (map (λ t. t.now) l.texts)
