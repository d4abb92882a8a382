use Rattle.std.proofs.Common.{◌≡◌, drop, map}
use Rattle.std.specs.List.{list_any}
use Rattle.root_words.specs.Words.{is_dash}
use Rattle.root_words.proofs.rejection.has_dash.Given as goal

-- the texts that are left decide
abbrev pub invariant-loop-text : goal.invariant-loop-text
invariant-loop-text l = list_any is_dash (map (λ t. t.now) (drop l.text-index l.texts)) ≡ list_any is_dash (map (λ t. t.now) l.texts)
