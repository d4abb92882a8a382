use Rattle.std.proofs.Common.{◌≡◌, map, take}
use Rattle.std.specs.List.{All}
use Rattle.aux_cache.specs.AuxText.{strings}
use Rattle.aux_cache.specs.Numbers.{HasNumber}
use Rattle.aux_cache.proofs.numbers.number_stamps.Given as goal

-- the stamps so far, with the indexes of their sonames
abbrev pub invariant-loop-stamp : goal.invariant-loop-stamp
invariant-loop-stamp l = record {
  texts : l.texts ≡ strings (take l.stamp-index l.stamps);
  stamps : map (λ s. s.stamp.now) l.numbered.items ≡ take l.stamp-index l.stamps;
  numbers : All (HasNumber l.texts) l.numbered.items;
}
