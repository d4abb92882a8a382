use Rattle.std.proofs.Common.{◌≡◌, map, fold, take, bytes_eq}
use Rattle.indexmap.specs.IndexSet.{insert_key}
use Rattle.string_pool.specs.Texts.{number_of}
use Rattle.cache_writer.specs.Numbers.{AreAmong}
use Rattle.cache_writer.proofs.numbers.number_names.Given as goal

-- the indexes so far
abbrev pub invariant-loop-name : goal.invariant-loop-name
invariant-loop-name l = record {
  texts : l.texts ≡ fold (insert_key bytes_eq) l.fn.texts (map (λ name. name.now) (take l.name-index l.name-items));
  numbers : l.numbers.items ≡ map (number_of l.texts) (map (λ name. name.now) (take l.name-index l.name-items));
  among : AreAmong l.texts (map (λ name. name.now) (take l.name-index l.name-items));
}
