-- The state of a store in memory that never fails.
use Rattle.std.specs.Prelude.{length, None, Some}
use Rattle.std.specs.Option.{option_map}
use Rattle.tree_face.specs.declared.memory.stores.SureStore.{SureStore}
use Rattle.tree_face.specs.Memory.{held_in, pair_at}
use Rattle.tree_face.specs.Store.{StoreState}

abbrev pub state_of : SureStore → StoreState
state_of s =
    let open_pair = pair_at s.pairs.items s.begun_index in
    record {
      held = Some (held_in s.pairs.items);
      key = option_map (λ pair. pair.0) open_pair;
      content = option_map (λ pair. pair.1) open_pair;
      size = option_map length (option_map (λ pair. pair.1) open_pair);
      faults = 0;
      begun = s.begun;
      keys = None;
      taken = s.taken;
    }
