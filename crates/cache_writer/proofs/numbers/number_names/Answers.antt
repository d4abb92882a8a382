-- One more name in the list of strings, with its index.
use Rattle.std.proofs.Common.{◌+◌, List, ℕ, Bor, [], length, map, ap, arith, take, slice_index_or}
use Rattle.std.proofs.lemmas.List.{length-map, length-take-le}
use Rattle.string_pool.proofs.Numbers.{length_all}
use Rattle.cache_writer.proofs.Adding.{next_name, name_texts, name_numbers, name_among}
use Rattle.cache_writer.proofs.numbers.number_names.Goals as goal

pub add-requires : goal.add-requires
add-requires c =
    let xs = c.as_slice-name-items.result.now in
    let i = c.loop-name.name-index in
    let now : Bor (List ℕ) → List ℕ = λ n. n.now in
    let few = length_all c.args.texts.now (map now (take i xs)) in
    let texts = ap length c.loop-name.invariant.texts in
    let all = ap length c.as_slice-name-items.ensures in
    omega (arith, few, texts, length-map (take i xs) now, length-take-le i xs, length-map xs now, all, c.requires)

pub loop-name-preserved : goal.loop-name-preserved
loop-name-preserved c =
    let xs = c.as_slice-name-items.result.now in
    let i = c.loop-name.name-index in
    let now : Bor (List ℕ) → List ℕ = λ n. n.now in
    let none : Bor (List ℕ) = record { ref_ptr = (0, 0); now = [] } in
    let next = next_name xs i none c.loop-name-test.true in
    let first = map now (take i xs) in
    let more = map now (take (i + 1) xs) in
    let name = (slice_index_or xs i none).now in
    let before = c.loop-name.invariant in
    let add = c.in_ok-add.ensures in
    record {
      texts = name_texts c.args.texts.now c.loop-name.texts c.add.new.self first more name next before.texts add.texts;
      numbers = name_numbers c.loop-name.texts c.add.new.self first more name c.loop-name.numbers.items c.push.new.self.items c.in_ok-add.field-0 next before.among add.texts before.numbers add.number c.in_ok-push.ensures.items;
      among = name_among c.loop-name.texts c.add.new.self first more name next add.texts before.among;
    }
