-- Each item gets its host from the stack.
use Rattle.std.proofs.Common.{◌≡◌, [], length, map, reverse, ◌∙◌, arith, rules, get_or}
use Rattle.std.proofs.lemmas.List.{length-map, length-set}
use Rattle.std.proofs.lemmas.Option.{slice_get-get_or, slice_get_within}
use Rattle.string_pool.specs.declared.backward.Numbered.{Numbered}
use Rattle.string_pool.proofs.Hosted.{all_hosted, hosts_right, stack_right}
use Rattle.string_pool.proofs.hosts.find_hosts.Goals as goal

abbrev no_item : Numbered
no_item = record { text = record { ref_ptr = (0, 0); now = [] }; number = 0 }

pub index_mut-requires : goal.index_mut-requires
index_mut-requires c =
    let ts = map (λ text. text.now) c.args.texts.now in
    let i = c.loop-item.item-index in
    let here = slice_get-get_or c.args.sorted.now i no_item c.loop-item-test.true in
    let x = get_or c.args.sorted.now i no_item in
    let within = slice_get_within ts x.number x.text.now (c.requires.sorted.numbered i x here).is in
    let many = length-map c.args.texts.now (λ text. text.now) in
    omega (arith, within, many, c.loop-item.invariant.0)

pub loop-item-preserved : goal.loop-item-preserved
loop-item-preserved c =
    let ts = map (λ text. text.now) c.args.texts.now in
    let items = c.args.sorted.now in
    let i = c.loop-item.item-index in
    let x = get_or items i no_item in
    let here = slice_get-get_or items i no_item c.loop-item-test.true in
    let stack = reverse c.loop-item.stack.items in
    let many = length-map c.args.texts.now (λ text. text.now) in
    let hosts = c.loop-item.hosts.items in
    let long : length hosts ≡ length ts = omega (arith, many, c.loop-item.invariant.0) in
    let host = c.unwrap_or-host.result in (
      length-set hosts x.number host ∙ c.loop-item.invariant.0,
      stack_right ts items c.requires.different c.requires.sorted i x here stack c.loop-item.invariant.1 c.take_ending_in.result c.take_ending_in.ensures.number host c.unwrap_or-host.ensures
          c.take_ending_in.new.stack.items c.push.new.self.items c.take_ending_in.ensures.left c.in_ok-push.ensures.items,
      hosts_right ts items c.requires.different c.requires.sorted i x here stack c.loop-item.invariant.1 c.take_ending_in.result c.take_ending_in.ensures.number host c.unwrap_or-host.ensures hosts long c.loop-item.invariant.2,
    )

pub returns : goal.returns
returns c =
    let ts = map (λ text. text.now) c.args.texts.now in
    let many = length-map c.args.texts.now (λ text. text.now) in
    all_hosted ts c.args.sorted.now c.requires.different c.requires.sorted c.loop-item.item-index c.loop-item.hosts.items (search rules) (omega (arith, many, c.loop-item.invariant.0)) c.loop-item.invariant.2
