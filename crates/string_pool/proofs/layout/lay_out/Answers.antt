-- A text is appended if it is its own host.
use Rattle.std.proofs.Common.{◌+◌, ◌++◌, ℕ, List, [], ◌∷◌, Bor, cond, eqb, length, map, ap, ◌∙◌, arith, get_or}
use Rattle.std.proofs.lemmas.List.{length-append}
use Rattle.std.proofs.lemmas.Option.{slice_get-get_or, slice_get-map}
use Rattle.std.specs.Option.{option_map}
use Rattle.string_pool.specs.Texts.{with_nul}
use Rattle.string_pool.proofs.Laying.{ends_more, table_next, table_to_fits}
use Rattle.string_pool.proofs.layout.lay_out.Goals as goal

abbrev no_text : Bor (List ℕ)
no_text = record { ref_ptr = (0, 0); now = [] }

pub overflow_cast-len : goal.overflow_cast-len
overflow_cast-len c =
    let texts = c.args.texts.now in
    let ts = map (λ text. text.now) texts in
    let i = c.loop-text.text-index in
    let t = (get_or texts i no_text).now in
    let there = slice_get-map (λ text. text.now) texts i ∙ ap (option_map (λ text. text.now)) (slice_get-get_or texts i no_text c.loop-text-test.true) in
    let next = table_next ts i t there c.requires.different c.args.hosts.now c.requires.hosts c.len-number.result (omega (arith, c.len-number.ensures, c.loop-text.invariant.0)) in
    let bytes = c.in_ok-put_written.ensures ∙ ap (λ (xs : List ℕ). xs ++ cond (eqb (get_or c.args.hosts.now c.len-number.result 0) c.len-number.result) (with_nul t) []) c.loop-text.invariant.1 ∙ next in
    omega (arith, c.len.ensures, ap length bytes, table_to_fits ts (i + 1), c.requires.few)

pub loop-text-preserved : goal.loop-text-preserved
loop-text-preserved c =
    let texts = c.args.texts.now in
    let ts = map (λ text. text.now) texts in
    let i = c.loop-text.text-index in
    let t = (get_or texts i no_text).now in
    let there = slice_get-map (λ text. text.now) texts i ∙ ap (option_map (λ text. text.now)) (slice_get-get_or texts i no_text c.loop-text-test.true) in
    let next = table_next ts i t there c.requires.different c.args.hosts.now c.requires.hosts c.len-number.result (omega (arith, c.len-number.ensures, c.loop-text.invariant.0)) in
    let bytes = c.in_ok-put_written.ensures ∙ ap (λ (xs : List ℕ). xs ++ cond (eqb (get_or c.args.hosts.now c.len-number.result 0) c.len-number.result) (with_nul t) []) c.loop-text.invariant.1 ∙ next in
    let ends = c.loop-text.ends.items in (
      omega (arith, ap length c.in_ok-push.ensures.items, length-append ends (c.len.result ∷ []), c.loop-text.invariant.0),
      bytes,
      ends_more ts i ends c.push.new.self.items c.len.result c.loop-text.invariant.0 c.loop-text.invariant.2 c.in_ok-push.ensures.items (omega (arith, c.len.ensures, ap length bytes)),
    )
