-- The list is that of the strings.
use Rattle.std.proofs.Common.{◌≡◌, ◌+◌, ◌≤◌, ℕ, List, length, map, filter, ap, ◌∙◌, arith}
use Rattle.std.proofs.lemmas.List.{length-map, take_all}
use Rattle.string_pool.specs.InOrder.{table_of}
use Rattle.string_pool.proofs.InOrder.{length_le_table}
use Rattle.string_pool.specs.Laid.{table_to}
use Rattle.string_pool.specs.SharedEnds.{is_written, shared_offset, shared_table}
use Rattle.string_pool.proofs.pool.Pool.seal.Goals as goal

pub hosts-requires-clause-few : goal.hosts-requires-clause-few
hosts-requires-clause-few c =
    let texts = c.as_slice-texts.result.now in
    let same : map (λ text. text.now) texts ≡ c.self.inside.texts = ap (map (λ text. text.now)) c.as_slice-texts.ensures.value ∙ c.self.invariant.0 in
    omega (arith, length-map texts (λ text. text.now), ap length same, length_le_table c.self.inside.texts, ap (λ ts. length (table_of ts)) c.self.view_is, c.requires)

pub invariant_of-result : goal.invariant_of-result
invariant_of-result c =
    let texts = c.as_slice-texts.result.now in
    let ts = c.self.inside.texts in
    let same : map (λ text. text.now) texts ≡ ts = ap (map (λ text. text.now)) c.as_slice-texts.ensures.value ∙ c.self.invariant.0 in
    let long : length ts ≤ length texts = omega (arith, length-map texts (λ text. text.now), ap length same) in
    let all : table_to ts (length texts) ≡ shared_table ts = ap (λ xs. table_of (filter (is_written ts) xs)) (take_all (length texts) ts long) in (
      c.in_ok-offsets.ensures ∙ ap (λ (xs : List (List ℕ)). map (λ text. c.args.base + shared_offset xs text) xs) same,
      c.in_ok-layout.ensures.bytes_are ∙ ap (λ (xs : List (List ℕ)). table_to xs (length texts)) same ∙ all,
    )
