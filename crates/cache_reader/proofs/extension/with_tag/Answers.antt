use Rattle.std.proofs.Common.{◌≡◌, ◌==◌, ◌∙◌, ℕ, false, map, find, Some, sym, ap, eq-eqb}
use Rattle.std.proofs.lemmas.Bool.{ne_eqb}
use Rattle.std.specs.List.{range_with_len}
use Rattle.cache_reader.specs.Cache.{section_at}
use Rattle.cache_reader.specs.declared.extension.Section.{Section}
use Rattle.cache_reader.proofs.Finding.{passed_over, found, to_find}
use Rattle.cache_reader.proofs.extension.with_tag.Goals as goal

pub returns-then-section-tag : goal.returns-then-section-tag
returns-then-section-tag c =
    let hit = found (λ (s : Section). s.tag == c.args.tag) (section_at c.args.bytes.now c.args.at) c.loop-index.index c.section_count-count.result c.loop-index-test.true (rw (← c.section_at-section.ensures) (eq-eqb _ _ c.if-section-tag.true)) in
    let all = to_find (λ (s : Section). s.tag == c.args.tag) (section_at c.args.bytes.now c.args.at) c.section_count-count.result in
    ap Some c.section_at-section.ensures
    ∙ sym hit
    ∙ c.loop-index.invariant.1
    ∙ all
    ∙ ap (λ (n : ℕ). find (λ (s : Section). s.tag == c.args.tag) (map (section_at c.args.bytes.now c.args.at) (range_with_len 0 n))) c.section_count-count.ensures.count

pub loop-index-preserved : goal.loop-index-preserved
loop-index-preserved c =
    let other : (c.section_at-section.result.tag == c.args.tag) ≡ false = ne_eqb _ _ c.if-section-tag.false in
    let missed = passed_over (λ (s : Section). s.tag == c.args.tag) (section_at c.args.bytes.now c.args.at) c.loop-index.index c.section_count-count.result c.loop-index-test.true (rw (← c.section_at-section.ensures) other) in
    (c.loop-index.invariant.0, sym missed ∙ c.loop-index.invariant.1)
