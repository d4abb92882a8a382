use Rattle.std.proofs.Common.{◌==◌, ◌∙◌, sym}
use Rattle.cache_reader.specs.Cache.{is_inside, sections_at}
use Rattle.cache_reader.specs.declared.extension.Section.{Section}
use Rattle.cache_reader.proofs.Finding.{found_passes}
use Rattle.cache_reader.proofs.extension.sections_at.Goals as goal

pub has_bad_offsets-requires-clause-section : goal.has_bad_offsets-requires-clause-section
has_bad_offsets-requires-clause-section c =
    found_passes (is_inside c.args.bytes.now) (λ (s : Section). s.tag == 1) (sections_at c.args.bytes.now c.args.at) c.in-Some.section (sym c.are_inside.ensures ∙ c.if-not-are_inside.false) (sym c.with_tag-names.ensures ∙ c.in-Some.is)
