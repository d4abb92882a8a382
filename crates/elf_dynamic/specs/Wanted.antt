-- The segments that are looked for. Contracts of private functions use these definitions.
use Rattle.std.specs.Prelude.{Bool, ◌&&◌}
use Rattle.elf_headers.specs.declared.kinds.Segment.{Segment}
use Rattle.elf_dynamic.specs.declared.segments.Wanted.{Wanted}
use Rattle.elf_dynamic.specs.declared.segments.Wanted.TheVariants.{DynamicSection, LoadAt}
use Rattle.elf_dynamic.specs.Section.{is_load, is_dynamic, has_address}

abbrev pub is_wanted : Wanted → Segment → Bool
is_wanted DynamicSection s = is_dynamic s
is_wanted (LoadAt address) s = is_load s && has_address address s
