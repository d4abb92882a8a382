use Rattle.std.proofs.Common.{◌∙◌, ◌/◌, ap, arith, Option}
use Rattle.std.proofs.lemmas.Grind.{common_steps}
use Rattle.cache_reader.proofs.Ranges.{no_defect, that_defect}
use Rattle.std.specs.Option.{option_map_or}
use Rattle.cache_reader.specs.declared.extension.Section.{Section}
use Rattle.cache_reader.proofs.Names.{count_of_names}
use Rattle.cache_reader.proofs.Sound.{bad_magic, bad_header, bad_entries, bad_extension, last_part}
use Rattle.cache_reader.proofs.view.check.Goals as goal

pub returns-in_err-check_magic-clause-defect : goal.returns-in_err-check_magic-clause-defect
returns-in_err-check_magic-clause-defect c =
    let found = bad_magic c.args.bytes.now c.in_err-check_magic.field-0.0 (that_defect _ _ c.in_err-check_magic.ensures) in
    grind (arith, common_steps, found)

pub returns-in_err-check_header-clause-defect : goal.returns-in_err-check_header-clause-defect
returns-in_err-check_header-clause-defect c =
    let m = no_defect _ c.in_ok-check_magic.ensures in
    let found = bad_header c.args.bytes.now c.in_err-check_header.field-0.0 m (that_defect _ _ c.in_err-check_header.ensures) in
    grind (arith, common_steps, found)

pub returns-in_err-check_entries-clause-defect : goal.returns-in_err-check_entries-clause-defect
returns-in_err-check_entries-clause-defect c =
    let m = no_defect _ c.in_ok-check_magic.ensures in
    let h = no_defect _ c.in_ok-check_header.ensures in
    let found = bad_entries c.args.bytes.now c.in_err-check_entries.field-0.0 m h (that_defect _ _ c.in_err-check_entries.ensures) in
    grind (arith, common_steps, found)

pub returns-in_err-sections-clause-defect : goal.returns-in_err-sections-clause-defect
returns-in_err-sections-clause-defect c =
    let m = no_defect _ c.in_ok-check_magic.ensures in
    let h = no_defect _ c.in_ok-check_header.ensures in
    let e = no_defect _ c.in_ok-check_entries.ensures in
    let found = bad_extension c.args.bytes.now c.in_err-sections.field-0.0 m h e c.in_err-sections.ensures.defect in
    grind (arith, common_steps, found)

pub check_hwcaps-requires-clause-names : goal.check_hwcaps-requires-clause-names
check_hwcaps-requires-clause-names c = c.name_count.ensures ∙ ap (λ (o : Option Section). option_map_or (λ s. s.size / 4) o 0) c.in_ok-sections.ensures.sections.names ∙ count_of_names c.args.bytes.now

pub returns-in_err-check_hwcaps-clause-defect : goal.returns-in_err-check_hwcaps-clause-defect
returns-in_err-check_hwcaps-clause-defect c =
    let m = no_defect _ c.in_ok-check_magic.ensures in
    let h = no_defect _ c.in_ok-check_header.ensures in
    let e = no_defect _ c.in_ok-check_entries.ensures in
    let found = last_part c.args.bytes.now _ m h e c.in_ok-sections.ensures.accepted (that_defect _ c.in_err-check_hwcaps.field-0.0 c.in_err-check_hwcaps.ensures) in
    grind (arith, common_steps, found)

pub returns-clause-accepted : goal.returns-clause-accepted
returns-clause-accepted c =
    let m = no_defect _ c.in_ok-check_magic.ensures in
    let h = no_defect _ c.in_ok-check_header.ensures in
    let e = no_defect _ c.in_ok-check_entries.ensures in
    last_part c.args.bytes.now _ m h e c.in_ok-sections.ensures.accepted (no_defect _ c.in_ok-check_hwcaps.ensures)
