-- The sections of the directory, one after another.
use Rattle.std.proofs.Common.{◌≡◌, ◌==◌, true, false, arith}
use Rattle.std.proofs.lemmas.Bool.Decides.{nat_tests}
use Rattle.cache_writer.proofs.Joining.{with_names, without_names}
use Rattle.cache_writer.proofs.writer.put_directory.Goals as goal

pub returns-in_ok-put_section-2 : goal.returns-in_ok-put_section-2
returns-in_ok-put_section-2 c =
    let some : (c.args.names == 0) ≡ false = grind (arith, nat_tests) in
    rw (c.in_ok-put_section-2.ensures, c.in_ok-put_section.ensures, c.in_ok-put_u32-2.ensures, c.in_ok-put_u32.ensures, c.section_count-sections.ensures)
    (with_names c.args.out.now.items c.args.place c.args.names some)

pub returns-else-names-gt0 : goal.returns-else-names-gt0
returns-else-names-gt0 c =
    let none : (c.args.names == 0) ≡ true = grind (arith, nat_tests) in
    rw (c.in_ok-put_section.ensures, c.in_ok-put_u32-2.ensures, c.in_ok-put_u32.ensures, c.section_count-sections.ensures) (without_names c.args.out.now.items c.args.place c.args.names none)
