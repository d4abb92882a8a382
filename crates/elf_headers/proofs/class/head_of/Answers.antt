use Rattle.std.proofs.Common.{◌≡◌, ◌==◌, true, false, nat_lt, arith}
use Rattle.std.proofs.lemmas.Bool.Decides.{nat_tests}
use Rattle.elf_headers.specs.Layout.{encoding}
use Rattle.elf_headers.specs.Header.{has_magic, has_class}
use Rattle.elf_headers.proofs.Heads.{bad_data}
use Rattle.elf_headers.proofs.class.head_of.Goals as goal

pub returns-then-encoding-ne1-clause-head : goal.returns-then-encoding-ne1-clause-head
returns-then-encoding-ne1-clause-head c =
    let bytes = c.args.front.now in
    let magic : has_magic bytes ≡ true = grind arith in
    let long : nat_lt c.args.size 16 ≡ false = grind (arith, nat_tests) in
    let kind : has_class bytes ≡ true = grind arith in
    let other : (encoding bytes == 1) ≡ false = grind (arith, nat_tests) in
    let e = bad_data c.args.size bytes magic long kind other in
    grind (arith, e)
