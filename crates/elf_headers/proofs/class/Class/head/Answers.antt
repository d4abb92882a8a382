use Rattle.std.proofs.Common.{◌≡◌, true, false, nat_lt, Some, None, arith, sym}
use Rattle.std.proofs.lemmas.Bool.Decides.{nat_tests}
use Rattle.elf_headers.specs.Layout.{header_length}
use Rattle.elf_headers.specs.Header.{abi_in, is_loadable, has_bad_headers}
use Rattle.elf_headers.proofs.Heads.{class_short, bad_machine, not_shared, bad_headers, good, wide_by}
use Rattle.elf_headers.proofs.class.Class.head.Goals as goal

pub returns-then-size-either-clause-head : goal.returns-then-size-either-clause-head
returns-then-size-either-clause-head g c =
    let bytes = c.args.front.now in
    let h : nat_lt c.args.size (header_length g.row.W) ≡ true = grind (arith, nat_tests) in
    sym (class_short c.requires.identified h)

pub returns-in_default-clause-head : goal.returns-in_default-clause-head
returns-in_default-clause-head g c =
    let bytes = c.args.front.now in
    let long : nat_lt c.args.size (header_length g.row.W) ≡ false = grind (arith, nat_tests) in
    let unknown : abi_in g.row.W bytes ≡ None = cc in
    let e = bad_machine c.requires.identified long unknown in
    cc

pub returns-then-not-is_loadable-clause-head : goal.returns-then-not-is_loadable-clause-head
returns-then-not-is_loadable-clause-head g c =
    let bytes = c.args.front.now in
    let long : nat_lt c.args.size (header_length g.row.W) ≡ false = grind (arith, nat_tests) in
    let known : abi_in g.row.W bytes ≡ Some c.in-Some.abi = cc in
    let other : is_loadable bytes ≡ false = cc in
    let e = not_shared c.in-Some.abi c.requires.identified long known other in
    cc

pub returns-then-has_bad_headers-clause-head : goal.returns-then-has_bad_headers-clause-head
returns-then-has_bad_headers-clause-head g c =
    let bytes = c.args.front.now in
    let long : nat_lt c.args.size (header_length g.row.W) ≡ false = grind (arith, nat_tests) in
    let known : abi_in g.row.W bytes ≡ Some c.in-Some.abi = cc in
    let loadable : is_loadable bytes ≡ true = cc in
    let bad : has_bad_headers g.row.W c.args.size bytes ≡ true = cc in
    sym (bad_headers c.in-Some.abi c.requires.identified long known loadable bad)

pub returns-clause-head : goal.returns-clause-head
returns-clause-head g c =
    let bytes = c.args.front.now in
    let long : nat_lt c.args.size (header_length g.row.W) ≡ false = grind (arith, nat_tests) in
    let known : abi_in g.row.W bytes ≡ Some c.in-Some.abi = cc in
    let loadable : is_loadable bytes ≡ true = cc in
    let fine : has_bad_headers g.row.W c.args.size bytes ≡ false = cc in
    let e = good c.in-Some.abi c.requires.identified long known loadable fine in
    let wide = wide_by _ _ c.requires.identified.width in
    cc
