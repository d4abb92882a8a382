use Rattle.std.proofs.Common.{rules, ◌≡◌, true, nat_eq}
use Rattle.std.specs.List.{ends_with}
use Rattle.lib_types.specs.Part.{part_of}
use Rattle.library_files.proofs.LinkRows.{end_is}
use Rattle.library_files.proofs.followed.add_target.Goals as goal

pub returns-then-ends_with-clause-part : goal.returns-then-ends_with-clause-part
returns-then-ends_with-clause-part c =
    let ends : ends_with nat_eq (part_of c.args.text.now.items c.args.file) c.args.target.now ≡ true = search rules in
    end_is c.args.text.now.items c.args.target.now c.args.file c.requires ends
