use Rattle.std.proofs.Common.{◌≡◌, None, Ok, [], ap, sym, ◌∙◌, rules}
use Rattle.mtree_manifest.proofs.Singles.{entry_made, none_placed, proper}
use Rattle.mtree_manifest.specs.Manifest.{put_by}
use Rattle.manifest_words.specs.Paths.{place}
use Rattle.mtree_manifest.specs.Single.{fault_alone}
use Rattle.manifest_words.specs.Views.{given_in, values_in}
use Rattle.mtree_manifest.proofs.single.read_path_line.Goals as goal

pub returns-in_ok-put_by-in-None-clause-entry : goal.returns-in_ok-put_by-in-None-clause-entry
returns-in_ok-put_by-in-None-clause-entry c =
    let none : fault_alone c.args.first.now (given_in c.args.given.now) ≡ None = search (rules) in
    let placed : c.find_path.new.path.items ≡ place [] c.args.first.now = search (rules, none_placed c.args.first.now (given_in c.args.given.now) none) in
    let made : c.in_ok-put_by-in-None.field-0 ≡ put_by (place [] c.args.first.now) (values_in c.args.given.now.keys) = search (rules, placed) in
    entry_made c.args.first.now (given_in c.args.given.now) none ∙ ap Ok (sym made)

pub returns-in_ok-put_by-in-None-clause-proper : goal.returns-in_ok-put_by-in-None-clause-proper
returns-in_ok-put_by-in-None-clause-proper c =
    let none : fault_alone c.args.first.now (given_in c.args.given.now) ≡ None = search (rules) in
    let placed : c.find_path.new.path.items ≡ place [] c.args.first.now = search (rules, none_placed c.args.first.now (given_in c.args.given.now) none) in
    let made : c.in_ok-put_by-in-None.field-0 ≡ put_by (place [] c.args.first.now) (values_in c.args.given.now.keys) = search (rules, placed) in
    rw (made) (proper c.args.first.now (given_in c.args.given.now) none c.requires.good)
