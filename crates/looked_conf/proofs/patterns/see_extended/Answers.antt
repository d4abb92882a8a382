use Rattle.std.proofs.Common.{◌+◌, drop, flat_map, subst}
use Rattle.std.proofs.lemmas.List.{drop_all}
use Rattle.conf_views.specs.Patterns.{choices_listed, choices_looked}
use Rattle.looked_tree.proofs.Loads.{next_item}
use Rattle.looked_tree.specs.Looked.{LoadsPart}
use Rattle.looked_conf.proofs.Texts.{IsExtending, extending_done, extending_on}
use Rattle.looked_conf.proofs.patterns.see_extended.Goals as goal

pub loop-text-preserved : goal.loop-text-preserved
loop-text-preserved g c =
    let component = c.args.component.now in
    let texts = c.args.texts.now in
    let text = c.as_bytes.result.now in
    let a = g.F.Folder.state c.args.folder.now in
    let b = g.F.Folder.state c.loop-text.folder in
    extending_on component texts a b c.args.looked.now c.loop-text.looked text (drop (c.loop-text.text-index + 1) texts) c.loop-text.more.items c.see_choices.new.texts.items
    (g.F.Folder.state c.see_choices.new.folder) c.see_choices.new.looked
    (subst (λ xs. IsExtending component texts xs c.loop-text.more.items a b c.args.looked.now c.loop-text.looked)
    (next_item texts c.loop-text.text-index c.text-item.result text c.loop-text-test.true c.text-item.is c.as_bytes.ensures) c.loop-text.invariant)
    c.in_ok-see_choices.ensures.loads c.in_ok-see_choices.ensures.texts

pub returns-clause-loads : goal.returns-clause-loads
returns-clause-loads g c =
    let component = c.args.component.now in
    let texts = c.args.texts.now in
    let a = g.F.Folder.state c.args.folder.now in
    let b = g.F.Folder.state c.loop-text.folder in
    subst (λ xs. LoadsPart (λ t. flat_map (choices_looked t component) texts) (λ t. flat_map (choices_looked t component) xs)
    (λ t. flat_map (choices_listed t component) texts) (λ t. flat_map (choices_listed t component) xs) a b c.args.looked.now c.loop-text.looked)
    (drop_all c.loop-text.text-index texts c.loop-text-test.false) c.loop-text.invariant.loads

pub returns-clause-texts : goal.returns-clause-texts
returns-clause-texts g c =
    let texts = c.args.texts.now in
    extending_done c.args.component.now texts (g.F.Folder.state c.args.folder.now) (g.F.Folder.state c.loop-text.folder) c.args.looked.now c.loop-text.looked
    (drop c.loop-text.text-index texts) c.loop-text.more.items (drop_all c.loop-text.text-index texts c.loop-text-test.false) c.loop-text.invariant
