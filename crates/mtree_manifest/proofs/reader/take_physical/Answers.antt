use Rattle.std.proofs.Common.{◌≡◌, sym, subst, true}
use Rattle.mtree_manifest.specs.Good.{IsGoodOpen, are_good}
use Rattle.manifest_words.specs.Lines.{physical_words}
use Rattle.mtree_manifest.specs.Lining.{line_in}
use Rattle.mtree_manifest.specs.Reader.{state_in}
use Rattle.manifest_words.specs.Views.{values_in}
use Rattle.mtree_manifest.proofs.Goods.{words_good, defaults_good}
use Rattle.mtree_manifest.proofs.reader.take_physical.Goals as goal

pub end_line-requires : goal.end_line-requires
end_line-requires c = record { good = subst IsGoodOpen (sym c.in_ok-add_physical.ensures) (words_good (line_in c.args.line.now) (physical_words c.args.physical.now) c.requires.good) }

pub returns-else-not-goes_on-clause-good : goal.returns-else-not-goes_on-clause-good
returns-else-not-goes_on-clause-good c = subst IsGoodOpen (sym c.in_ok-add_physical.ensures) (words_good (line_in c.args.line.now) (physical_words c.args.physical.now) c.requires.good)

pub returns-in_ok-end_line-clause-defaults : goal.returns-in_ok-end_line-clause-defaults
returns-in_ok-end_line-clause-defaults c =
    defaults_good (state_in c.args.reader.now) (state_in c.end_line.new.self) (line_in c.add_physical.new.line) c.in_ok-end_line.ensures c.requires.defaults
    (subst IsGoodOpen (sym c.in_ok-add_physical.ensures) (words_good (line_in c.args.line.now) (physical_words c.args.physical.now) c.requires.good))

pub returns-in_ok-end_line-clause-good : goal.returns-in_ok-end_line-clause-good
returns-in_ok-end_line-clause-good c =
    let defaults : are_good (values_in c.end_line.new.self.defaults) ≡ true =
    defaults_good (state_in c.args.reader.now) (state_in c.end_line.new.self) (line_in c.add_physical.new.line) c.in_ok-end_line.ensures c.requires.defaults
    (subst IsGoodOpen (sym c.in_ok-add_physical.ensures) (words_good (line_in c.args.line.now) (physical_words c.args.physical.now) c.requires.good)) in
    subst IsGoodOpen (sym c.start_line.ensures) defaults
