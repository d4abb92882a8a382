use Rattle.std.proofs.Common.{◌≡◌, Some, None, sym, ap, subst, ◌∙◌, rules}
use Rattle.mtree_manifest.proofs.Singles.{alone_of, good, read}
use Rattle.mtree_manifest.specs.Good.{IsGood}
use Rattle.manifest_words.specs.Keys.{no_values}
use Rattle.mtree_manifest.specs.Lining.{line_in}
use Rattle.manifest_words.specs.Lines.{words_of}
use Rattle.mtree_manifest.specs.Progress.{Open, started, with_word}
use Rattle.mtree_manifest.specs.Single.{path_word, words_alone}
use Rattle.std.specs.List.{fold}
use Rattle.mtree_manifest.proofs.single.read_entry.Goals as goal

pub returns-then-goes_on-clause-bad : goal.returns-then-goes_on-clause-bad
returns-then-goes_on-clause-bad c kind is = search (rules, is)

pub read_path_line-requires : goal.read_path_line-requires
read_path_line-requires c =
    let words : line_in c.add_words.new.line ≡ fold with_word (started 1 no_values) (words_of c.args.line.now) = search (rules) in
    let first : path_word (line_in c.add_words.new.line).first ≡ Some c.in-Some.first.now = search (rules) in
    record {
      good = subst (λ (o : Open). IsGood o.given) (sym words)
          (good (words_of c.args.line.now) c.in-Some.first.now (ap (λ (o : Open). path_word o.first) (sym words) ∙ first));
    }

pub returns-in-Some-clause-entry : goal.returns-in-Some-clause-entry
returns-in-Some-clause-entry c =
    let words : line_in c.add_words.new.line ≡ fold with_word (started 1 no_values) (words_of c.args.line.now) = search (rules) in
    let first : path_word (line_in c.add_words.new.line).first ≡ Some c.in-Some.first.now = search (rules) in
    let all : alone_of (path_word (line_in c.add_words.new.line).first) (line_in c.add_words.new.line).given ≡ words_alone (words_of c.args.line.now) =
    ap (λ (o : Open). alone_of (path_word o.first) o.given) words ∙ read (words_of c.args.line.now) in
    search (rules, first, all)

pub returns-in-Some-clause-bad : goal.returns-in-Some-clause-bad
returns-in-Some-clause-bad c kind is =
    let words : line_in c.add_words.new.line ≡ fold with_word (started 1 no_values) (words_of c.args.line.now) = search (rules) in
    let first : path_word (line_in c.add_words.new.line).first ≡ Some c.in-Some.first.now = search (rules) in
    let all : alone_of (path_word (line_in c.add_words.new.line).first) (line_in c.add_words.new.line).given ≡ words_alone (words_of c.args.line.now) =
    ap (λ (o : Open). alone_of (path_word o.first) o.given) words ∙ read (words_of c.args.line.now) in
    search (rules, first, all, is)

pub returns-in-None-clause-bad : goal.returns-in-None-clause-bad
returns-in-None-clause-bad c kind is =
    let words : line_in c.add_words.new.line ≡ fold with_word (started 1 no_values) (words_of c.args.line.now) = search (rules) in
    let first : path_word (line_in c.add_words.new.line).first ≡ None = search (rules) in
    let all : alone_of (path_word (line_in c.add_words.new.line).first) (line_in c.add_words.new.line).given ≡ words_alone (words_of c.args.line.now) =
    ap (λ (o : Open). alone_of (path_word o.first) o.given) words ∙ read (words_of c.args.line.now) in
    search (rules, first, all, is)
