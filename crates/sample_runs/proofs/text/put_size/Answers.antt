use Rattle.std.proofs.Common.{◌≡◌, ℕ, List, OnOk, append_assoc, codes, subst}
use Rattle.std.specs.Fmt.{decimal}
use Rattle.sample_runs.specs.Text.{size_text}
use Rattle.sample_runs.proofs.text.put_size.Goals as goal

pub returns : goal.returns
unfolding size_text
returns c = subst (λ (l : List ℕ). OnOk c.put_number.result (c.put_number.new.out.items ≡ l)) (append_assoc c.args.out.now.items (codes " files opened, ") (decimal c.args.size)) c.put_number.ensures
