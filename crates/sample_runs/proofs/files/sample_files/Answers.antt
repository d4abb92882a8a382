use Rattle.std.proofs.Common.{rules, arith, ◌≡◌, ◌≤◌, ◌<◌, ◌+◌, ◌-◌, ◌%◌, ◌++◌, ◌∷◌, [], ℕ, suc}
use Rattle.sample_runs.proofs.Drawn.{all_drawn, one_more}
use Rattle.sample_runs.specs.Files.{drawn, next, sample_files}
use Rattle.sample_runs.proofs.files.sample_files.Goals as goal

pub loop-index-preserved : goal.loop-index-preserved
loop-index-preserved c =
    let state : ℕ = c.loop-index.state in
    let below : c.loop-index.index < c.args.n = search rules in
    let within : c.loop-index.index + 1 ≤ c.args.n = omega (arith, below) in
    let more : c.args.n - c.loop-index.index ≡ suc (c.args.n - (c.loop-index.index + 1)) = omega (arith, below) in
    let second : c.next-second.result ≡ next (next state) = search rules in
    let items : c.push.new.self.items ≡ c.loop-index.files.items ++ record { index = c.loop-index.index; major = drawn (next state) % 20; minor = drawn (next (next state)) % 4 } ∷ [] = search rules in
    (within, rw (items, second) (one_more c.loop-index.files.items _ state c.loop-index.index _ _ more c.loop-index.invariant.1))

pub returns : goal.returns
unfolding sample_files
returns c =
    let below : c.loop-index.index ≤ c.args.n = c.loop-index.invariant.0 in
    let none : c.args.n - c.loop-index.index ≡ 0 = search rules in
    all_drawn c.loop-index.files.items _ c.loop-index.state c.loop-index.index _ none c.loop-index.invariant.1
