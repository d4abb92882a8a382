use Rattle.std.proofs.Common.{◌≡◌, drop, fold}
use Rattle.sample_runs.specs.Images.{all_replaced, with_replaced}
use Rattle.sample_runs.proofs.images.replace_all.Given as goal

-- what is left gives the whole image
abbrev pub invariant-loop-file : goal.invariant-loop-file
invariant-loop-file l = fold with_replaced l.image (drop l.file-index l.files) ≡ all_replaced l.n l.fn.image
