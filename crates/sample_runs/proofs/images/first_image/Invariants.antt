use Rattle.std.proofs.Common.{◌≡◌, drop, fold}
use Rattle.sample_runs.specs.Images.{first_image, with_files}
use Rattle.sample_runs.proofs.images.first_image.Given as goal

-- what is left gives the whole image
abbrev pub invariant-loop-file : goal.invariant-loop-file
invariant-loop-file l = fold (with_files l.n) l.image (drop l.file-index l.files) ≡ first_image l.n
