-- A text has no more lines than bytes.
use Rattle.std.proofs.Common.{◌≤◌, ℕ, List, length, map}
use Rattle.bstr.specs.Text.{lines_of, without_terminator}
use Rattle.bstr.proofs.lemmas.LengthLemmas.{length-lines}

pub few_lines : (text : List ℕ) → length (map without_terminator (lines_of text)) ≤ length text
few_lines text = length-lines text
