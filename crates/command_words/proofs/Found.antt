-- What `clap` found, as rows.
use Rattle.std.proofs.Common.{◌≡◌, ℕ, List, option_map}
use Rattle.clap.proofs.WalkLemmas.{first_value-rows, raw_values-rows}
use Rattle.clap.specs.Words.{all_of, first_of, first_value, matched_of, raw_values, rows_of}
use Rattle.clap.specs.declared.parser.matches.Found.{Found}

pub first_is : (found : Found) (id : List ℕ) → first_value found id ≡ first_of id (rows_of found)
first_is = first_value-rows

pub all_are : (found : Found) (id : List ℕ) → option_map raw_values (matched_of found id) ≡ all_of id (rows_of found)
all_are = raw_values-rows
