use Rattle.std.proofs.Common.{◌≡◌, ℕ, List}
use Rattle.std.specs.List.{zip}
use Rattle.std.specs.Map.{lookup}
use Rattle.std.specs.Option.{option_or}
use Rattle.std.specs.Str.{bytes_eq}
use Rattle.search_listing.specs.FirstNamed.{found}
use Rattle.search_listing.specs.Listing.{origin_of}
use Rattle.search_listing.proofs.named.Named.of.Given as goal

-- a directory is named by the lines so far, or by the remaining lines
abbrev pub invariant-loop-dir : goal.invariant-loop-dir
invariant-loop-dir l = (name : List ℕ) → option_or (found l.first.entries name) (lookup (bytes_eq name) (zip l.dir-iterator.a.rest.now l.dir-iterator.b.rest.now)) ≡ origin_of l.conf name
