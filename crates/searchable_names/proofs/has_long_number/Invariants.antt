use Rattle.std.proofs.Common.{◌≡◌, ◌≤◌, drop}
use Rattle.searchable_names.proofs.Numbers.{is_long_from}
use Rattle.searchable_names.specs.Searchable.{has_long_number}
use Rattle.searchable_names.proofs.has_long_number.Given as goal

-- the rest of the name decides, given the digits before it
abbrev pub invariant-loop-byte : goal.invariant-loop-byte
invariant-loop-byte l = record {
  few : l.digits ≤ 9;
  rest : is_long_from l.digits (drop l.byte-index l.name) ≡ has_long_number l.fn.name;
}
