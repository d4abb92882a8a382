use Rattle.std.proofs.Common.{◌≡◌}
use Rattle.std.specs.List.{list_any, slice_split}
use Rattle.lib_types.specs.Bytes.{is_byte}
use Rattle.device_rules.specs.Paths.{leads_up}
use Rattle.device_rules.proofs.paths.has_up.Given as goal

-- the components that are left decide
abbrev pub invariant-loop-part : goal.invariant-loop-part
invariant-loop-part l = list_any leads_up l.part-iterator ≡ list_any leads_up (slice_split (is_byte 47) l.fn.path)
