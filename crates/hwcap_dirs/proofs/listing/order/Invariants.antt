use Rattle.std.proofs.Common.{◌≡◌, ◌++◌, [], drop}
use Rattle.std.specs.List.{filter}
use Rattle.std.specs.Option.{is_none}
use Rattle.hwcap_dirs.specs.Gathering.{all_places}
use Rattle.hwcap_dirs.specs.Places.{builtin_dirs, dir_at}
use Rattle.hwcap_dirs.proofs.listing.order.Given as goal

-- the remaining directories give the rest
abbrev pub invariant-loop-dir : goal.invariant-loop-dir
invariant-loop-dir l = record {
  places : all_places l.tree l.gathering.met l.gathering.places (drop l.dir-index l.conf ++ builtin_dirs l.scope) ≡ all_places l.tree [] [] (l.conf ++ builtin_dirs l.scope);
  absent : l.absent ++ filter (λ text. is_none (dir_at l.tree text)) (drop l.dir-index l.conf) ≡ filter (λ text. is_none (dir_at l.tree text)) l.conf;
}
