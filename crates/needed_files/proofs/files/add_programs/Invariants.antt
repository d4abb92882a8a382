use Rattle.std.proofs.Common.{◌≡◌, ◌++◌, drop}
use Rattle.std.specs.List.{flat_map}
use Rattle.file_trails.specs.Trail.{trail}
use Rattle.needed_files.specs.Needed.{found_in}
use Rattle.needed_files.proofs.files.add_programs.Given as goal

-- what is there so far, and the trails of the programs that are left
abbrev pub invariant-loop-program : goal.invariant-loop-program
invariant-loop-program l =
    l.met ++ flat_map (trail l.tree) (flat_map (λ p. found_in p.scope) (drop l.program-index l.programs))
    ≡ l.fn.met ++ flat_map (trail l.tree) (flat_map (λ p. found_in p.scope) l.programs)
