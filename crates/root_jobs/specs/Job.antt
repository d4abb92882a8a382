-- What a run with -r or -n is asked to do (ldconfig(8), "OPTIONS").
use Rattle.std.specs.Prelude.{◌≡◌, ◌&&◌, Bool, true, false, not, List, [], ◌∷◌, ℕ, Option, Some, None, is_none}
use Rattle.hwcap_dirs.specs.declared.kinds.Scope.{Scope}
use Rattle.hwcap_dirs.specs.declared.kinds.Scope.TheVariants.{Only, Root}
use Rattle.image_tree.specs.Paths.{root}
use Rattle.root_words.specs.declared.command.RootOptions.{RootOptions}
use Rattle.root_jobs.specs.declared.job.Job.{Job}

-- the search directories: with -n those that are given; a directory of this machine is the root of its tree
abbrev pub scope_of : RootOptions → Bool → Scope
scope_of options is_of_machine = only options.dirs is_of_machine
  where
    only : Option (List (List ℕ)) → Bool → Scope
    only None machine = Root options.conf
    only (Some dirs) true = Only (root ∷ [])
    only (Some dirs) false = Only dirs

-- With -n no cache is built.
pub record IsAskedFor (options : RootOptions) (job : Job) : Type 0 where
  pub scope : job.parts.scope ≡ scope_of options job.target.is_of_machine
  pub links : job.parts.links ≡ not options.no_links
  pub cache : job.parts.cache ≡ (not options.no_cache && is_none options.dirs)
  pub verbose : job.verbose ≡ options.verbose
  pub check : job.is_check ≡ options.check
