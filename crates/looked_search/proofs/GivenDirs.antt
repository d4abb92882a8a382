-- Directories of the command line need nothing of the directory.
use Rattle.std.proofs.Common.{◌≡◌, ◌≤◌, ◌∙◌, ℕ, List, [], length, ap, arith, refl, Ok, Err, None}
use Rattle.std.specs.List.{All}
use Rattle.image_tree.specs.Tree.{Nodes}
use Rattle.image_tree.specs.declared.path.TheConstants.{PATH_MAX}
use Rattle.ldso_conf.proofs.CommandLine.{given_gave_up, given_keys, given_reads}
use Rattle.ldso_conf.specs.Looked.{items_listed, items_looked}
use Rattle.ldso_conf.specs.Reading.{Given, IsConfOf, ReadsConf}
use Rattle.ldso_conf.specs.declared.kinds.Conf.{Conf}
use Rattle.lib_types.specs.Counts.{raised}
use Rattle.looked_conf.specs.Conf.{LoadsConf, SeesConf}
use Rattle.looked_conf.specs.declared.fault.LookFault.TheVariants as faults
use Rattle.looked_tree.proofs.Loads.{begins, known_all, looks_none}
use Rattle.looked_tree.specs.Looked.{IsLookedOf, Looked}
use Rattle.root_folder.specs.Folder.{FolderState}
use Rattle.tree_face.specs.Known.{IfKnown}
use Rattle.tree_face.specs.Store.{Contents, StoreState}
use Rattle.tree_face.specs.StoreUse.{Complete, Ending, GaveUp, HasCause, ReadsFiles}

module _ (dirs : List (List ℕ)) (f : FolderState) (s : StoreState) (l : Looked) where
  nothing : (held : Contents) → LoadsConf (Given dirs) held f f l l
  unfolding items_looked items_listed
  nothing held = begins (λ t. []) (λ t. []) f l

  none_read : (lacks : Type 0) (e : Ending) → HasCause lacks e s.faults s.faults → ReadsFiles lacks None None e s s
  none_read lacks e cause = record {
    held = refl;
    begins = tt;
    begun = tt;
    begun_before = omega arith;
    taken = tt;
    taken_before = omega arith;
    faults = omega arith;
    cause = cause;
  }

  same_count : (files : ℕ) → files ≡ 0 → s.begun ≡ raised s.begun files
  same_count files e = omega (arith, e)

  pub given_sees : (conf : Conf) → ((held : Contents) (t : Nodes) → IsConfOf (Given dirs) conf held t) → All (λ dir. length dir ≤ PATH_MAX) conf.dirs
      → SeesConf (Given dirs) (Ok conf) f f s s l l
  given_sees conf of short = record {
    conf = known_all f.contents (λ c. IsLookedOf c.now l → IfKnown s.held (λ held. IsConfOf (Given dirs) conf held c.now))
        (λ c is. known_all s.held (λ held. IsConfOf (Given dirs) conf held c.now) (λ held. of held c.now));
    short = short;
    begun = same_count conf.files ((of (λ key. None) []).files ∙ ap length (given_keys dirs (λ key. None) []));
    loads = known_all s.held (λ held. LoadsConf (Given dirs) held f f l l) nothing;
    looks = looks_none f l;
    fails = tt;
    reads = known_all f.contents (λ c. IsLookedOf c.now l → ReadsConf (Given dirs) c.now Complete s s) (λ c is. given_reads dirs c.now s);
    any = none_read _ Complete refl;
  }

  pub given_fails : SeesConf (Given dirs) (Err faults.NoMemory) f f s s l l
  given_fails = record {
    conf = tt;
    short = tt;
    begun = tt;
    loads = tt;
    looks = tt;
    fails = (looks_none f l).reads;
    reads = known_all f.contents (λ c. IsLookedOf c.now l → ReadsConf (Given dirs) c.now GaveUp s s) (λ c is. given_gave_up dirs c.now s);
    any = none_read _ GaveUp refl;
  }
