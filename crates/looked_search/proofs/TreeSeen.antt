-- What was seen when the conf files, the search directories and the libraries were looked up.
use Rattle.std.proofs.Common.{◌≡◌, ◌∙◌, ℕ, List, [], ap, subst, Option, Some, None, Ok}
use Rattle.hwcap_dirs.specs.Places.{places}
use Rattle.hwcap_dirs.specs.declared.kinds.Place.{Place}
use Rattle.hwcap_dirs.specs.declared.kinds.Scope.{Scope}
use Rattle.ldso_conf.specs.Looked.{items_listed, items_looked}
use Rattle.ldso_conf.specs.Reading.{IsConfOf}
use Rattle.ldso_conf.specs.declared.kinds.Conf.{Conf}
use Rattle.library_search.specs.Ldconfig.{conf_in, conf_of, places_in}
use Rattle.looked_conf.specs.Conf.{IfLooked, LoadsConf, SeesConf}
use Rattle.looked_places.specs.Listed.{libraries_listed, libraries_looked, places_listed}
use Rattle.looked_tree.proofs.Loads.{are_now_seen, looks_more, looks_on}
use Rattle.looked_tree.specs.Looked.{HasLooked, IsLookedOf, Loads, Looked}
use Rattle.root_folder.specs.Folder.{FolderContent, FolderState}
use Rattle.seen_places.proofs.Places.{places_seen}
use Rattle.seen_places.specs.Looked.{places_looked}
use Rattle.seen_tree.specs.Part.{AreSeen}
use Rattle.seen_update.proofs.Grown.{still_seen}
use Rattle.seen_update.specs.Looked.{conf_looked}
use Rattle.tree_face.proofs.Known.{known_then}
use Rattle.tree_face.specs.Known.{IfKnown}
use Rattle.tree_face.specs.Store.{Contents, StoreState}
use Rattle.looked_search.specs.Tree.{AreThere, SeesTree}

-- the search directories in a part in which they were looked up
pub dirs_ordered : (scope : Scope) (conf : List (List ℕ)) (ps : List Place) (a b : FolderState) (x y : Looked) → Loads (λ t. places_looked scope t conf) (λ t. places_listed scope t conf) a b x y
    → ps ≡ places scope y.seen.part conf → IfLooked a x (λ t. ps ≡ places scope t conf)
dirs_ordered scope conf ps a b x y loads is = by a.contents loads.looks
  where
    by : (o : Option FolderContent) → IfKnown o (λ c. IsLookedOf c.now x → HasLooked c.now x y (places_looked scope c.now conf) [] (places_listed scope c.now conf) [])
        → IfKnown o (λ c. IsLookedOf c.now x → ps ≡ places scope c.now conf)
    by None looks = tt
    by (Some c) looks = λ known.
        let has = looks known in
        is ∙ places_seen c.now y.seen.part has.known.seen.whole has.known.seen.part scope conf (are_now_seen c.now x y (places_looked scope c.now conf) (places_listed scope c.now conf) has)

module _ (scope : Scope) (conf : Conf) (ps : List Place) (a b c d : FolderState) (start end : StoreState) (x y z w : Looked) (sees : SeesConf (conf_of scope) (Ok conf) a b start end x y)
    (dirs : Loads (λ t. places_looked scope t conf.dirs) (λ t. places_listed scope t conf.dirs) b c y z) (are : IfLooked b y (λ t. ps ≡ places scope t conf.dirs))
    (libraries : Loads (λ t. libraries_looked t ps) (λ t. libraries_listed t ps) c d z w) where
  abbrev HasConf : Contents → FolderContent → Type 0
  HasConf held k = IsLookedOf k.now x → HasLooked k.now x y (items_looked (conf_of scope) held k.now) [] (items_listed (conf_of scope) held k.now) []

  abbrev HasDirs : FolderContent → Type 0
  HasDirs k = IsLookedOf k.now y → HasLooked k.now y z (places_looked scope k.now conf.dirs) [] (places_listed scope k.now conf.dirs) []

  abbrev HasLibraries : FolderContent → Type 0
  HasLibraries k = IsLookedOf k.now z → HasLooked k.now z w (libraries_looked k.now ps) [] (libraries_listed k.now ps) []

  abbrev Are : FolderContent → Type 0
  Are k = IsLookedOf k.now y → ps ≡ places scope k.now conf.dirs

  there : (k : FolderContent) (held : Contents) → IsLookedOf k.now x → IsConfOf (conf_of scope) conf held k.now → HasConf held k → HasDirs k → Are k → HasLibraries k → AreThere scope held k.now w.seen.part
  unfolding conf_in places_in
  there k held known of first next same last =
      let one = first known in
      let two = next one.known in
      let three = last two.known in
      let part = three.known.seen.part in
      record {
        conf = still_seen k.now y.seen.part w.seen.part (λ q n e. libraries.kept q n (dirs.kept q n e)) part (conf_looked scope held k.now)
            (are_now_seen k.now x y (items_looked (conf_of scope) held k.now) (items_listed (conf_of scope) held k.now) one);
        dirs = subst (λ ds. AreSeen k.now w.seen.part (places_looked scope k.now ds)) of.dirs
            (still_seen k.now z.seen.part w.seen.part libraries.kept part (places_looked scope k.now conf.dirs)
            (are_now_seen k.now y z (places_looked scope k.now conf.dirs) (places_listed scope k.now conf.dirs) two));
        libraries = subst (λ (p : List Place). AreSeen k.now w.seen.part (libraries_looked k.now p)) (same one.known ∙ ap (places scope k.now) of.dirs)
            (are_now_seen k.now z w (libraries_looked k.now ps) (libraries_listed k.now ps) three);
      }

  all_there : (o : Option FolderContent) (known : Option Contents) → IfKnown o (λ k. IsLookedOf k.now x → IfKnown known (λ held. IsConfOf (conf_of scope) conf held k.now))
      → IfKnown known (λ held. IfKnown o (HasConf held)) → IfKnown o HasDirs → IfKnown o Are → IfKnown o HasLibraries
      → IfKnown o (λ k. IsLookedOf k.now x → IfKnown known (λ held. AreThere scope held k.now w.seen.part))
  all_there None known of first next same last = tt
  all_there (Some k) None of first next same last = λ is. tt
  all_there (Some k) (Some held) of first next same last = λ is. there k held is (of is) first next same last

  pub tree_seen : SeesTree scope conf a d start end x w
  tree_seen =
      let at_b = sees.looks.reads.keeps.contents in
      let at_c = dirs.reads.keeps.contents ∙ at_b in
      record {
        conf_is = sees.conf;
        short = sees.short;
        seen = all_there a.contents start.held sees.conf (known_then start.held (λ held. LoadsConf (conf_of scope) held a b x y) (λ held. IfKnown a.contents (HasConf held)) (λ held l. l.looks) sees.loads)
            (subst (λ o. IfKnown o HasDirs) at_b dirs.looks) (subst (λ o. IfKnown o Are) at_b are) (subst (λ o. IfKnown o HasLibraries) at_c libraries.looks);
        looks = looks_more a b d x y w sees.looks (looks_more b c d y z w (looks_on (λ t. places_looked scope t conf.dirs) (λ t. places_listed scope t conf.dirs) b c y z dirs)
            (looks_on (λ t. libraries_looked t ps) (λ t. libraries_listed t ps) c d z w libraries));
        reads = sees.reads;
        held = sees.any.held;
      }
