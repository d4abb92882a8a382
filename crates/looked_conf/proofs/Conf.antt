-- What was looked at after the conf files of a directory were read.
use Rattle.std.proofs.Common.{◌≡◌, ℕ, List, [], refl, Option, Some, None}
use Rattle.std.specs.Map.{keys_of}
use Rattle.std.specs.Option.{IsSomeAnd}
use Rattle.conf_views.specs.View.{LooksUp}
use Rattle.image_tree.specs.Tree.{Nodes}
use Rattle.ldso_conf.specs.Looked.{items_listed, items_looked}
use Rattle.ldso_conf.specs.Reading.{ConfFile}
use Rattle.looked_conf.specs.Conf.{IfLooked, LoadsConf}
use Rattle.looked_conf.specs.View.{IsViewOf, tree_of, view_state}
use Rattle.looked_tree.specs.Looked.{Asked, HasLooked, IsLookedOf, Looked, LooksOn}
use Rattle.root_folder.specs.Folder.{FolderContent, FolderState}
use Rattle.seen_tree.specs.Seen.{with_dirs, with_paths}
use Rattle.tree_face.specs.Known.{IfKnown}
use Rattle.tree_face.specs.Store.{Contents}

-- a property of the tree of a view
looked_by_view : (o : Option FolderContent) (x : Looked) (P : Nodes → Type 0) → (IsSomeAnd o (λ c. IsLookedOf c.now x) → P (tree_of o))
    → IfKnown o (λ c. IsLookedOf c.now x → P c.now)
looked_by_view None x P f = tt
looked_by_view (Some c) x P f = f

has_looked : (o : Option FolderContent) (x y : Looked) (paths dirs : Asked) → IfKnown o (λ c. IsLookedOf c.now x → IsLookedOf c.now y)
    → (IsSomeAnd o (λ c. IsLookedOf c.now x)
    → (y.seen.looked ≡ with_paths x.seen.looked (paths (tree_of o))) × (keys_of y.lists ≡ with_dirs (keys_of x.lists) (dirs (tree_of o))))
    → IfKnown o (λ c. IsLookedOf c.now x → HasLooked c.now x y (paths c.now) [] (dirs c.now) [])
has_looked None x y paths dirs known looks = tt
has_looked (Some c) x y paths dirs known looks = λ is. let l = looks is in record { known = known is; looked = l.0; listed = l.1 }

module _ (path : List ℕ) (a b : FolderState) (x y : Looked) (looks : LooksOn a b x y) where
  abbrev LooksFrom : Contents → Type 0
  LooksFrom held =
      LooksUp (items_looked (ConfFile path) held (tree_of a.contents)) (items_listed (ConfFile path) held (tree_of a.contents)) (view_state a x) (view_state b y)

  loaded : (held : Contents) → (IsViewOf a x → LooksFrom held) → LoadsConf (ConfFile path) held a b x y
  loaded held up = record {
    looks = has_looked a.contents x y (λ t. items_looked (ConfFile path) held t) (λ t. items_listed (ConfFile path) held t) looks.known
        (λ is. ((up is).looked refl, (up is).listed refl));
    calls = looks.calls;
    kept = looks.kept;
    reads = looks.reads;
  }

  pub conf_loaded : (known : Option Contents) → (IsViewOf a x → IfKnown known LooksFrom) → IfKnown known (λ held. LoadsConf (ConfFile path) held a b x y)
  conf_loaded None up = tt
  conf_loaded (Some held) up = loaded held up
