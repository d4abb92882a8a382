-- What `looked_places` looks up is enough for the update, except for the sonames.
use Rattle.std.proofs.Common.{◌≡◌, true, List}
use Rattle.aux_cache.specs.Stamps.{AreRecordable}
use Rattle.aux_cache.specs.declared.stamps.Stamp.{Stamp}
use Rattle.file_table.specs.Analyses.{HaveNames}
use Rattle.hwcap_dirs.proofs.Reals.{places_are_dirs}
use Rattle.hwcap_dirs.specs.Places.{are_dirs}
use Rattle.hwcap_dirs.specs.declared.kinds.Scope.{Scope}
use Rattle.image_tree.specs.Tree.{IsTree, Nodes}
use Rattle.library_search.proofs.Named.{info_named, judged_named}
use Rattle.library_search.specs.Judged.{judged}
use Rattle.library_search.specs.Ldconfig.{conf_in, info_wanted, links_in, places_in, wanted_in}
use Rattle.looked_places.proofs.LibraryNames.{libraries_seen, planned_seen}
use Rattle.looked_places.specs.Listed.{libraries_looked}
use Rattle.root_folder.specs.Whole.{IsWhole}
use Rattle.seen_tree.specs.Part.{AreSeen, IsPart}
use Rattle.tree_face.specs.Store.{Contents}
use Rattle.seen_update.proofs.Update.{AreLooked}
use Rattle.seen_update.specs.Looked.{conf_looked, dirs_looked, links_looked}

module _ (scope : Scope) (held : Contents) (t part : Nodes) (loaded : List Stamp) (whole : IsWhole t) (is : IsPart t part) (tree : IsTree part) (recordable : AreRecordable loaded) where
  named : HaveNames (judged scope (info_wanted scope held t loaded))
  unfolding info_wanted
  named = judged_named scope (info_wanted scope held t loaded) (info_named held t loaded recordable (wanted_in scope held t))

  dirs_there : are_dirs t (places_in scope held t) ≡ true
  unfolding places_in
  dirs_there = places_are_dirs scope t (conf_in scope held t).dirs

  links_enough : AreSeen t part (libraries_looked t (places_in scope held t)) → AreSeen t part (links_looked scope held t loaded)
  unfolding links_in
  links_enough all = planned_seen t part whole is tree (judged scope (info_wanted scope held t loaded)) named (places_in scope held t) dirs_there all

  -- The paths of the conf files, of the search directories and of the libraries in them are all that `plan_found` needs.
  pub are_looked : AreSeen t part (conf_looked scope held t) → AreSeen t part (dirs_looked scope held t) → AreSeen t part (libraries_looked t (places_in scope held t))
      → AreLooked scope held t part loaded
  are_looked conf dirs all = record { conf = conf; dirs = dirs; files = (libraries_seen t part (places_in scope held t) all).0; links = links_enough all }
