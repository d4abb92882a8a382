-- The files that links resolve to and that have no ELF information yet.
use Rattle.std.proofs.Common.{◌≡◌, ◌++◌, ℕ, List, [], ◌∷◌, if◌then◌else◌, refl, ap, sym, ◌∙◌, Option, Some, None}
use Rattle.std.proofs.lemmas.List.Elements.{filter-append}
use Rattle.std.specs.List.{cons_option, filter_map, flat_map}
use Rattle.std.specs.Option.{is_none, option_and_then}
use Rattle.hwcap_dirs.specs.declared.kinds.Place.{Place}
use Rattle.lib_types.proofs.SortedPairs.{by_test}
use Rattle.image_tree.specs.Tree.{Nodes}
use Rattle.string_pool.proofs.EachOnce.{ascending_alike}
use Rattle.string_pool.proofs.InByteOrder.{ascending_left}
use Rattle.file_table.specs.Analyses.{Analyses, unread}
use Rattle.string_pool.specs.Order.{ascending}
use Rattle.library_files.specs.Search.{files_of, followed, reached}
use Rattle.string_pool.specs.Shared.{HaveSame}
use Rattle.library_files.specs.Unread.{unread_file, unread_of}
use Rattle.library_files.specs.Link.{FollowedLink}
use Rattle.library_files.specs.declared.links.FolderLinks.{FolderLinks}

module _ (what : Analyses) where
  one : (file : Option (List ℕ)) (rest : List (List ℕ))
      → cons_option (option_and_then (λ path. if is_none (what path) then Some path else None) file) (unread what rest) ≡ unread what (cons_option file rest)
  one None rest = refl
  one (Some path) rest = by_test (is_none (what path)) (λ e. rw e refl) (λ e. rw e refl)

  in_folder : (links : List FollowedLink) → filter_map (unread_file what) links ≡ unread what (filter_map (λ link. link.file) links)
  in_folder [] = refl
  in_folder (link ∷ links) = ap (cons_option (unread_file what link)) (in_folder links) ∙ one link.file (filter_map (λ link. link.file) links)

  in_folders : (folders : List FolderLinks) → flat_map (unread_of what) folders ≡ unread what (flat_map files_of folders)
  in_folders [] = refl
  in_folders (folder ∷ folders) =
      ap (λ rest. unread_of what folder ++ rest) (in_folders folders)
      ∙ ap (λ first. first ++ unread what (flat_map files_of folders)) (in_folder folder.links)
      ∙ sym (filter-append (λ path. is_none (what path)) (files_of folder) (flat_map files_of folders))

  all_unread : (t : Nodes) (places : List Place) (links : List FolderLinks) → links ≡ followed t places
      → ascending (flat_map (unread_of what) links) ≡ unread what (reached t places)
  unfolding reached
  all_unread t places links e = rw e (ap ascending (in_folders (followed t places)) ∙ ascending_left (λ path. is_none (what path)) (flat_map files_of (followed t places)))

  -- it is enough to go over each directory once
  pub unread_links : (t : Nodes) (places : List Place) (links each : List FolderLinks) → links ≡ followed t places → HaveSame each links
      → ascending (flat_map (unread_of what) each) ≡ unread what (reached t places)
  unread_links t places links each e same = ascending_alike (unread_of what) each links same ∙ all_unread t places links e
