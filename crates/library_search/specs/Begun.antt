-- The files that an update opens, in order, and the largest number of bytes of their contents. These are the conf files, and the library
-- files whose identity has no stamp.
use Rattle.std.specs.Prelude.{◌+◌, ◌++◌, ◌||◌, ◌&&◌, ℕ, Bool, false, List, [], if◌then◌else◌, length, nat_lt, not, Some}
use Rattle.std.specs.List.{list_any}
use Rattle.std.specs.Option.{option_map_or}
use Rattle.aux_cache.specs.declared.stamps.Stamp.{Stamp}
use Rattle.elf_dynamic.specs.Begun.{is_lacking, key_in, lacks_one, most_of, until_lacking}
use Rattle.hwcap_dirs.specs.declared.kinds.Place.{Place}
use Rattle.hwcap_dirs.specs.declared.kinds.Scope.{Scope}
use Rattle.ldso_conf.specs.Reading.{conf_bytes, conf_keys, conf_lacks}
use Rattle.library_files.specs.Search.{wanted}
use Rattle.soname_links.specs.Apply.{nodes_with}
use Rattle.file_stamps.specs.Opened.{ids_at, ids_of, opened_keys}
use Rattle.file_stamps.specs.Stamped.{stamps_at}
use Rattle.image_tree.specs.declared.node.Id.{Id}
use Rattle.image_tree.specs.declared.tree.TheConstants.{NODES_MAX}
use Rattle.tree_face.specs.Store.{Contents}
use Rattle.image_tree.specs.Tree.{Nodes}
use Rattle.library_search.specs.Ldconfig.{after_in, conf_of, links_in, wanted_in}

-- the keys of the files with library names in these search directories that are opened, given the loaded stamps
abbrev pub opened_wanted : Nodes → List Stamp → List Place → List (List ℕ)
opened_wanted t loaded places = opened_keys t (ids_of loaded) (wanted t places)

-- the keys of the files with library names that are opened, given the loaded stamps
unfoldable pub wanted_keys : Scope → Contents → Nodes → List Stamp → List (List ℕ)
wanted_keys scope held t loaded = opened_keys t (ids_of loaded) (wanted_in scope held t)

-- the identities that have stamps after these files were read
unfoldable pub ids_wanted : Scope → Contents → Nodes → List Stamp → List Id
ids_wanted scope held t loaded = ids_of loaded ++ ids_at t (wanted_in scope held t)

-- the stamps after these files were read: the loaded ones and those of the files
unfoldable pub stamps_wanted : Scope → Contents → Nodes → List Stamp → List Stamp
stamps_wanted scope held t loaded = loaded ++ stamps_at held t (wanted_in scope held t)

-- the keys of the link targets that are opened
unfoldable pub after_keys : Scope → Contents → Nodes → List Stamp → List (List ℕ)
after_keys scope held t loaded = opened_keys t (ids_wanted scope held t loaded) (after_in scope held t loaded)

-- the number of opened library files, if all contents are held
abbrev pub opened_in : Scope → Contents → Nodes → List Stamp → ℕ
opened_in scope held t loaded = length (wanted_keys scope held t loaded) + length (after_keys scope held t loaded)

-- The tree with the planned links would have too many nodes.
abbrev pub has_too_many_nodes : Scope → Contents → Nodes → List Stamp → Bool
has_too_many_nodes scope held t loaded = nat_lt NODES_MAX (nodes_with t (links_in scope held t loaded))

-- ---- files whose content isn't held

abbrev pub lacks_wanted : Scope → Contents → Nodes → List Stamp → Bool
lacks_wanted scope held t loaded = conf_lacks (conf_of scope) held t || lacks_one held (wanted_keys scope held t loaded)

-- the content of a file that must be opened isn't held; if the planned tree has too many nodes, no link is followed
unfoldable pub lacks_file : Scope → Contents → Nodes → List Stamp → Bool
lacks_file scope held t loaded = lacks_wanted scope held t loaded || (not (has_too_many_nodes scope held t loaded) && lacks_one held (after_keys scope held t loaded))

-- without assumptions on stamps: the content of a conf file that must be opened, or of any file of the tree, isn't held
unfoldable pub lacks_some : Scope → Contents → Nodes → Bool
lacks_some scope held t = conf_lacks (conf_of scope) held t || list_any (λ entry. option_map_or (is_lacking held) (key_in (Some entry.1)) false) t

-- ---- before links are planned

-- the conf files; if all their contents are held, the opened files with library names up to the first without content
unfoldable pub search_keys : Scope → Contents → Nodes → List Stamp → List (List ℕ)
search_keys scope held t loaded = conf_keys (conf_of scope) held t ++ (if conf_lacks (conf_of scope) held t then [] else until_lacking held (wanted_keys scope held t loaded))

unfoldable pub search_bytes : Scope → Contents → Nodes → List Stamp → ℕ
search_bytes scope held t loaded = conf_bytes (conf_of scope) held t + (if conf_lacks (conf_of scope) held t then 0 else most_of held (until_lacking held (wanted_keys scope held t loaded)))

-- ---- the whole update

-- If a content isn't held or the planned links don't fit, the links aren't followed.
abbrev pub ends_early : Scope → Contents → Nodes → List Stamp → Bool
ends_early scope held t loaded = lacks_wanted scope held t loaded || has_too_many_nodes scope held t loaded

unfoldable pub update_keys : Scope → Contents → Nodes → List Stamp → List (List ℕ)
update_keys scope held t loaded = search_keys scope held t loaded ++ (if ends_early scope held t loaded then [] else until_lacking held (after_keys scope held t loaded))

unfoldable pub update_bytes : Scope → Contents → Nodes → List Stamp → ℕ
update_bytes scope held t loaded = search_bytes scope held t loaded + (if ends_early scope held t loaded then 0 else most_of held (until_lacking held (after_keys scope held t loaded)))
