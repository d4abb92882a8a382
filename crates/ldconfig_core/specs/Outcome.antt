-- The outcome of an update of a loaded image, for given contents.
use Rattle.std.specs.Prelude.{ℕ, Bool, true, false, List, [], ◌∷◌, nat_lt, if◌then◌else◌, length, Option, Some, None}
use Rattle.hwcap_dirs.specs.declared.kinds.Scope.{Scope}
use Rattle.hwcap_dirs.specs.declared.kinds.Scope.TheVariants.{Image, Only, Root}
use Rattle.cache_layout.specs.declared.limits.TheConstants.{ENTRIES_MAX}
use Rattle.elf_dynamic.specs.Begun.{lacks_one}
use Rattle.ldso_conf.specs.Reading.{conf_lacks}
use Rattle.mtree_manifest.specs.Canon.{canon}
use Rattle.mtree_manifest.specs.declared.fault.TheConstants.{MANIFEST_MAX}
use Rattle.soname_links.specs.Apply.{nodes_with}
use Rattle.link_plan.specs.declared.kinds.Planned.{Planned}
use Rattle.tree_face.specs.Store.{Contents}
use Rattle.image_tree.specs.Tree.{Nodes}
use Rattle.image_session.specs.Session.{Loaded}
use Rattle.library_search.specs.Begun.{after_keys, has_too_many_nodes, wanted_keys}
use Rattle.library_search.specs.Ldconfig.{conf_of, entries_in, links_in, planned_in}

pub data Outcome : Type 0 where
  -- the content of a conf file or of a library file that must be opened isn't held
  Lacking : Outcome
  -- the tree with the planned links has too many nodes, or its manifest has too many bytes
  TooLarge : ℕ → ℕ → Outcome
  -- there are too many cache entries
  TooMany : ℕ → Outcome
  -- the caches are written, and before them the image's manifest if the image was edited or links are planned
  Writes : Outcome

-- The manifest that is written for the tree with these links, if the tree was edited or there are links. In a directory there is none.
abbrev pub manifest_with : Scope → Bool → Nodes → List Planned → Option (List ℕ)
manifest_with (Root conf) edited t plan = None
manifest_with (Only dirs) edited t plan = None
manifest_with Image true t plan = Some (canon t)
manifest_with Image false t [] = None
manifest_with Image false t (planned ∷ plan) = Some (canon t)

unfoldable pub new_manifest : Scope → Contents → Loaded → Option (List ℕ)
new_manifest scope held s = manifest_with scope s.edited (planned_in scope held s.tree s.stamps) (links_in scope held s.tree s.stamps)

abbrev pub is_too_long : Option (List ℕ) → Bool
is_too_long None = false
is_too_long (Some text) = nat_lt MANIFEST_MAX (length text)

abbrev pub size_of : Option (List ℕ) → ℕ
size_of None = 0
size_of (Some text) = length text

-- a condition, and the outcome if the condition holds; then no cache is written
abbrev pub Refusal : Type 0
Refusal = Bool × Outcome

abbrev pub refusals : Scope → Contents → Loaded → List Refusal
refusals scope held s =
    (conf_lacks (conf_of scope) held s.tree, Lacking)
    ∷ (lacks_one held (wanted_keys scope held s.tree s.stamps), Lacking)
    ∷ (has_too_many_nodes scope held s.tree s.stamps, TooLarge (nodes_with s.tree (links_in scope held s.tree s.stamps)) 0)
    ∷ (lacks_one held (after_keys scope held s.tree s.stamps), Lacking)
    ∷ (is_too_long (new_manifest scope held s), TooLarge (length (planned_in scope held s.tree s.stamps)) (size_of (new_manifest scope held s)))
    ∷ (nat_lt ENTRIES_MAX (length (entries_in scope held s.tree s.stamps)), TooMany (length (entries_in scope held s.tree s.stamps)))
    ∷ []

-- the outcome of the first condition that holds
abbrev pub first_refusal : List Refusal → Outcome
first_refusal [] = Writes
first_refusal (refusal ∷ rest) = if refusal.0 then refusal.1 else first_refusal rest

unfoldable pub update_outcome : Scope → Contents → Loaded → Outcome
update_outcome scope held s = first_refusal (refusals scope held s)
