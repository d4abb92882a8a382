-- The outcome of an update, condition by condition.
use Rattle.std.proofs.Common.{◌≡◌, ◌||◌, ◌&&◌, ℕ, Bool, true, false, not, cond, nat_lt, length, refl}
use Rattle.hwcap_dirs.specs.declared.kinds.Scope.{Scope}
use Rattle.cache_layout.specs.declared.limits.TheConstants.{ENTRIES_MAX}
use Rattle.elf_dynamic.specs.Begun.{lacks_one}
use Rattle.ldso_conf.specs.Reading.{conf_lacks}
use Rattle.soname_links.specs.Apply.{nodes_with}
use Rattle.tree_face.specs.Store.{Contents}
use Rattle.library_search.specs.Begun.{after_keys, has_too_many_nodes, lacks_file, lacks_wanted, wanted_keys}
use Rattle.library_search.specs.Ldconfig.{conf_of, entries_in, links_in, planned_in}
use Rattle.ldconfig_core.specs.Outcome.{Outcome, Lacking, TooLarge, TooMany, Writes, is_too_long, new_manifest, size_of, update_outcome}
use Rattle.image_session.specs.Session.{Loaded}
use Rattle.lib_types.proofs.Bools.{neither}

-- the content of a file that must be opened isn't held
pub lacking : (scope : Scope) (held : Contents) (s : Loaded) → lacks_file scope held s.tree s.stamps ≡ true → update_outcome scope held s ≡ Lacking
unfolding update_outcome lacks_file
lacking scope held s lacks =
    by (conf_lacks (conf_of scope) held s.tree) (lacks_one held (wanted_keys scope held s.tree s.stamps)) (has_too_many_nodes scope held s.tree s.stamps) (lacks_one held (after_keys scope held s.tree s.stamps)) _ _ lacks
  where
    by : (a b many c : Bool) (nodes rest : Outcome) → ((a || b) || (not many && c)) ≡ true → cond a Lacking (cond b Lacking (cond many nodes (cond c Lacking rest))) ≡ Lacking
    by true b many c nodes rest h = refl
    by false true many c nodes rest h = refl
    by false false false true nodes rest h = refl
    by false false false false nodes rest h = absurd (cc)
    by false false true c nodes rest h = absurd (cc)

-- if an update writes, the contents of all files that it opens are held
pub writes_held : (scope : Scope) (held : Contents) (s : Loaded) → update_outcome scope held s ≡ Writes
    → (lacks_one held (wanted_keys scope held s.tree s.stamps) ≡ false) × (lacks_one held (after_keys scope held s.tree s.stamps) ≡ false)
unfolding update_outcome
writes_held scope held s h =
    by (conf_lacks (conf_of scope) held s.tree) (lacks_one held (wanted_keys scope held s.tree s.stamps)) (has_too_many_nodes scope held s.tree s.stamps) (lacks_one held (after_keys scope held s.tree s.stamps)) _ _ h
  where
    by : (a b many c : Bool) (nodes : ℕ) (rest : Outcome) → cond a Lacking (cond b Lacking (cond many (TooLarge nodes 0) (cond c Lacking rest))) ≡ Writes → (b ≡ false) × (c ≡ false)
    by true b many c nodes rest h = absurd (cc)
    by false true many c nodes rest h = absurd (cc)
    by false false true c nodes rest h = absurd (cc)
    by false false false true nodes rest h = absurd (cc)
    by false false false false nodes rest h = (refl, refl)

-- ---- the contents of the opened files with library names are held

module _ (scope : Scope) (held : Contents) (s : Loaded) (none : lacks_wanted scope held s.tree s.stamps ≡ false) where
  conf_held : conf_lacks (conf_of scope) held s.tree ≡ false
  conf_held = (neither (conf_lacks (conf_of scope) held s.tree) (lacks_one held (wanted_keys scope held s.tree s.stamps)) none).0

  wanted_held : lacks_one held (wanted_keys scope held s.tree s.stamps) ≡ false
  wanted_held = (neither (conf_lacks (conf_of scope) held s.tree) (lacks_one held (wanted_keys scope held s.tree s.stamps)) none).1

  pub too_many_nodes : (nodes : ℕ) → has_too_many_nodes scope held s.tree s.stamps ≡ true → nodes ≡ nodes_with s.tree (links_in scope held s.tree s.stamps) → update_outcome scope held s ≡ TooLarge nodes 0
  unfolding update_outcome
  too_many_nodes nodes many is = rw (conf_held, wanted_held, many, is) refl

  module _ (few : has_too_many_nodes scope held s.tree s.stamps ≡ false) (following : lacks_one held (after_keys scope held s.tree s.stamps) ≡ false) where
    pub too_long : is_too_long (new_manifest scope held s) ≡ true → update_outcome scope held s ≡ TooLarge (length (planned_in scope held s.tree s.stamps)) (size_of (new_manifest scope held s))
    unfolding update_outcome
    too_long long = rw (conf_held, wanted_held, few, following, long) refl

    module _ (short : is_too_long (new_manifest scope held s) ≡ false) where
      pub too_many : nat_lt ENTRIES_MAX (length (entries_in scope held s.tree s.stamps)) ≡ true → update_outcome scope held s ≡ TooMany (length (entries_in scope held s.tree s.stamps))
      unfolding update_outcome
      too_many many = rw (conf_held, wanted_held, few, following, short, many) refl

      pub writes : nat_lt ENTRIES_MAX (length (entries_in scope held s.tree s.stamps)) ≡ false → update_outcome scope held s ≡ Writes
      unfolding update_outcome
      writes fit = rw (conf_held, wanted_held, few, following, short, fit) refl
