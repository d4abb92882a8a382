-- The files that the search of a part opens are those that the search of the tree opens.
use Rattle.std.proofs.Common.{◌≡◌, ◌∙◌, ◌≤◌, ◌<◌, ◌⊎◌, ◌+◌, ◌||◌, ◌&&◌, ◌++◌, inl, inr, ℕ, Bool, true, false, not, cond, nat_lt, List, [], ◌∷◌, length, refl, ap, sym, subst, arith, Option, Some, None, Result, Ok, Err}
use Rattle.std.proofs.lemmas.Bool.Decides.{nat_tests}
use Rattle.std.specs.Prelude.{IfErr, IsErrOf, IsSomeAnd}
use Rattle.aux_cache.specs.Stamps.{AreRecordable}
use Rattle.aux_cache.specs.declared.stamps.Stamp.{Stamp}
use Rattle.elf_dynamic.specs.Begun.{LacksOne, ReadsBy, ReadsKeys, is_lacking, key_in, lacks_one, most_of, until_lacking}
use Rattle.std.specs.List.{list_any}
use Rattle.std.specs.Option.{is_none, option_map_or}
use Rattle.hwcap_dirs.specs.Places.{places}
use Rattle.hwcap_dirs.specs.declared.kinds.Scope.{Scope}
use Rattle.image_tree.specs.Tree.{IsTree, Nodes}
use Rattle.image_tree.specs.declared.node.Node.{Node}
use Rattle.image_tree.specs.declared.tree.TheConstants.{NODES_MAX}
use Rattle.ldso_conf.specs.Reading.{IsConfOf, ReadsConf, conf_lacks}
use Rattle.ldso_conf.specs.Visits.{LacksAny, ReadsAny}
use Rattle.ldso_conf.specs.declared.kinds.Conf.{Conf}
use Rattle.library_search.proofs.Endings.{search_failed}
use Rattle.library_search.proofs.KeysBegun.{conf_part, search_all}
use Rattle.library_search.proofs.KnownParts as known_parts
use Rattle.library_search.proofs.FoundParts as parts
use Rattle.library_search.proofs.SearchParts.{all_conf, searched, wanted_keys_are}
use Rattle.library_search.specs.Begun.{after_keys, has_too_many_nodes, lacks_file, lacks_some, lacks_wanted, opened_wanted, search_bytes, search_keys, update_bytes, update_keys, wanted_keys}
use Rattle.library_search.specs.Faults.{find_ending, is_store_fault}
use Rattle.library_search.specs.Found.{IsSearched, ReadsFinding}
use Rattle.library_search.specs.Ldconfig.{conf_of, links_in, planned_in}
use Rattle.library_search.specs.Stages.{opened_planned, planned_by}
use Rattle.library_search.specs.declared.fault.FindFault.{FindFault}
use Rattle.library_search.specs.declared.fault.FindFault.TheVariants as finding
use Rattle.library_search.specs.declared.finding.Found.{Found}
use Rattle.library_search.specs.declared.search.Search.{Search}
use Rattle.link_plan.specs.declared.kinds.Planned.{Planned}
use Rattle.looked_conf.specs.Conf.{IfLooked}
use Rattle.looked_tree.specs.Looked.{IsLookedOf, Looked}
use Rattle.looked_tree.specs.Looked as looking
use Rattle.root_folder.specs.Crash.{HasWholeTree}
use Rattle.root_folder.specs.Folder.{FolderContent, FolderState}
use Rattle.root_folder.specs.Whole.{IsWhole}
use Rattle.seen_conf.proofs.Conf.{conf_lacks_seen}
use Rattle.seen_places.proofs.AfterLinks.{is_after, whole_after}
use Rattle.seen_tree.specs.Part.{AreSeen, IsPart}
use Rattle.seen_tree.specs.Seen.{seen}
use Rattle.seen_update.proofs.Enough.{are_looked}
use Rattle.seen_update.proofs.Found.{conf_in_part, reads_in_part}
use Rattle.seen_update.proofs.StagesRead.{stages_read}
use Rattle.seen_update.proofs.Update.{AreLooked, bytes_are, dirs_there, keys_are, lacking_are, links_are, named, next_keys}
use Rattle.seen_update.specs.Looked.{conf_looked}
use Rattle.soname_links.proofs.Counted.{nodes_counted}
use Rattle.soname_links.specs.Apply.{nodes_with}
use Rattle.soname_links.specs.Plan.{with_links}
use Rattle.tree_face.proofs.Known.{known_then}
use Rattle.tree_face.proofs.StoreUse.{reads_all, reads_as, reads_fewer, reads_then}
use Rattle.tree_face.specs.Known.{IfKnown}
use Rattle.tree_face.specs.Store.{Contents, StoreState}
use Rattle.tree_face.specs.StoreUse.{Ending, Complete, DeviceFailed, GaveUp, ReadsFiles}
use Rattle.looked_search.proofs.Smaller.{any_there, part_smaller}
use Rattle.looked_search.specs.Opened.{Fits, HasNoRoom, HasNoRoomFor, IsSearchFor, OpensConf, OpensFiles, OpensIn, OpensTargets, OpensWanted, ending_by, search_ending}
use Rattle.looked_search.proofs.Added.{none_looked}
use Rattle.looked_search.specs.Faults.{is_of_looking, is_of_seeing, of_look}
use Rattle.looked_search.specs.Tree.{AreThere, SeesTree}
use Rattle.looked_search.specs.declared.fault.SearchFault.{SearchFault}
use Rattle.looked_search.specs.declared.fault.SearchFault.TheVariants as faults
use Rattle.looked_conf.specs.Conf.{look_ending_by}
use Rattle.looked_conf.specs.declared.fault.LookFault.{LookFault}
use Rattle.looked_conf.specs.declared.fault.LookFault.TheVariants as looks
use Rattle.aux_cache.proofs.Back.{not_below}

-- ---- any content that isn't held

some_lacks : (held : Contents) (keys : List (List ℕ)) → lacks_one held keys ≡ true → (key : List ℕ) × (held key ≡ None)
some_lacks held [] h = absurd (cc)
some_lacks held (key ∷ keys) h = by (some_lacks held keys) (held key) refl h
  where
    by : (lacks_one held keys ≡ true → (k : List ℕ) × (held k ≡ None)) → (o : Option (List ℕ)) → held key ≡ o → (is_none o || lacks_one held keys) ≡ true → (k : List ℕ) × (held k ≡ None)
    by later None e h = (key, e)
    by later (Some bytes) e h = later h

any_lacks : (known : Option Contents) (keys : List (List ℕ)) → LacksOne known keys → LacksAny known
any_lacks None keys lacks = lacks
any_lacks (Some held) keys lacks = some_lacks held keys lacks

any_of_keys : (known : Option Contents) (keys : List (List ℕ)) (e : Ending) (b c : StoreState) → ReadsBy known keys e b c → ReadsAny known e b c
any_of_keys known keys e b c reads = reads_fewer _ _ _ _ e b c (any_lacks known keys) reads

any_on : (known : Option Contents) (e : Ending) (a b c : StoreState) → ReadsAny known Complete a b → ReadsAny known e b c → ReadsAny known e a c
any_on known e a b c first next = reads_then e a b c (LacksAny known) (LacksAny known) (LacksAny known) None None None None (λ lacks. lacks) first next

-- ---- a tree and a part of it, for given contents

module _ (scope : Scope) (held : Contents) (t part : Nodes) (loaded : List Stamp) (whole : IsWhole t) (is : IsPart t part) (recordable : AreRecordable loaded) (looked : AreLooked scope held t part loaded) where
  whole_planned : IsWhole (planned_in scope held t loaded)
  unfolding planned_in links_in
  whole_planned = whole_after t part whole is _ (named scope held t part loaded whole is recordable looked) _ (dirs_there scope held t part loaded whole is recordable looked) looked.files

  part_planned : IsPart (planned_in scope held t loaded) (with_links part (links_in scope held t loaded))
  unfolding planned_in links_in
  part_planned = is_after t part whole is _ (named scope held t part loaded whole is recordable looked) _ (dirs_there scope held t part loaded whole is recordable looked) looked.files

  -- the part with the planned links has no more nodes than the tree with them
  pub fewer : nodes_with part (links_in scope held part loaded) ≤ nodes_with t (links_in scope held t loaded)
  unfolding planned_in
  fewer =
      let plan : List Planned = links_in scope held t loaded in
      let here : nodes_with part (links_in scope held part loaded) ≡ nodes_with part plan = ap (nodes_with part) (links_are scope held t part loaded whole is recordable looked) in
      let small : length (with_links part plan) ≤ length (with_links t plan) = part_smaller (planned_in scope held t loaded) (with_links part plan) whole_planned.sorted part_planned in
      let one = nodes_counted plan part is.sorted in
      let two = nodes_counted plan t whole.sorted in
      omega (arith, here, small, one, two)

  few_by : (n m : ℕ) → n ≤ m → nat_lt NODES_MAX m ≡ false → nat_lt NODES_MAX n ≡ false
  few_by n m less few = not_below NODES_MAX n (let most : m ≤ NODES_MAX = grind (arith, nat_tests, few) in omega (arith, less, most))

  pub part_fits : Fits scope held t loaded → Fits scope held part loaded
  part_fits fits = few_by (nodes_with part (links_in scope held part loaded)) (nodes_with t (links_in scope held t loaded)) fewer fits

  module _ (fits : Fits scope held t loaded) where
    lacks_by : Bool → Bool → List (List ℕ) → Bool
    lacks_by lacks many keys = lacks || (not many && lacks_one held keys)

    same_lacks : lacks_file scope held part loaded ≡ lacks_file scope held t loaded
    unfolding lacks_file lacks_by
    same_lacks =
        ap (λ b. lacks_by b (has_too_many_nodes scope held part loaded) (after_keys scope held part loaded)) (lacking_are scope held t part loaded whole is recordable looked)
        ∙ ap (λ b. lacks_by (lacks_wanted scope held t loaded) b (after_keys scope held part loaded)) (part_fits fits ∙ sym fits)
        ∙ ap (lacks_by (lacks_wanted scope held t loaded) (has_too_many_nodes scope held t loaded)) (next_keys scope held t part loaded whole is recordable looked)

    keys_by : List (List ℕ) → Bool → Bool → List (List ℕ) → List (List ℕ)
    keys_by first lacks many keys = first ++ (cond (lacks || many) [] (until_lacking held keys))

    same_keys : update_keys scope held part loaded ≡ update_keys scope held t loaded
    unfolding update_keys keys_by
    same_keys =
        ap (λ l. keys_by l (lacks_wanted scope held part loaded) (has_too_many_nodes scope held part loaded) (after_keys scope held part loaded)) (keys_are scope held t part loaded whole is recordable looked)
        ∙ ap (λ b. keys_by (search_keys scope held t loaded) b (has_too_many_nodes scope held part loaded) (after_keys scope held part loaded)) (lacking_are scope held t part loaded whole is recordable looked)
        ∙ ap (λ b. keys_by (search_keys scope held t loaded) (lacks_wanted scope held t loaded) b (after_keys scope held part loaded)) (part_fits fits ∙ sym fits)
        ∙ ap (keys_by (search_keys scope held t loaded) (lacks_wanted scope held t loaded) (has_too_many_nodes scope held t loaded)) (next_keys scope held t part loaded whole is recordable looked)

    bytes_by : ℕ → Bool → Bool → List (List ℕ) → ℕ
    bytes_by first lacks many keys = first + (cond (lacks || many) 0 (most_of held (until_lacking held keys)))

    same_bytes : update_bytes scope held part loaded ≡ update_bytes scope held t loaded
    unfolding update_bytes bytes_by
    same_bytes =
        ap (λ n. bytes_by n (lacks_wanted scope held part loaded) (has_too_many_nodes scope held part loaded) (after_keys scope held part loaded)) (bytes_are scope held t part loaded whole is recordable looked)
        ∙ ap (λ b. bytes_by (search_bytes scope held t loaded) b (has_too_many_nodes scope held part loaded) (after_keys scope held part loaded)) (lacking_are scope held t part loaded whole is recordable looked)
        ∙ ap (λ b. bytes_by (search_bytes scope held t loaded) (lacks_wanted scope held t loaded) b (after_keys scope held part loaded)) (part_fits fits ∙ sym fits)
        ∙ ap (bytes_by (search_bytes scope held t loaded) (lacks_wanted scope held t loaded) (has_too_many_nodes scope held t loaded)) (next_keys scope held t part loaded whole is recordable looked)

    pub same_files : (e : Ending) (a b : StoreState)
        → ReadsFiles (lacks_file scope held part loaded ≡ true) (Some (update_keys scope held part loaded)) (Some (update_bytes scope held part loaded)) e a b
        → ReadsFiles (lacks_file scope held t loaded ≡ true) (Some (update_keys scope held t loaded)) (Some (update_bytes scope held t loaded)) e a b
    same_files e a b reads =
        subst (λ n. ReadsFiles (lacks_file scope held t loaded ≡ true) (Some (update_keys scope held t loaded)) (Some n) e a b) same_bytes
        (subst (λ l. ReadsFiles (lacks_file scope held t loaded ≡ true) (Some l) (Some (update_bytes scope held part loaded)) e a b) same_keys
        (subst (λ x. ReadsFiles (x ≡ true) (Some (update_keys scope held part loaded)) (Some (update_bytes scope held part loaded)) e a b) same_lacks reads))

  -- a file of the part whose content isn't held is one of the tree
  pub some_there : lacks_some scope held part ≡ true → lacks_some scope held t ≡ true
  unfolding lacks_some
  some_there = either (conf_lacks (conf_of scope) held part) (conf_lacks (conf_of scope) held t) (list_any missing part) (list_any missing t)
      (λ e. sym (conf_lacks_seen t part whole is held (conf_of scope) looked.conf) ∙ e) (any_there missing t part is)
    where
      missing : List ℕ × Node → Bool
      missing entry = option_map_or (is_lacking held) (key_in (Some entry.1)) false

      either : (a b c d : Bool) → (a ≡ true → b ≡ true) → (c ≡ true → d ≡ true) → (a || c) ≡ true → (b || d) ≡ true
      either true b c d f g h = ap (λ x. x || d) (f refl)
      either false true c d f g h = refl
      either false false c d f g h = g h

-- ---- if contents are known

module _ (scope : Scope) (t part : Nodes) (loaded : List Stamp) (whole : IsWhole t) (is : IsPart t part) (tree : IsTree part) (recordable : AreRecordable loaded) where
  looked_at : (held : Contents) → AreThere scope held t part → AreLooked scope held t part loaded
  looked_at held there = are_looked scope held t part loaded whole is tree recordable there.conf there.dirs there.libraries

  any_some : (known : Option Contents) → IfKnown known (λ held. AreThere scope held t part) → IsSomeAnd known (λ held. lacks_some scope held part ≡ true) → IsSomeAnd known (λ held. lacks_some scope held t ≡ true)
  any_some None there lacks = lacks
  any_some (Some held) there lacks = some_there scope held t part loaded whole is recordable (looked_at held there) lacks

  keys_there : (e : Ending) (a d : StoreState) (known : Option Contents) → IfKnown known (λ held. AreThere scope held t part)
      → IfKnown known (λ held. ReadsFiles (lacks_file scope held part loaded ≡ true) (Some (update_keys scope held part loaded)) (Some (update_bytes scope held part loaded)) e a d)
      → IfKnown known (λ held. Fits scope held t loaded → ReadsFiles (lacks_file scope held t loaded ≡ true) (Some (update_keys scope held t loaded)) (Some (update_bytes scope held t loaded)) e a d)
  keys_there e a d None there reads = tt
  keys_there e a d (Some held) there reads = λ fits. same_files scope held t part loaded whole is recordable (looked_at held there) fits e a d reads

  pub opens_in : (e : Ending) (a d : StoreState) → IfKnown a.held (λ held. AreThere scope held t part) → ReadsFinding scope part loaded e a d → OpensIn scope t loaded e a d
  opens_in e a d there reads = record {
    keys = keys_there e a d a.held there reads.keys;
    any = reads_as None None a d _ _ e (any_some a.held there) reads.any;
  }

  -- ---- the stages

  module _ (conf : Conf) (a b : StoreState) (there : IfKnown a.held (λ held. AreThere scope held t part)) (of : IfKnown a.held (λ held. IsConfOf (conf_of scope) conf held t))
      (first : ReadsConf (conf_of scope) t Complete a b) where
    conf_seen : IfKnown a.held (λ held. AreSeen t part (conf_looked scope held t))
    conf_seen = known_then a.held _ _ (λ held (s : AreThere scope held t part). s.conf) there

    conf_read : ReadsConf (conf_of scope) part Complete a b
    conf_read = reads_in_part scope t part whole is Complete a b conf_seen first

    of_part : IfKnown a.held (λ held. IsConfOf (conf_of scope) conf held part)
    of_part = both a.held conf_seen of
      where
        both : (known : Option Contents) → IfKnown known (λ held. AreSeen t part (conf_looked scope held t)) → IfKnown known (λ held. IsConfOf (conf_of scope) conf held t)
            → IfKnown known (λ held. IsConfOf (conf_of scope) conf held part)
        both None seen of = tt
        both (Some held) seen of = conf_in_part scope held t part whole is seen conf of

    -- not all files with library names could be read
    pub opens_wanted : (fault : FindFault) (d : StoreState) → OpensWanted scope loaded conf part fault b d → OpensIn scope t loaded (find_ending {A = Unit {0}} (Err fault)) a d
    opens_wanted fault d fails =
        opens_in (find_ending {A = Unit {0}} (Err fault)) a d there
        (search_failed scope part loaded a d (Unit {0}) (Unit {0}) fault fails.others
        (search_all scope part loaded (find_ending {A = Unit {0}} (Err fault)) a.held (opened_wanted part loaded (places scope part conf.dirs)) a b d (all_conf scope part loaded conf a.held of_part)
        (wanted_keys_are scope part loaded conf a.held of_part) conf_read (subst (λ (k : Option Contents). ReadsBy k (opened_wanted part loaded (places scope part conf.dirs)) (find_ending {A = Unit {0}} (Err fault)) b d) first.held fails.reads)))

    -- they were, and the targets of links were read
    pub opens_targets : (e : Ending) (d : StoreState) → OpensTargets scope loaded conf part e b d → OpensIn scope t loaded e a d
    opens_targets e d o =
        let keys = opened_wanted part loaded (places scope part conf.dirs) in
        let is_search = o.is in
        let next = subst (λ (k : Option Contents). ReadsBy k (opened_planned loaded o.search part) e o.middle d) (o.first.held ∙ first.held) o.next in
        let before = subst (λ (k : Option Contents). ReadsBy k keys Complete b o.middle) first.held o.first in
        let read = subst (λ (k : Option Contents). IsSearchFor scope loaded conf part k o.search) first.held is_search in
        opens_in e a d there
        (stages_read scope part loaded o.search keys a b o.middle d e tree is_search.named is_search.of
        (searched scope part loaded conf a.held o.search of_part is_search.conf_is is_search.places_are is_search.absent_is read.read)
        (wanted_keys_are scope part loaded conf a.held of_part) conf_read before next)

    -- the planned links don't fit into the part
    pub no_room : (nodes : ℕ) → HasNoRoom scope loaded conf part b.held nodes → IfKnown a.held (λ held. nodes ≤ nodes_with t (links_in scope held t loaded))
    no_room nodes none =
        let is_search = subst (λ (k : Option Contents). IsSearchFor scope loaded conf part k none.search) first.held none.is in
        both a.held there (searched scope part loaded conf a.held none.search of_part is_search.conf_is is_search.places_are is_search.absent_is is_search.read)
      where
        both : (known : Option Contents) → IfKnown known (λ held. AreThere scope held t part) → IfKnown known (λ held. IsSearched scope held part loaded none.search)
            → IfKnown known (λ held. nodes ≤ nodes_with t (links_in scope held t loaded))
        both None there s = tt
        both (Some held) there s =
            let size : nodes ≡ nodes_with part (links_in scope held part loaded) = none.nodes_are ∙ ap (nodes_with part) (parts.links_are scope held part loaded none.search s) in
            let less = fewer scope held t part loaded whole is recordable (looked_at held there) in
            omega (arith, size, less)

-- ---- if the directory is known

-- the reading was complete, and then memory ran out or a path couldn't be looked up
pub gave_up : (scope : Scope) (loaded : List Stamp) (folder : FolderState) (a b : StoreState) → OpensFiles scope loaded Complete folder a b → OpensFiles scope loaded GaveUp folder a b
gave_up scope loaded folder a b o = record { known = known_then folder.contents _ _ each o.known; any = reads_all None None a b (LacksAny a.held) o.any }
  where
    each : (c : FolderContent) → OpensIn scope c.now loaded Complete a b → OpensIn scope c.now loaded GaveUp a b
    each c opens = record { keys = known_then a.held _ _ (λ held f fits. reads_all _ _ a b _ (f fits)) opens.keys; any = reads_all None None a b _ opens.any }

-- only conf files could be read
module _ (scope : Scope) (loaded : List Stamp) (t : Nodes) (a b : StoreState) where
  opens : (e : Ending) → ReadsFinding scope t loaded e a b → OpensIn scope t loaded e a b
  opens e reads = record { keys = known_then a.held _ _ (λ held r fits. r) reads.keys; any = reads.any }

  pub conf_only : (fault : FindFault) → is_store_fault fault ≡ true → ReadsConf (conf_of scope) t (find_ending {A = Unit {0}} (Err fault)) a b → OpensIn scope t loaded (find_ending {A = Unit {0}} (Err fault)) a b
  conf_only finding.StoreFault is reads = opens DeviceFailed (search_failed scope t loaded a b (Unit {0}) (Unit {0}) finding.StoreFault refl (conf_part scope t loaded DeviceFailed a.held a b tt reads))
  conf_only finding.NoMemory is reads = opens GaveUp (search_failed scope t loaded a b (Unit {0}) (Unit {0}) finding.NoMemory refl (conf_part scope t loaded GaveUp a.held a b tt reads))
  conf_only (finding.TooLarge nodes) is reads = absurd (cc)

  conf_in_tree : (fault : SearchFault) → is_of_seeing fault ≡ true → ReadsConf (conf_of scope) t (ending_by fault) a b → OpensIn scope t loaded (ending_by fault) a b
  conf_in_tree (faults.Tree why) is reads = conf_only finding.NoMemory refl reads
  conf_in_tree (faults.Find finding.StoreFault) is reads = conf_only finding.StoreFault refl reads
  conf_in_tree (faults.Find finding.NoMemory) is reads = conf_only finding.NoMemory refl reads
  conf_in_tree (faults.Find (finding.TooLarge nodes)) is reads = absurd (cc)

abbrev pub no_looks : Looked
no_looks = looking.looked (seen [] []) []

pub conf_failed : (scope : Scope) (loaded : List Stamp) (folder : FolderState) (fault : SearchFault) (a b : StoreState) → HasWholeTree folder → is_of_seeing fault ≡ true
    → OpensConf scope (ending_by fault) folder no_looks a b → OpensFiles scope loaded (ending_by fault) folder a b
conf_failed scope loaded folder fault a b whole is opens = record { known = by folder.contents whole opens.known; any = opens.any }
  where
    by : (o : Option FolderContent) → IfKnown o (λ c. IsWhole c.now) → IfKnown o (λ c. IsLookedOf c.now no_looks → ReadsConf (conf_of scope) c.now (ending_by fault) a b)
        → IfKnown o (λ c. OpensIn scope c.now loaded (ending_by fault) a b)
    by None w reads = tt
    by (Some c) w reads = conf_in_tree scope loaded c.now a b fault is (reads (none_looked c.now w))

-- the conf files were read, and what the libraries need was looked up
module _ (scope : Scope) (loaded : List Stamp) (recordable : AreRecordable loaded) (conf : Conf) (f g : FolderState) (a b : StoreState) (y : Looked)
    (sees : SeesTree scope conf f g a b no_looks y) (opens : OpensConf scope Complete f no_looks a b) (whole : HasWholeTree f) where
  abbrev part : Nodes
  part = y.seen.part

  -- what is known of the directory
  record Knows (c : FolderContent) : Type 0 where
    w : IsWhole c.now
    is : IsPart c.now part
    there : IfKnown a.held (λ held. AreThere scope held c.now part)
    of : IfKnown a.held (λ held. IsConfOf (conf_of scope) conf held c.now)
    first : ReadsConf (conf_of scope) c.now Complete a b

  knows : (P : FolderContent → Type 0) → ((c : FolderContent) → Knows c → P c) → IfKnown f.contents P
  knows P each = by f.contents whole sees.looks.known sees.seen sees.conf_is opens.known
    where
      by : (o : Option FolderContent) → IfKnown o (λ c. IsWhole c.now) → IfKnown o (λ c. IsLookedOf c.now no_looks → IsLookedOf c.now y)
          → IfKnown o (λ c. IsLookedOf c.now no_looks → IfKnown a.held (λ held. AreThere scope held c.now part))
          → IfKnown o (λ c. IsLookedOf c.now no_looks → IfKnown a.held (λ held. IsConfOf (conf_of scope) conf held c.now))
          → IfKnown o (λ c. IsLookedOf c.now no_looks → ReadsConf (conf_of scope) c.now Complete a b) → IfKnown o P
      by None w known there of first = tt
      by (Some c) w known there of first =
          let none = none_looked c.now w in
          each c (record { w = w; is = (known none).seen.part; there = there none; of = of none; first = first none })

  any_then : (e : Ending) (d : StoreState) → ReadsAny b.held e b d → ReadsAny a.held e a d
  any_then e d next = any_on a.held e a b d opens.any (subst (λ (k : Option Contents). ReadsAny k e b d) opens.any.held next)

  pub targets_opened : (e : Ending) (d : StoreState) → OpensTargets scope loaded conf part e b d → OpensFiles scope loaded e f a d
  targets_opened e d o = record {
    known = knows (λ c. OpensIn scope c.now loaded e a d) (λ c k. opens_targets scope c.now part loaded k.w k.is o.is.tree recordable conf a b k.there k.of k.first e d o);
    any = any_then e d (any_on b.held e b o.middle d (any_of_keys b.held (opened_wanted part loaded (places scope part conf.dirs)) Complete b o.middle o.first)
        (subst (λ (k : Option Contents). ReadsAny k e o.middle d) o.first.held (any_of_keys o.middle.held (opened_planned loaded o.search part) e o.middle d o.next)));
  }

  wanted_opened : (fault : FindFault) (d : StoreState) → OpensWanted scope loaded conf part fault b d → OpensFiles scope loaded (find_ending {A = Unit {0}} (Err fault)) f a d
  wanted_opened fault d o =
      let e = find_ending {A = Unit {0}} (Err fault) in
      record {
        known = knows (λ c. OpensIn scope c.now loaded e a d) (λ c k. opens_wanted scope c.now part loaded k.w k.is o.tree recordable conf a b k.there k.of k.first fault d o);
        any = any_then e d (any_of_keys b.held (opened_wanted part loaded (places scope part conf.dirs)) e b d o.reads);
      }

  pub part_failed : (fault : FindFault) (d : StoreState) → OpensWanted scope loaded conf part fault b d ⊎ OpensTargets scope loaded conf part (find_ending {A = Unit {0}} (Err fault)) b d
      → OpensFiles scope loaded (find_ending {A = Unit {0}} (Err fault)) f a d
  part_failed fault d (inl o) = wanted_opened fault d o
  part_failed fault d (inr o) = targets_opened (find_ending {A = Unit {0}} (Err fault)) d o

  pub none_fits : (nodes : ℕ) → HasNoRoom scope loaded conf part b.held nodes → HasNoRoomFor scope loaded nodes f a
  none_fits nodes none = record {
    many = none.many;
    fewer = knows (λ c. IfKnown a.held (λ held. nodes ≤ nodes_with c.now (links_in scope held c.now loaded)))
        (λ c k. no_room scope c.now part loaded k.w k.is none.is.tree recordable conf a b k.there k.of k.first nodes none);
  }

-- ---- the last stage

looking_ends : (fault : SearchFault) → is_of_looking fault ≡ true → ending_by fault ≡ GaveUp
looking_ends (faults.Tree why) is = refl
looking_ends (faults.Find finding.NoMemory) is = refl
looking_ends (faults.Find finding.StoreFault) is = absurd (cc)
looking_ends (faults.Find (finding.TooLarge nodes)) is = absurd (cc)

pub last_opens : {A : Type 0} (scope : Scope) (loaded : List Stamp) (folder : FolderState) (a b : StoreState) (r : Result A SearchFault) → IfErr r (λ fault. is_of_looking fault ≡ true)
    → OpensFiles scope loaded Complete folder a b → OpensFiles scope loaded (search_ending r) folder a b
last_opens scope loaded folder a b (Ok found) is opens = opens
last_opens scope loaded folder a b (Err fault) is opens = subst (λ e. OpensFiles scope loaded e folder a b) (sym (looking_ends fault is)) (gave_up scope loaded folder a b opens)

-- these errors don't say that the planned links don't fit
pub seeing_fits : (nodes : ℕ) (fault : SearchFault) → is_of_seeing fault ≡ true → fault ≡ faults.Find (finding.TooLarge nodes) → ⊥
seeing_fits nodes fault is e = let z : is_of_seeing (faults.Find (finding.TooLarge nodes)) ≡ true = ap is_of_seeing (sym e) ∙ is in let y : false ≡ true = z in absurd (cc)

looking_fits : (nodes : ℕ) (fault : SearchFault) → is_of_looking fault ≡ true → fault ≡ faults.Find (finding.TooLarge nodes) → ⊥
looking_fits nodes fault is e = let z : is_of_looking (faults.Find (finding.TooLarge nodes)) ≡ true = ap is_of_looking (sym e) ∙ is in let y : false ≡ true = z in absurd (cc)

pub last_fits : {A : Type 0} {P : Type 0} (nodes : ℕ) (r : Result A SearchFault) → IfErr r (λ fault. is_of_looking fault ≡ true) → IsErrOf r (faults.Find (finding.TooLarge nodes)) → P
last_fits nodes (Ok found) is e = absurd (cc)
last_fits nodes (Err fault) is e = let same : fault ≡ faults.Find (finding.TooLarge nodes) = cc in absurd (looking_fits nodes fault is same)

-- ---- the reading of the conf files

look_ends : (fault : LookFault) → look_ending_by fault ≡ ending_by (of_look fault)
look_ends (looks.Tree why) = refl
look_ends looks.StoreFault = refl
look_ends looks.NoMemory = refl

pub of_seeing : (fault : LookFault) → is_of_seeing (of_look fault) ≡ true
of_seeing (looks.Tree why) = refl
of_seeing looks.StoreFault = refl
of_seeing looks.NoMemory = refl

pub conf_ended : (scope : Scope) (folder : FolderState) (l : Looked) (a b : StoreState) (fault : LookFault) → IfLooked folder l (λ t. ReadsConf (conf_of scope) t (look_ending_by fault) a b)
    → ReadsAny a.held (look_ending_by fault) a b → OpensConf scope (ending_by (of_look fault)) folder l a b
conf_ended scope folder l a b fault known any =
    subst (λ e. OpensConf scope e folder l a b) (look_ends fault) (record { known = known; any = any })

-- all conf files were read, and then a path couldn't be looked up
pub conf_then : (scope : Scope) (folder : FolderState) (l : Looked) (a b : StoreState) → IfLooked folder l (λ t. ReadsConf (conf_of scope) t Complete a b) → ReadsAny a.held Complete a b
    → OpensConf scope GaveUp folder l a b
conf_then scope folder l a b known any = record {
  known = known_then folder.contents _ _ (λ c f is. reads_all _ _ a b _ (f is)) known;
  any = reads_all None None a b (LacksAny a.held) any;
}
