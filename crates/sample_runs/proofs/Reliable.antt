-- Both images of a sample meet the assumption on identities: a file's inode determines its library, and so its key.
use Rattle.std.proofs.Common.{◌≡◌, ◌<◌, ◌≤◌, ◌+◌, ◌-◌, ◌++◌, ℕ, zero, suc, Bool, true, false, nat_lt, List, [], ◌∷◌, All, fold, Option, Some, None, codes, refl, ap, sym, subst, ◌∙◌, if◌then◌else◌, arith}
use Rattle.std.proofs.lemmas.List.Elements.{All-cons, All-head, All-nil, All-tail}
use Rattle.std.proofs.lemmas.Map.Views.{All-map-remove_entry, All-values-insert_entry, IfSome-lookup_from_All}
use Rattle.std.specs.BTreeMap.{is_at}
use Rattle.std.specs.Fmt.{decimal}
use Rattle.std.specs.Map.{values_of}
use Rattle.std.specs.Option.{is_some, option_and_then}
use Rattle.std.specs.Prelude.{IfSome, ⊤}
use Rattle.hwcap_dirs.specs.declared.kinds.Scope.TheVariants.{Image}
use Rattle.aux_cache.specs.declared.stamps.Stamp.{Stamp}
use Rattle.elf_dynamic.specs.Begun.{key_in}
use Rattle.image_tree.specs.Paths.{path_cmp}
use Rattle.image_tree.specs.Tree.{Nodes, node_at, put, remove}
use Rattle.image_tree.specs.declared.node.Id.{Id}
use Rattle.image_tree.specs.declared.node.Node.{Node}
use Rattle.image_tree.specs.declared.node.Node.TheVariants.{Dir, File, Link}
use Rattle.ldconfig_core.specs.Settled.{planned_image}
use Rattle.image_session.specs.Edit.{without_node}
use Rattle.image_session.specs.Session.{Loaded}
use Rattle.library_search.proofs.Reliable.{none_true, info_law, stamps_true}
use Rattle.library_search.specs.Laws.{IsInfoRight}
use Rattle.library_search.specs.Ldconfig.{links_in, planned_in, stamps_in}
use Rattle.file_stamps.specs.Stamped.{AreSame, AreTrue, content_of, id_at, id_in}
use Rattle.tree_face.specs.Store.{Contents}
use Rattle.sample_runs.specs.declared.files.SampleFile.{SampleFile}
use Rattle.sample_runs.specs.Files.{files_from, has_hwcaps_file, hwcaps_path, is_replaced, key, library_path, next, sample_files}
use Rattle.sample_runs.specs.Images.{empty_image, first_image, node_of, second_image, with_files, with_hwcaps_file, with_library, with_newer, with_replaced}

-- ---- keys by identities

-- the library of a file with this inode: the files for processors have the last inodes
abbrev index_of : ℕ → ℕ → ℕ
index_of n inode = if nat_lt n inode then inode - (n + 1) else inode - 1

abbrev key_of : ℕ → Id → List ℕ
key_of n id = codes "s" ++ decimal (index_of n id.inode)

-- a file that has an identity has the key of that identity
abbrev HasOwnKey : ℕ → Node → Type 0
HasOwnKey n Dir = ⊤
HasOwnKey n (Link target) = ⊤
HasOwnKey n (File key None) = ⊤
HasOwnKey n (File key (Some id)) = key ≡ key_of n id

abbrev HaveOwnKeys : ℕ → Nodes → Type 0
HaveOwnKeys n t = All (HasOwnKey n) (values_of t)

-- ---- trees of such files

module _ (n : ℕ) where
  own_put : (t : Nodes) (path : List ℕ) (node : Node) → HaveOwnKeys n t → HasOwnKey n node → HaveOwnKeys n (put t path node)
  own_put t path node own one = All-values-insert_entry path_cmp path node (HasOwnKey n) t own one

  own_removed : (t : Nodes) (path : List ℕ) → HaveOwnKeys n t → HaveOwnKeys n (remove t path)
  own_removed t path own = All-map-remove_entry (is_at (path_cmp path)) (λ e. e.1) (HasOwnKey n) t own

  own_steps : {A : Type 0} (step : Nodes → A → Nodes) → ((t : Nodes) (a : A) → HaveOwnKeys n t → HaveOwnKeys n (step t a)) → (more : List A) (t : Nodes) → HaveOwnKeys n t
      → HaveOwnKeys n (fold step t more)
  own_steps step keeps [] t own = own
  own_steps step keeps (a ∷ more) t own = own_steps step keeps more (step t a) (keeps t a own)

  -- planned links have no identities
  own_planned : (held : Contents) (t : Nodes) (loaded : List Stamp) → HaveOwnKeys n t → HaveOwnKeys n (planned_in Image held t loaded)
  unfolding planned_in
  own_planned held t loaded own = own_steps _ (λ u planned kept. own_put u planned.path (Link planned.file) kept tt) (links_in Image held t loaded) t own

  -- the content of a file with an identity is that of the identity's key
  content_is : (held : Contents) (t : Nodes) (path : List ℕ) (id : Id) → HaveOwnKeys n t → id_at t path ≡ Some id → content_of held t path ≡ held (key_of n id)
  content_is held t path id own at = by (node_at t path) (IfSome-lookup_from_All (HasOwnKey n) (is_at (path_cmp path)) t own) at
    where
      by : (o : Option Node) → IfSome o (HasOwnKey n) → id_in o ≡ Some id → option_and_then held (key_in o) ≡ held (key_of n id)
      by None own e = absurd (cc)
      by (Some Dir) own e = absurd (cc)
      by (Some (Link target)) own e = absurd (cc)
      by (Some (File key None)) own e = absurd (cc)
      by (Some (File key (Some found))) own e = let same : found ≡ id = cc in ap held own ∙ ap (λ i. held (key_of n i)) same

  -- files of equal identity have equal content
  are_same : (held : Contents) (t u : Nodes) → HaveOwnKeys n t → HaveOwnKeys n u → AreSame held t u
  are_same held t u own other p q there at = by (id_at t p) refl there
    where
      by : (i : Option Id) → id_at t p ≡ i → is_some i ≡ true → content_of held u q ≡ content_of held t p
      by None e some = absurd (cc)
      by (Some id) e some = content_is held u q id other (at ∙ e) ∙ sym (content_is held t p id own e)

-- ---- the libraries

abbrev IsOneOf : ℕ → SampleFile → Type 0
IsOneOf n file = file.index < n

all_below : (n count state index : ℕ) → index + count ≤ n → All (IsOneOf n) (files_from state index count)
all_below n zero state index few = All-nil (IsOneOf n)
all_below n (suc count) state index few = All-cons (IsOneOf n) _ _ (omega (arith, few)) (all_below n count (next (next state)) (index + 1) (omega (arith, few)))

all_are : (n : ℕ) → All (IsOneOf n) (sample_files n)
unfolding sample_files
all_are n = all_below n n n 0 (omega arith)

first_inode : (n index : ℕ) → index < n → index_of n (index + 1) ≡ index
first_inode n index below = search (arith, below)

later_inode : (n index : ℕ) → index_of n (n + index + 1) ≡ index
later_inode n index = search arith

-- ---- the first image

module _ (n : ℕ) where
  own_library : (image : Loaded) (file : SampleFile) (path : List ℕ) (ctime : ℕ) → IsOneOf n file → HaveOwnKeys n image.tree
      → HaveOwnKeys n (put image.tree path (node_of file (file.index + 1) ctime))
  own_library image file path ctime below own =
      own_put n image.tree path (node_of file (file.index + 1) ctime) own (ap (λ index. codes "s" ++ decimal index) (sym (first_inode n file.index below)))

  own_files : (image : Loaded) (file : SampleFile) → IsOneOf n file → HaveOwnKeys n image.tree → HaveOwnKeys n (with_files n image file).tree
  own_files image file below own = by (has_hwcaps_file file)
    where
      first : HaveOwnKeys n (with_library image file).tree
      first = own_library image file (library_path file file.minor) 1 below own

      by : (b : Bool) → HaveOwnKeys n (if b then with_hwcaps_file n (with_library image file) file else with_library image file).tree
      by true = own_put n (with_library image file).tree (hwcaps_path file) (node_of file (n + file.index + 1) 1) first (ap (λ index. codes "s" ++ decimal index) (sym (later_inode n file.index)))
      by false = first

  all_own : (files : List SampleFile) (image : Loaded) → All (IsOneOf n) files → HaveOwnKeys n image.tree → HaveOwnKeys n (fold (with_files n) image files).tree
  all_own [] image all own = own
  all_own (file ∷ files) image all own =
      all_own files (with_files n image file) (All-tail (IsOneOf n) file files all) (own_files image file (All-head (IsOneOf n) file files all) own)

  first_own : HaveOwnKeys n (first_image n).tree
  unfolding first_image
  first_own = all_own (sample_files n) empty_image (all_are n) (All-nil (HasOwnKey n))

  -- ---- the second image

  own_replaced : (image : Loaded) (file : SampleFile) → IsOneOf n file → HaveOwnKeys n image.tree → HaveOwnKeys n (with_replaced image file).tree
  own_replaced image file below own = by (is_replaced file)
    where
      by : (b : Bool) → HaveOwnKeys n (if b then with_newer image file else image).tree
      by true = own_library (without_node image (library_path file file.minor)) file (library_path file (file.minor + 1)) 2 below (own_removed n image.tree (library_path file file.minor) own)
      by false = own

  all_own_replaced : (files : List SampleFile) (image : Loaded) → All (IsOneOf n) files → HaveOwnKeys n image.tree → HaveOwnKeys n (fold with_replaced image files).tree
  all_own_replaced [] image all own = own
  all_own_replaced (file ∷ files) image all own =
      all_own_replaced files (with_replaced image file) (All-tail (IsOneOf n) file files all) (own_replaced image file (All-head (IsOneOf n) file files all) own)

  second_own : (held : Contents) → HaveOwnKeys n (second_image held n).tree
  unfolding second_image
  second_own held = all_own_replaced (sample_files n) (planned_image Image held (first_image n)) (all_are n) (own_planned n held (first_image n).tree (first_image n).stamps first_own)

-- ---- stamps

first_stamps : (n : ℕ) → (first_image n).stamps ≡ []
unfolding first_image
first_stamps n = by (sample_files n) empty_image refl
  where
    one : (image : Loaded) (file : SampleFile) → (with_files n image file).stamps ≡ image.stamps
    one image file = at (has_hwcaps_file file)
      where
        at : (b : Bool) → (if b then with_hwcaps_file n (with_library image file) file else with_library image file).stamps ≡ image.stamps
        at true = refl
        at false = refl

    by : (files : List SampleFile) (image : Loaded) → image.stamps ≡ [] → (fold (with_files n) image files).stamps ≡ []
    by [] image none = none
    by (file ∷ files) image none = by files (with_files n image file) (one image file ∙ none)

second_stamps : (held : Contents) (n : ℕ) → (second_image held n).stamps ≡ stamps_in Image held (first_image n).tree (first_image n).stamps
unfolding second_image
second_stamps held n = by (sample_files n) (planned_image Image held (first_image n))
  where
    one : (image : Loaded) (file : SampleFile) → (with_replaced image file).stamps ≡ image.stamps
    one image file = at (is_replaced file)
      where
        at : (b : Bool) → (if b then with_newer image file else image).stamps ≡ image.stamps
        at true = refl
        at false = refl

    by : (files : List SampleFile) (image : Loaded) → (fold with_replaced image files).stamps ≡ image.stamps
    by [] image = refl
    by (file ∷ files) image = by files (with_replaced image file) ∙ one image file

-- ---- both images

first_true : (held : Contents) (n : ℕ) → AreTrue held (first_image n).tree (first_image n).stamps
first_true held n = subst (λ stamps. AreTrue held (first_image n).tree stamps) (sym (first_stamps n)) (none_true held (first_image n).tree)

first_same : (held : Contents) (n : ℕ) → AreSame held (first_image n).tree (first_image n).tree
first_same held n = are_same n held (first_image n).tree (first_image n).tree (first_own n) (first_own n)

pub first_right : (held : Contents) (n : ℕ) → IsInfoRight Image held (first_image n).tree (first_image n).stamps
first_right held n = info_law Image held (first_image n).tree (first_same held n) (first_image n).stamps (first_true held n)

-- the stamps that the update makes of the first image are true of the second one
pub second_right : (held : Contents) (n : ℕ) → IsInfoRight Image held (second_image held n).tree (second_image held n).stamps
second_right held n =
    let first = first_image n in
    let second = second_image held n in
    let over = are_same n held first.tree second.tree (first_own n) (second_own n held) in
    let are : AreTrue held second.tree second.stamps =
    subst (λ stamps. AreTrue held second.tree stamps) (sym (second_stamps held n)) (stamps_true Image held first.tree (first_same held n) first.stamps (first_true held n) second.tree over) in
    info_law Image held second.tree (are_same n held second.tree second.tree (second_own n held) (second_own n held)) second.stamps are
