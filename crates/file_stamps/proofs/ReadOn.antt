-- The step from one read file to the next.
use Rattle.std.proofs.Common.{◌≡◌, ◌≤◌, ◌+◌, ◌++◌, ◌||◌, ℕ, Bool, true, false, cond, List, [], ◌∷◌, length, refl, ap, sym, subst, ◌∙◌, arith, append_assoc, Option, Some, None}
use Rattle.std.proofs.lemmas.List.{append-nil}
use Rattle.std.proofs.lemmas.List.Elements.{filter-append}
use Rattle.std.proofs.lemmas.List.Kept.{IsStrictlySortedBy-filter}
use Rattle.std.proofs.lemmas.Map.Keys.{sorted_tail}
use Rattle.std.proofs.lemmas.Slice.Eq.{bytes_eq-Decides}
use Rattle.std.specs.Cmp.Lexicographic.{slice_cmp}
use Rattle.std.specs.List.Sorted.{IsStrictlySortedBy}
use Rattle.std.specs.Map.{keys_of}
use Rattle.std.specs.Option.{is_none, is_some}
use Rattle.std.specs.Ordering.{nat_cmp}
use Rattle.std.specs.Str.{bytes_eq}
use Rattle.lib_types.proofs.SortedPairs.{by_test}
use Rattle.lib_types.specs.Counts.{raised}
use Rattle.aux_cache.specs.Stamps.{stamp_of}
use Rattle.aux_cache.specs.declared.stamps.Stamp.{Stamp}
use Rattle.elf_dynamic.proofs.BegunKeys.{keys_early, keys_then, none_lacks}
use Rattle.elf_dynamic.specs.Begun.{ReadsBy, file_keys, is_lacking, lacks_one, until_lacking}
use Rattle.string_pool.proofs.Members.{AreSorted}
use Rattle.file_table.specs.Analyses.{AgreeOn, KeepsAnalyses, unread}
use Rattle.file_table.specs.Table.{analysis_at}
use Rattle.image_tree.specs.Tree.{Nodes}
use Rattle.image_tree.specs.declared.node.Id.{Id}
use Rattle.tree_face.proofs.StoreUse.{IsPartial, raised-mono, reads_none}
use Rattle.tree_face.specs.Known.{IfKnown}
use Rattle.tree_face.specs.Store.{Contents, StoreState}
use Rattle.tree_face.specs.StoreUse.{Ending, Complete}
use Rattle.file_stamps.proofs.KeptAnalyses.{not_after, still_read, unread_others}
use Rattle.file_stamps.proofs.Opened.{info_are, info_then, made_are, one_opened, opened_alike, opened_append, opened_are, opened_few, opened_then}
use Rattle.file_stamps.proofs.Opens.{opened_count}
use Rattle.file_stamps.specs.Files.{unread_key}
use Rattle.file_stamps.specs.Opened.{HaveSameIds, has_id, ids_at, opened_keys, opens}
use Rattle.file_stamps.specs.Reading.{HasInfo, HasOpened, HasRead, ReadsOne, is_in, keys_opened, opened_by}
use Rattle.file_stamps.specs.Info.{info_in, info_stamps}
use Rattle.file_stamps.specs.Stamped.{StampTheSame, stamps_at, with_stamps}
use Rattle.file_stamps.specs.State.{ids_there}
use Rattle.file_stamps.specs.declared.files.Files.{Files}

keeps_on : (table now new : List ℕ → Option _) → KeepsAnalyses table now → KeepsAnalyses now new → KeepsAnalyses table new
keeps_on table now new first second q there = second q (ap is_some (first q there) ∙ there) ∙ first q there

-- ---- the largest number of opened files

until_short : (held : Contents) (ks : List (List ℕ)) → length (until_lacking held ks) ≤ length ks
until_short held [] = omega arith
until_short held (key ∷ ks) = by (is_lacking held key) (until_short held ks)
  where
    by : (b : Bool) → length (until_lacking held ks) ≤ length ks → length (key ∷ cond b [] (until_lacking held ks)) ≤ length (key ∷ ks)
    by true less = omega arith
    by false less = omega (arith, less)

most_begun : (known : Option Contents) (ks : List (List ℕ)) (n : ℕ) (e : Ending) (old new : StoreState) → ReadsBy known ks e old new → length ks ≤ n → new.begun ≤ raised old.begun n
most_begun None ks n e old new reads less = raised-mono _ _ _ _ less reads.begun
most_begun (Some held) ks n e old new reads less = let short = until_short held ks in raised-mono _ _ _ _ (omega (arith, short, less)) reads.begun

few_keys : (t : Nodes) (ids : List Id) (paths : List (List ℕ)) → AreSorted paths → length (opened_keys t ids paths) ≤ length (file_keys t paths)
few_keys t ids paths sorted = let few = opened_few t ids paths in let same = ap length (opened_are t ids paths sorted) in omega (arith, few, same)

module _ (t : Nodes) (loaded : List Stamp) (known : Option Contents) (all : List (List ℕ)) where
  none_on : (ks more : List (List ℕ)) → IfKnown known (λ held. lacks_one held ks ≡ false) → IfKnown known (λ held. lacks_one held more ≡ false)
      → IfKnown known (λ held. lacks_one held (ks ++ more) ≡ false)
  none_on ks more first next = elim known as (λ k. IfKnown k (λ held. lacks_one held ks ≡ false) → IfKnown k (λ held. lacks_one held more ≡ false)
      → IfKnown k (λ held. lacks_one held (ks ++ more) ≡ false)) [ None ↦ λ f g. tt | Some held ↦ λ f g. none_lacks held ks more f g ] first next

  info_on : (xs ys : List (List ℕ)) (a b c : Files) → KeepsAnalyses (analysis_at b.table) (analysis_at c.table) → IfKnown known (λ held. HasInfo held t loaded xs a b) → IfKnown known (λ held. HasInfo held t loaded ys b c)
      → IfKnown known (λ held. HasInfo held t loaded (xs ++ ys) a c)
  info_on xs ys a b c keeps first next = elim known as (λ k. IfKnown k (λ held. HasInfo held t loaded xs a b) → IfKnown k (λ held. HasInfo held t loaded ys b c)
      → IfKnown k (λ held. HasInfo held t loaded (xs ++ ys) a c)) [ None ↦ λ f g. tt | Some held ↦ λ f g. info_then held t loaded xs ys a b c keeps f g ] first next

  module _ (old now : Files) (before here : StoreState) (path : List ℕ) (rest : List (List ℕ)) (so_far : HasRead t loaded known all (path ∷ rest) old now before here) where
    abbrev at_turn : List (List ℕ)
    at_turn = unread (analysis_at now.table) (path ∷ [])

    abbrev one : List (List ℕ)
    one = keys_opened t (ids_there loaded now) (analysis_at now.table) path

    divided : unread (analysis_at now.table) (path ∷ rest) ≡ at_turn ++ unread (analysis_at now.table) rest
    divided = filter-append (λ p. is_none (analysis_at now.table p)) (path ∷ []) rest

    whole_with : (new : Files) → ReadsOne t loaded path known now new → unread (analysis_at old.table) all ≡ (so_far.ahead ++ at_turn) ++ unread (analysis_at new.table) rest
    whole_with new read =
        let later = unread_others (analysis_at now.table) (analysis_at new.table) path rest read.others (not_after path rest so_far.sorted) in
        so_far.whole
        ∙ ap (λ l. so_far.ahead ++ l) (divided ∙ ap (λ l. at_turn ++ l) (sym later))
        ∙ sym (append_assoc so_far.ahead at_turn (unread (analysis_at new.table) rest))

    pub read_on : (new : Files) (after : StoreState) → ReadsOne t loaded path known now new → ReadsBy known one Complete here after → HasRead t loaded known all rest old new before after
    read_on new after read reads = record {
      ahead = so_far.ahead ++ at_turn;
      keys = so_far.keys ++ one;
      whole = whole_with new read;
      opened = opened_then t loaded so_far.ahead at_turn so_far.keys one old now new so_far.opened read.opened;
      info = info_on so_far.ahead at_turn old now new read.kept so_far.info read.info;
      reads = keys_then known so_far.keys one Complete before here after so_far.none_lacks so_far.reads reads;
      none_lacks = none_on so_far.keys one so_far.none_lacks read.none_lacks;
      kept = keeps_on _ _ _ so_far.kept read.kept;
      read = λ q there following. by_test (bytes_eq q path)
          (λ h. subst (λ (p : List ℕ). unread_key t (analysis_at new.table) p ≡ None) (sym ((bytes_eq-Decides q path).0 h)) read.here)
          (λ h. still_read t (analysis_at now.table) (analysis_at new.table) q read.kept (so_far.read q there (ap (λ b. b || is_in rest q) h ∙ following)));
      rows = read.rows ∙ ap (λ l. l ++ at_turn) so_far.rows ∙ append_assoc (keys_of old.table) so_far.ahead at_turn;
      sorted = sorted_tail _ path rest so_far.sorted;
    }

    -- ---- the reading fails at this file

    module _ (sorted : IsStrictlySortedBy (slice_cmp nat_cmp) all) where
      abbrev following : List (List ℕ)
      following = opened_by t (ids_there loaded now ++ ids_at t at_turn) (unread (analysis_at now.table) rest)

      keys_are : opened_keys t (ids_there loaded old) (unread (analysis_at old.table) all) ≡ (so_far.keys ++ one) ++ following
      keys_are =
          let first : List Id = ids_there loaded old in
          let next : List Id = ids_there loaded now in
          let left = unread (analysis_at now.table) (path ∷ rest) in
          opened_are t first (unread (analysis_at old.table) all) (IsStrictlySortedBy-filter (slice_cmp nat_cmp) _ all sorted)
          ∙ ap (λ l. opened_by t first l) so_far.whole
          ∙ opened_append t first so_far.ahead left
          ∙ ap (λ l. l ++ opened_by t (first ++ ids_at t so_far.ahead) left) (sym so_far.opened.keys_are)
          ∙ ap (λ l. so_far.keys ++ l)
          (sym (opened_alike t next (first ++ ids_at t so_far.ahead) left so_far.opened.ids)
          ∙ ap (λ l. opened_by t next l) divided
          ∙ opened_append t next at_turn (unread (analysis_at now.table) rest)
          ∙ ap (λ l. l ++ following) (sym (one_opened t next (analysis_at now.table) path)))
          ∙ sym (append_assoc so_far.keys one following)

      pub read_last : (e : Ending) (after : StoreState) → IsPartial e → ReadsBy known one e here after
          → ReadsBy known (opened_keys t (ids_there loaded old) (unread (analysis_at old.table) all)) e before after
      read_last e after partial reads =
          subst (λ keys. ReadsBy known keys e before after) (sym keys_are)
          (keys_early known (so_far.keys ++ one) following e before after partial (keys_then known so_far.keys one e before here after so_far.none_lacks so_far.reads reads))

      pub most_last : (e : Ending) (after : StoreState) → IsPartial e → ReadsBy known one e here after → after.begun ≤ raised before.begun (length (file_keys t (unread (analysis_at old.table) all)))
      most_last e after partial reads =
          most_begun known _ _ e before after (read_last e after partial reads) (few_keys t (ids_there loaded old) (unread (analysis_at old.table) all) (IsStrictlySortedBy-filter (slice_cmp nat_cmp) _ all sorted))

  -- ---- all files were read

  module _ (sorted : IsStrictlySortedBy (slice_cmp nat_cmp) all) (old new : Files) (before after : StoreState) (so_far : HasRead t loaded known all [] old new before after) where
    abbrev todo : List (List ℕ)
    todo = unread (analysis_at old.table) all

    abbrev first : List Stamp
    first = loaded ++ old.stamps

    paths_are : so_far.ahead ≡ todo
    paths_are = sym (so_far.whole ∙ append-nil so_far.ahead)

    pub all_rows : keys_of new.table ≡ keys_of old.table ++ todo
    all_rows = so_far.rows ∙ ap (λ l. keys_of old.table ++ l) paths_are

    todo_sorted : AreSorted todo
    todo_sorted = IsStrictlySortedBy-filter (slice_cmp nat_cmp) _ all sorted

    opened_all : HasOpened t loaded todo so_far.keys old new
    opened_all = subst (λ (paths : List (List ℕ)). HasOpened t loaded paths so_far.keys old new) paths_are so_far.opened

    keys_all : so_far.keys ≡ opened_keys t (ids_there loaded old) todo
    keys_all = opened_all.keys_are ∙ sym (opened_are t (ids_there loaded old) todo todo_sorted)

    pub all_ids : HaveSameIds (ids_there loaded new) (ids_there loaded old ++ ids_at t todo)
    all_ids = opened_all.ids

    pub all_begun : new.begun ≡ old.begun + length (opened_keys t (ids_there loaded old) todo)
    all_begun = opened_all.begun ∙ ap (λ keys. old.begun + length keys) keys_all

    pub all_opens : new.begun ≡ old.begun + opens t first todo
    all_opens = all_begun ∙ ap (λ n. old.begun + n) (opened_count t first todo todo_sorted)

    pub all_few : new.begun ≤ old.begun + length (file_keys t todo)
    all_few = let few = few_keys t (ids_there loaded old) todo todo_sorted in omega (arith, all_begun, few)

    pub all_reads : ReadsBy known (opened_keys t (ids_there loaded old) todo) Complete before after
    all_reads = subst (λ keys. ReadsBy known keys Complete before after) keys_all so_far.reads

    pub all_most : after.begun ≤ raised before.begun (length (file_keys t todo))
    all_most = most_begun known _ _ Complete before after all_reads (few_keys t (ids_there loaded old) todo todo_sorted)

    pub none_lacking : IfKnown known (λ held. lacks_one held (opened_keys t (ids_there loaded old) todo) ≡ false)
    none_lacking = subst (λ (keys : List (List ℕ)). IfKnown known (λ held. lacks_one held keys ≡ false)) keys_all so_far.none_lacks

    -- the facts that hold if contents are known
    with_known : (P : Contents → Type 0) → ((held : Contents) → HasInfo held t loaded todo old new → P held) → IfKnown known P
    with_known P f = by known so_far.info
      where
        by : (k : Option Contents) → IfKnown k (λ held. HasInfo held t loaded so_far.ahead old new) → IfKnown k P
        by None info = tt
        by (Some held) info = f held (subst (λ (paths : List (List ℕ)). HasInfo held t loaded paths old new) paths_are info)

    pub all_info : IfKnown known (λ held. AgreeOn todo (info_in held t first todo) (analysis_at new.table))
    all_info = with_known _ (λ held info. info_are held t (analysis_at new.table) first todo todo_sorted info.info)

    pub all_stamps : IfKnown known (λ held. new.stamps ≡ with_stamps old.stamps (info_stamps t (info_in held t first todo) todo))
    all_stamps = with_known _ (λ held info. info.stamps ∙ ap (λ l. with_stamps old.stamps l) (sym (made_are held t first todo todo_sorted)))

    pub all_stamped : IfKnown known (λ held. StampTheSame (loaded ++ new.stamps) (first ++ stamps_at held t todo))
    all_stamped = with_known _ (λ held info. info.stamped)

  -- before the first file
  pub none_read : (old : Files) (s : StoreState) → IsStrictlySortedBy (slice_cmp nat_cmp) all → HasRead t loaded known all all old old s s
  none_read old s sorted = record {
    ahead = [];
    keys = [];
    whole = refl;
    opened = record {
      keys_are = refl;
      ids = λ id. ap (λ l. has_id l id) (sym (append-nil (ids_there loaded old)));
      begun = omega arith;
    };
    info = unopened known;
    reads = nothing known;
    none_lacks = none known;
    kept = λ q there. refl;
    read = λ q there following. absurd (cc);
    rows = sym (append-nil (keys_of old.table));
    sorted = sorted;
  }
    where
      nothing : (k : Option Contents) → ReadsBy k [] Complete s s
      nothing None = reads_none _ _ s
      nothing (Some held) = reads_none _ _ s

      none : (k : Option Contents) → IfKnown k (λ held. lacks_one held [] ≡ false)
      none None = tt
      none (Some held) = refl

      unopened : (k : Option Contents) → IfKnown k (λ held. HasInfo held t loaded [] old old)
      unopened None = tt
      unopened (Some held) = record {
        stamped = λ id. ap (λ l. stamp_of l id) (sym (append-nil (loaded ++ old.stamps)));
        stamps = refl;
        info = tt;
      }
