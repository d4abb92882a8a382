-- Reading one file that has no analysis yet.
use Rattle.std.proofs.Common.{◌≡◌, ◌+◌, ◌++◌, ◌||◌, if◌then◌else◌, ℕ, Bool, true, false, cond, List, [], ◌∷◌, length, refl, ap, sym, subst, ◌∙◌, arith, Option, Some, None}
use Rattle.std.proofs.lemmas.List.{append-nil, map-append}
use Rattle.std.proofs.lemmas.List.Folds.{list_any-append}
use Rattle.std.specs.List.{cons_option}
use Rattle.std.specs.Map.{keys_of}
use Rattle.std.specs.Option.{is_none, is_some, option_map, option_map_or, option_and_then, option_or}
use Rattle.std.specs.Prelude.{IfSome, IsSomeAnd}
use Rattle.aux_cache.specs.Stamps.{put, stamp_of}
use Rattle.aux_cache.specs.declared.stamps.Stamp.{Stamp}
use Rattle.elf_dynamic.specs.Analysis.{analysis}
use Rattle.elf_dynamic.specs.Begun.{key_in, lacks_one}
use Rattle.file_table.proofs.Copied.{put_last}
use Rattle.file_table.specs.Analyses.{unread}
use Rattle.file_table.specs.Table.{analysis_at, with_analysis}
use Rattle.image_tree.specs.Tree.{Nodes, node_at}
use Rattle.image_tree.specs.declared.node.Id.{Id}
use Rattle.lib_types.specs.declared.analysis.Analysis.{Analysis}
use Rattle.tree_face.specs.Known.{IfKnown}
use Rattle.tree_face.specs.Store.{Contents}
use Rattle.file_stamps.proofs.KeptAnalyses.{analysis_other, analysis_put, had_none, kept_with, key_there, read_then}
use Rattle.file_stamps.proofs.Opened.{one_opened}
use Rattle.file_stamps.proofs.Stamps.{found_id, ids_stamped, stamped_again, stamped_both, stamped_late, stamped_more, stamped_put}
use Rattle.file_stamps.specs.Files.{unread_key, what_is}
use Rattle.file_stamps.specs.Info.{info_by}
use Rattle.file_stamps.specs.Opened.{has_id, ids_of, new_key, same_id}
use Rattle.file_stamps.specs.Stamped.{StampTheSame, id_at, of_stamp, stamp_by, stamp_for, with_stamps}
use Rattle.file_stamps.specs.State.{ids_there}
use Rattle.file_stamps.specs.Reading.{HasInfo, HasOpened, IsFoundBy, ReadsOne, is_stamped, keys_opened, key_opened, opened_by}
use Rattle.file_stamps.specs.declared.files.Files.{Files}

-- ---- a file that gets an analysis

module _ (t : Nodes) (loaded : List Stamp) (path key : List ℕ) (old : Files) (unread_is : unread_key t (analysis_at old.table) path ≡ Some key) where
  abbrev here : List Stamp
  here = loaded ++ old.stamps

  none : analysis_at old.table path ≡ None
  none = had_none t (analysis_at old.table) path key unread_is

  unread_one : unread (analysis_at old.table) (path ∷ []) ≡ path ∷ []
  unread_one = ap (λ o. cond (is_none o) (path ∷ []) []) none

  there : key_in (node_at t path) ≡ Some key
  there = key_there t (analysis_at old.table) path key unread_is

  by_stamp : cons_option (new_key t (ids_there loaded old) path) [] ≡ key_opened (stamp_for here t path) key
  by_stamp = ap (λ k. cons_option (if option_map_or (has_id (ids_there loaded old)) (id_at t path) false then None else k) []) there ∙ by (id_at t path)
    where
      by_id : (id : Id) (o : Option Stamp) → has_id (ids_there loaded old) id ≡ is_some o → cons_option (if has_id (ids_there loaded old) id then None else Some key) [] ≡ key_opened o key
      by_id id None e = ap (λ b. cons_option (if b then None else Some key) []) e
      by_id id (Some s) e = ap (λ b. cons_option (if b then None else Some key) []) e

      by : (o : Option Id) → cons_option (if option_map_or (has_id (ids_there loaded old)) o false then None else Some key) [] ≡ key_opened (option_and_then (stamp_of here) o) key
      by None = refl
      by (Some id) = by_id id (stamp_of here id) (ids_stamped here id)

  pub one_key : keys_opened t (ids_there loaded old) (analysis_at old.table) path ≡ key_opened (stamp_for here t path) key
  one_key = ap (λ o. cons_option (cond (is_none o) (new_key t (ids_there loaded old) path) None) []) none ∙ by_stamp

  module _ (a : Analysis) where
    -- ---- the identities that have stamps afterwards

    ids_after : (i : Option Id) (id : Id) → has_id (ids_of (loaded ++ with_stamps old.stamps (cons_option (stamp_by i (Some a)) []))) id ≡ has_id (ids_there loaded old ++ cons_option i []) id
    ids_after None id = ap (λ l. has_id l id) (sym (append-nil (ids_there loaded old)))
    ids_after (Some i) id =
        ids_stamped (loaded ++ put old.stamps s) id
        ∙ stamped_both loaded (put old.stamps s) id
        ∙ ap (λ b. is_stamped loaded id || b) (stamped_put old.stamps s id)
        ∙ moved (is_stamped loaded id) (same_id id i) (is_stamped old.stamps id)
        ∙ ap (λ b. b || (same_id id i || false)) (sym (ids_stamped here id ∙ stamped_both loaded old.stamps id))
        ∙ sym (list_any-append (same_id id) (ids_there loaded old) (i ∷ []))
      where
        s : Stamp
        s = record { id = i; analysis = a }

        moved : (x y z : Bool) → (x || (y || z)) ≡ ((x || z) || (y || false))
        moved true y z = refl
        moved false true true = refl
        moved false true false = refl
        moved false false true = refl
        moved false false false = refl

    module _ (held : Contents) (before after : ℕ) where
      content : IsSomeAnd (held key) (λ bytes. analysis bytes ≡ a) → what_is held t path ≡ Some a
      content c =
          ap (λ o. option_map analysis (option_and_then held o)) there
          ∙ elim (held key) as (λ o. IsSomeAnd o (λ bytes. analysis bytes ≡ a) → option_map analysis o ≡ Some a) [ None ↦ λ h. absurd h | Some bytes ↦ λ h. ap Some h ] c

      -- the analysis that was found is that of the stamp, or else that of the content
      found_info : (o : Option Stamp) → IsFoundBy (Some held) key o a before after → option_or (option_map of_stamp o) (what_is held t path) ≡ Some a
      found_info None found = content found.0
      found_info (Some s) found = ap Some (sym found.0)

      held_keys : (o : Option Stamp) → IsFoundBy (Some held) key o a before after → lacks_one held (key_opened o key) ≡ false
      held_keys None found = elim (held key) as (λ o. IsSomeAnd o (λ bytes. analysis bytes ≡ a) → (is_none o || false) ≡ false) [ None ↦ λ h. absurd h | Some bytes ↦ λ h. refl ] found.0
      held_keys (Some s) found = refl

      -- ---- the stamps afterwards

      stamp_of_id : (i : Id) (what : Option Analysis) → IfSome (stamp_by (Some i) what) (λ s. s.id ≡ i)
      stamp_of_id i None = tt
      stamp_of_id i (Some what) = refl

      -- if the identity has no stamp, the new stamp is made from the content
      new_stamp : (i : Id) → stamp_of here i ≡ None → what_is held t path ≡ Some a
          → StampTheSame (loaded ++ with_stamps old.stamps (cons_option (stamp_by (Some i) (Some a)) [])) (here ++ cons_option (stamp_by (Some i) (what_is held t path)) [])
      new_stamp i none is id =
          stamped_more loaded old.stamps (record { id = i; analysis = a }) none id
          ∙ ap (λ what. stamp_of (here ++ cons_option (stamp_by (Some i) what) []) id) (sym is)

      -- if the identity has a stamp, the new stamp is equal to it
      same_stamp : (i : Id) (s : Stamp) → stamp_of here i ≡ Some s → a ≡ of_stamp s
          → StampTheSame (loaded ++ with_stamps old.stamps (cons_option (stamp_by (Some i) (Some a)) [])) (here ++ cons_option (stamp_by (Some i) (what_is held t path)) [])
      same_stamp i s there is id =
          let at : i ≡ s.id = found_id here i s there in
          ap (λ what. stamp_of (loaded ++ put old.stamps (record { id = i; analysis = what })) id) is
          ∙ ap (λ j. stamp_of (loaded ++ put old.stamps (record { id = j; analysis = s.analysis })) id) at
          ∙ stamped_again loaded old.stamps s (ap (stamp_of here) (sym at) ∙ there) id
          ∙ sym (stamped_late here i (stamp_by (Some i) (what_is held t path)) (ap is_some there) (stamp_of_id i (what_is held t path)) id)

      stamped_by : (i : Option Id) → IsFoundBy (Some held) key (option_and_then (stamp_of here) i) a before after
          → StampTheSame (loaded ++ with_stamps old.stamps (cons_option (stamp_by i (Some a)) [])) (here ++ cons_option (stamp_by i (what_is held t path)) [])
      stamped_by None found id = ap (λ l. stamp_of l id) (sym (append-nil here))
      stamped_by (Some i) found id = by (stamp_of here i) refl found id
        where
          by : (o : Option Stamp) → stamp_of here i ≡ o → IsFoundBy (Some held) key o a before after
              → StampTheSame (loaded ++ with_stamps old.stamps (cons_option (stamp_by (Some i) (Some a)) [])) (here ++ cons_option (stamp_by (Some i) (what_is held t path)) [])
          by None e found = new_stamp i e (content found.0)
          by (Some s) e found = same_stamp i s e found.0

      module _ (new : Files) (found : IsFoundBy (Some held) key (stamp_for here t path) a before after) (table : new.table ≡ with_analysis old.table path a)
          (stamps : new.stamps ≡ with_stamps old.stamps (cons_option (stamp_by (id_at t path) (Some a)) [])) where
        info_is : info_by held t here path ≡ Some a
        info_is = found_info (stamp_for here t path) found

        analysis_is : analysis_at new.table path ≡ Some a
        analysis_is = rw table (analysis_put old.table path a)

        pub has_info : HasInfo held t loaded (unread (analysis_at old.table) (path ∷ [])) old new
        has_info =
            subst (λ (paths : List (List ℕ)). HasInfo held t loaded paths old new) (sym unread_one)
            (record {
              stamped = λ id. ap (λ l. stamp_of (loaded ++ l) id) stamps ∙ stamped_by (id_at t path) found id;
              stamps = stamps ∙ ap (λ what. with_stamps old.stamps (cons_option (stamp_by (id_at t path) what) [])) (sym info_is);
              info = ((ap is_some analysis_is, analysis_is ∙ sym info_is), tt);
            })

    module _ (new : Files) (table : new.table ≡ with_analysis old.table path a) (stamps : new.stamps ≡ with_stamps old.stamps (cons_option (stamp_by (id_at t path) (Some a)) [])) where
      has_opened : new.begun ≡ old.begun + length (key_opened (stamp_for here t path) key)
          → HasOpened t loaded (unread (analysis_at old.table) (path ∷ [])) (keys_opened t (ids_there loaded old) (analysis_at old.table) path) old new
      has_opened begun =
          subst (λ (paths : List (List ℕ)). HasOpened t loaded paths (keys_opened t (ids_there loaded old) (analysis_at old.table) path) old new) (sym unread_one)
          (record {
            keys_are = one_opened t (ids_there loaded old) (analysis_at old.table) path ∙ ap (λ l. opened_by t (ids_there loaded old) l) unread_one;
            ids = λ id. ap (λ l. has_id (ids_of (loaded ++ l)) id) stamps ∙ ids_after (id_at t path) id;
            begun = begun ∙ ap (λ l. old.begun + length l) (sym one_key);
          })

      info : (known : Option Contents) → IsFoundBy known key (stamp_for here t path) a old.begun new.begun
          → IfKnown known (λ held. HasInfo held t loaded (unread (analysis_at old.table) (path ∷ [])) old new)
      info None found = tt
      info (Some held) found = has_info held old.begun new.begun new found table stamps

      lacks : (known : Option Contents) → IsFoundBy known key (stamp_for here t path) a old.begun new.begun → IfKnown known (λ held. lacks_one held (keys_opened t (ids_there loaded old) (analysis_at old.table) path) ≡ false)
      lacks None found = tt
      lacks (Some held) found = ap (lacks_one held) one_key ∙ held_keys held old.begun new.begun (stamp_for here t path) found

      count : (known : Option Contents) (o : Option Stamp) → IsFoundBy known key o a old.begun new.begun → new.begun ≡ old.begun + length (key_opened o key)
      count known None found = found.1
      count known (Some s) found = found.1 ∙ (omega arith)

      pub reads_one : (known : Option Contents) → IsFoundBy known key (stamp_for here t path) a old.begun new.begun → ReadsOne t loaded path known old new
      reads_one known found = record {
        opened = has_opened (count known (stamp_for here t path) found);
        info = info known found;
        kept = rw table (kept_with old.table path a none);
        here = rw table (read_then t old.table path a);
        others = rw table (λ q h. analysis_other old.table path q a h);
        rows = ap keys_of (table ∙ put_last old.table path a none) ∙ map-append (λ (row : List ℕ × Analysis). row.0) old.table ((path, a) ∷ []) ∙ ap (λ l. keys_of old.table ++ l) (sym unread_one);
        none_lacks = lacks known found;
      }
