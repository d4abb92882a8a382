-- Stamps made from files are true for each tree with the same contents. True stamps hide no file that can't be read.
use Rattle.std.proofs.Common.{◌≡◌, ◌||◌, ◌++◌, if◌then◌else◌, ℕ, Bool, true, false, cond, List, [], ◌∷◌, Option, Some, None, refl, ap, sym, subst, ◌∙◌, append_assoc}
use Rattle.std.proofs.lemmas.List.Folds.{list_any-append}
use Rattle.std.specs.List.{before_first, cons_option}
use Rattle.std.specs.Option.{is_none, is_some, option_and_then, option_map, option_map_or, option_or}
use Rattle.std.specs.Prelude.{IfSome}
use Rattle.std.specs.Str.{bytes_eq}
use Rattle.aux_cache.proofs.Found.{first_of, is_same, same_is, stamp_of_both, stamp_of_put}
use Rattle.aux_cache.specs.Stamps.{put, stamp_of}
use Rattle.aux_cache.specs.declared.stamps.Stamp.{Stamp}
use Rattle.elf_dynamic.specs.Analysis.{analysis}
use Rattle.elf_dynamic.specs.Begun.{is_lacking, key_in, lacks_one}
use Rattle.string_pool.proofs.Members.{AreSorted}
use Rattle.image_tree.specs.Tree.{Nodes, node_at}
use Rattle.image_tree.specs.declared.node.Id.{Id}
use Rattle.lib_types.proofs.SortedPairs.{by_test}
use Rattle.lib_types.specs.declared.analysis.Analysis.{Analysis}
use Rattle.tree_face.specs.Store.{Contents}
use Rattle.file_stamps.specs.Files.{what_is}
use Rattle.file_stamps.proofs.Opened.{opened_are}
use Rattle.file_stamps.proofs.Stamps.{ids_stamped, stamp_by_id, stamp_by_says}
use Rattle.file_stamps.specs.Opened.{has_id, ids_of, new_key, opened_keys, same_id}
use Rattle.file_stamps.specs.Reading.{opened_by}
use Rattle.file_stamps.specs.Info.{info_by, info_in, stamps_before}
use Rattle.file_stamps.specs.Stamped.{AreSame, AreTrue, content_of, id_at, of_stamp, stamp_at, stamp_by, stamp_for, stamps_at, stamps_of, with_stamps}

-- ---- true stamps, stated for each identity

module _ (held : Contents) (u : Nodes) where
  -- if there is a stamp, each file of this identity is what the stamp says
  abbrev Shows : Id → Option Stamp → Type 0
  Shows id o = IfSome o (λ s. (path : List ℕ) → id_at u path ≡ Some id → what_is held u path ≡ Some (of_stamp s))

  abbrev TellTrue : List Stamp → Type 0
  TellTrue stamps = (id : Id) → Shows id (stamp_of stamps id)

  abbrev Says : List ℕ → Option Stamp → Type 0
  Says path o = IfSome o (λ s. what_is held u path ≡ Some (of_stamp s))

  show_true : (stamps : List Stamp) → AreTrue held u stamps → TellTrue stamps
  show_true stamps are id = by (stamp_of stamps id) refl
    where
      by : (o : Option Stamp) → stamp_of stamps id ≡ o → Shows id o
      by None e = tt
      by (Some s) e = λ path at. subst (Says path) (ap (option_and_then (stamp_of stamps)) at ∙ e) (are path)

  are_true : (stamps : List Stamp) → TellTrue stamps → AreTrue held u stamps
  are_true stamps show path = by (id_at u path) refl
    where
      info : (id : Id) (o : Option Stamp) → id_at u path ≡ Some id → Shows id o → Says path o
      info id None at shows = tt
      info id (Some s) at shows = shows path at

      by : (i : Option Id) → id_at u path ≡ i → Says path (option_and_then (stamp_of stamps) i)
      by None at = tt
      by (Some id) at = info id (stamp_of stamps id) at (show id)

  both_show : (xs ys : List Stamp) → TellTrue xs → TellTrue ys → TellTrue (xs ++ ys)
  both_show xs ys first second id = subst (Shows id) (sym (stamp_of_both xs ys id)) (by (stamp_of xs id) (first id))
    where
      by : (o : Option Stamp) → Shows id o → Shows id (first_of o (stamp_of ys id))
      by None shows = second id
      by (Some s) shows = shows

  put_shows : (made : List Stamp) (s : Stamp) → TellTrue made → Shows s.id (Some s) → TellTrue (put made s)
  put_shows made s show one id = subst (Shows id) (sym (stamp_of_put made s id)) (by (is_same id s.id) (same_is id s.id))
    where
      by : (b : Bool) → (b ≡ true → id ≡ s.id) → Shows id (cond b (Some s) (stamp_of made id))
      by true same = subst (λ (i : Id). Shows i (Some s)) (sym (same refl)) one
      by false same = show id

  -- ---- stamps of files, in a tree with the same contents

  module _ (t : Nodes) (same : AreSame held t u) where
    one_shows : (path : List ℕ) (s : Stamp) → stamp_at held t path ≡ Some s → Shows s.id (Some s)
    one_shows path s is q at =
        by (what_is held t path) refl is
      where
        by : (w : Option Analysis) → what_is held t path ≡ w → stamp_by (id_at t path) w ≡ Some s → what_is held u q ≡ Some (of_stamp s)
        by None what made = absurd (no_stamp (id_at t path) made)
          where
            no_stamp : (i : Option Id) → stamp_by i None ≡ Some s → ⊥
            no_stamp None e = absurd (cc)
            no_stamp (Some i) e = absurd (cc)
        by (Some w) what made =
            let id : id_at t path ≡ Some s.id = stamp_by_id (id_at t path) w s made in
            let content : content_of held u q ≡ content_of held t path = same path q (ap is_some id) (at ∙ sym id) in
            ap (λ o. option_map analysis o) content ∙ what ∙ ap Some (stamp_by_says (id_at t path) w s made)

    stamps_show : (paths : List (List ℕ)) → TellTrue (stamps_at held t paths)
    stamps_show [] = λ id. tt
    stamps_show (path ∷ paths) = by (stamp_at held t path) refl (stamps_show paths)
      where
        by : (o : Option Stamp) → stamp_at held t path ≡ o → TellTrue (stamps_at held t paths) → TellTrue (cons_option o (stamps_at held t paths))
        by None is rest = rest
        by (Some s) is rest = both_show (s ∷ []) (stamps_at held t paths) (put_shows [] s (λ id. tt) (one_shows path s is)) rest

    with_show : (made : List Stamp) (paths : List (List ℕ)) → TellTrue made → TellTrue (with_stamps made (stamps_at held t paths))
    with_show made [] show = show
    with_show made (path ∷ paths) show = by (stamp_at held t path) refl (λ more true_more. with_show more paths true_more)
      where
        by : (o : Option Stamp) → stamp_at held t path ≡ o → ((more : List Stamp) → TellTrue more → TellTrue (with_stamps more (stamps_at held t paths)))
            → TellTrue (with_stamps made (cons_option o (stamps_at held t paths)))
        by None is rest = rest made show
        by (Some s) is rest = rest (put made s) (put_shows made s show (one_shows path s is))

    -- true stamps followed by the stamps of these files are true
    pub true_after : (stamps : List Stamp) (paths : List (List ℕ)) → AreTrue held u stamps → AreTrue held u (stamps ++ stamps_at held t paths)
    true_after stamps paths are =
        are_true (stamps ++ stamps_at held t paths) (both_show stamps (stamps_at held t paths) (show_true stamps are) (stamps_show paths))

    -- the stamps of these files are true
    pub true_made : (paths : List (List ℕ)) → AreTrue held u (stamps_of held t paths)
    true_made paths = are_true (stamps_of held t paths) (with_show [] paths (λ id. tt))

-- ---- the analysis from stamps is that of the content

module _ (held : Contents) (t : Nodes) where
  -- for true stamps
  info_true : (stamps : List Stamp) → AreTrue held t stamps → (path : List ℕ) → info_by held t stamps path ≡ what_is held t path
  info_true stamps are path = by (stamp_for stamps t path) (are path)
    where
      by : (o : Option Stamp) → IfSome o (λ s. what_is held t path ≡ Some (of_stamp s)) → option_or (option_map of_stamp o) (what_is held t path) ≡ what_is held t path
      by None says = refl
      by (Some s) says = sym says

  -- for true loaded stamps and the stamps of the files read before, assuming that equal identities imply equal contents
  pub info_right : AreSame held t t → (loaded : List Stamp) → AreTrue held t loaded → (paths : List (List ℕ)) (path : List ℕ) → info_in held t loaded paths path ≡ what_is held t path
  info_right same loaded are paths path =
      info_true (stamps_before held t loaded paths path) (true_after held t t same loaded (before_first (bytes_eq path) paths) are) path

-- ---- files whose content isn't held

module _ (held : Contents) where
  abbrev lacks : Option (List ℕ) → Bool
  lacks None = false
  lacks (Some key) = is_lacking held key

  lacks_more : (o : Option (List ℕ)) (keys : List (List ℕ)) → lacks_one held (cons_option o keys) ≡ (lacks o || lacks_one held keys)
  lacks_more None keys = refl
  lacks_more (Some key) keys = refl

  module _ (t : Nodes) where
    abbrev is_known : List Id → List ℕ → Bool
    is_known ids path = option_map_or (has_id ids) (id_at t path) false

    -- the content of each file with one of these identities is held
    abbrev AreHeld : List Id → Type 0
    AreHeld ids = (path : List ℕ) → is_known ids path ≡ true → lacks (key_in (node_at t path)) ≡ false

    -- true stamps are of files whose content is held
    true_held : (stamps : List Stamp) → AreTrue held t stamps → AreHeld (ids_of stamps)
    true_held stamps are path known = by (stamp_for stamps t path) (key_in (node_at t path)) (some (id_at t path) known) (are path)
      where
        some : (o : Option Id) → option_map_or (has_id (ids_of stamps)) o false ≡ true → is_some (option_and_then (stamp_of stamps) o) ≡ true
        some None e = absurd (cc)
        some (Some id) e = sym (ids_stamped stamps id) ∙ e

        by : (o : Option Stamp) (key : Option (List ℕ)) → is_some o ≡ true → IfSome o (λ s. option_map analysis (option_and_then held key) ≡ Some (of_stamp s)) → lacks key ≡ false
        by None key there says = absurd (cc)
        by (Some s) None there says = refl
        by (Some s) (Some key) there says = elim (held key) as (λ o. option_map analysis o ≡ Some (of_stamp s) → is_none o ≡ false) [ None ↦ λ e. absurd (cc) | Some bytes ↦ λ e. refl ] says

    abbrev lacks_unless : Bool → List ℕ → Bool
    lacks_unless known path = lacks (if known then None else key_in (node_at t path))

    here : (true_ids ids : List Id) (path : List ℕ) → AreHeld true_ids → lacks_unless (is_known (true_ids ++ ids) path) path ≡ lacks_unless (is_known ids path) path
    here true_ids ids path are = by (id_at t path) (are path)
      where
        hidden : (b : Bool) → lacks (key_in (node_at t path)) ≡ false → false ≡ lacks_unless b path
        hidden true none = refl
        hidden false none = sym none

        by : (o : Option Id) → (option_map_or (has_id true_ids) o false ≡ true → lacks (key_in (node_at t path)) ≡ false)
            → lacks_unless (option_map_or (has_id (true_ids ++ ids)) o false) path ≡ lacks_unless (option_map_or (has_id ids) o false) path
        by None none = refl
        by (Some id) none =
            ap (λ b. lacks_unless b path) (list_any-append (same_id id) true_ids ids)
            ∙ by_test (has_id true_ids id)
            (λ e. ap (λ b. lacks_unless (b || has_id ids id) path) e ∙ hidden (has_id ids id) (none e))
            (λ e. ap (λ b. lacks_unless (b || has_id ids id) path) e)

    lack_the_same : (true_ids ids : List Id) (paths : List (List ℕ)) → AreHeld true_ids → lacks_one held (opened_by t (true_ids ++ ids) paths) ≡ lacks_one held (opened_by t ids paths)
    lack_the_same true_ids ids [] are = refl
    lack_the_same true_ids ids (path ∷ paths) are =
        let next : List Id = cons_option (id_at t path) [] in
        let first : Option (List ℕ) = new_key t (true_ids ++ ids) path in
        lacks_more first (opened_by t ((true_ids ++ ids) ++ next) paths)
        ∙ ap (λ l. lacks first || lacks_one held (opened_by t l paths)) (append_assoc true_ids ids next)
        ∙ ap (λ b. lacks first || b) (lack_the_same true_ids (ids ++ next) paths are)
        ∙ ap (λ b. b || lacks_one held (opened_by t (ids ++ next) paths)) (here true_ids ids path are)
        ∙ sym (lacks_more (new_key t ids path) (opened_by t (ids ++ next) paths))

    -- True stamps hide no file whose content isn't held.
    pub opened_lack_the_same : (stamps : List Stamp) (ids : List Id) (paths : List (List ℕ)) → AreTrue held t stamps → AreSorted paths
        → lacks_one held (opened_keys t (ids_of stamps ++ ids) paths) ≡ lacks_one held (opened_keys t ids paths)
    opened_lack_the_same stamps ids paths are sorted =
        ap (lacks_one held) (opened_are t (ids_of stamps ++ ids) paths sorted)
        ∙ lack_the_same (ids_of stamps) ids paths (true_held stamps are)
        ∙ ap (lacks_one held) (sym (opened_are t ids paths sorted))

-- ---- a tree with the same identities and contents

module _ (held : Contents) (t u : Nodes) (ids : (path : List ℕ) → id_at u path ≡ id_at t path) (contents : (path : List ℕ) → content_of held u path ≡ content_of held t path) where
  pub true_in : (stamps : List Stamp) → AreTrue held t stamps → AreTrue held u stamps
  true_in stamps are path =
      subst (λ i. IfSome (option_and_then (stamp_of stamps) i) (λ s. what_is held u path ≡ Some (of_stamp s))) (sym (ids path))
      (subst (λ content. IfSome (stamp_for stamps t path) (λ s. option_map analysis content ≡ Some (of_stamp s))) (sym (contents path)) (are path))

  pub same_in : AreSame held t t → AreSame held u u
  same_in same p q there at = contents q ∙ same p q (ap is_some (sym (ids p)) ∙ there) (sym (ids q) ∙ at ∙ ids p) ∙ sym (contents p)

  -- equal identities imply equal contents between both trees
  pub same_over : AreSame held t t → AreSame held t u
  same_over same p q there at = contents q ∙ same p q there (sym (ids q) ∙ at)
