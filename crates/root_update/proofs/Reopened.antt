-- With the stamps that an update has made, the next one opens only the files that have no identity.
use Rattle.std.proofs.Common.{◌≡◌, ◌∙◌, ◌++◌, ◌||◌, if◌then◌else◌, Bool, true, false, List, [], ◌∷◌, ℕ, filter, length, Option, Some, None, ap, refl, sym, subst, arith}
use Rattle.std.proofs.lemmas.Cmp.{tied_itself}
use Rattle.std.proofs.lemmas.List.{append-nil}
use Rattle.std.proofs.lemmas.List.Folds.{list_any-append}
use Rattle.std.specs.List.{cons_option}
use Rattle.std.specs.Option.{is_none, is_some, option_and_then, option_map, option_map_or}
use Rattle.std.specs.Ordering.{is_eq}
use Rattle.std.specs.Prelude.{IfSome}
use Rattle.std.specs.Set.{distinct_count}
use Rattle.aux_cache.proofs.Found.{is_same, same_is}
use Rattle.aux_cache.proofs.Sorted.{id_total}
use Rattle.aux_cache.specs.Stamps.{put, stamp_of}
use Rattle.aux_cache.specs.declared.stamps.Stamp.{Stamp}
use Rattle.elf_dynamic.specs.Analysis.{analysis}
use Rattle.elf_dynamic.specs.Begun.{is_lacking, key_in, lacks_one}
use Rattle.file_stamps.proofs.Opens.{has_key}
use Rattle.file_stamps.proofs.Stamps.{ids_stamped, stamped_put}
use Rattle.file_stamps.specs.Files.{what_is}
use Rattle.file_stamps.specs.Opened.{has_id, ids_at, ids_of, keys_without_id, opens, same_id}
use Rattle.file_stamps.specs.Reading.{is_stamped, opened_by}
use Rattle.file_stamps.specs.Stamped.{AreSame, content_of, id_at, stamp_at, stamp_by, stamps_at, stamps_of, with_stamps}
use Rattle.image_tree.specs.Tree.{Nodes, node_at}
use Rattle.image_tree.specs.declared.node.Id.{Id}
use Rattle.lib_types.proofs.SortedPairs.{by_test}
use Rattle.lib_types.specs.declared.analysis.Analysis.{Analysis}
use Rattle.tree_face.specs.Store.{Contents}
use Rattle.lib_types.proofs.Bools.{neither}

-- ---- stamps that are put stay

same_itself : (id : Id) → is_same id id ≡ true
same_itself id = ap is_eq (tied_itself id_total id)

true_after : (a b : Bool) → b ≡ true → (a || b) ≡ true
true_after true b is = refl
true_after false b is = is

put_there : (stamps : List Stamp) (s : Stamp) → is_stamped (put stamps s) s.id ≡ true
put_there stamps s = stamped_put stamps s s.id ∙ ap (λ b. b || is_stamped stamps s.id) (same_itself s.id)

stays : (stamps more : List Stamp) (id : Id) → is_stamped stamps id ≡ true → is_stamped (with_stamps stamps more) id ≡ true
stays stamps [] id there = there
stays stamps (s ∷ more) id there = stays (put stamps s) more id (stamped_put stamps s id ∙ true_after (is_same id s.id) (is_stamped stamps id) there)

module _ (held : Contents) (t : Nodes) where
  -- every one of these files that has a stamp at all has it in this list
  abbrev AreStamped : List Stamp → List (List ℕ) → Type 0
  AreStamped stamps [] = Unit {0}
  AreStamped stamps (path ∷ paths) = IfSome (stamp_at held t path) (λ s. is_stamped stamps s.id ≡ true) × AreStamped stamps paths

  are_stamped : (made : List Stamp) (paths : List (List ℕ)) → AreStamped (with_stamps made (stamps_at held t paths)) paths
  are_stamped made [] = tt
  are_stamped made (path ∷ paths) = by (stamp_at held t path) (λ more. are_stamped more paths)
    where
      by : (o : Option Stamp) → ((more : List Stamp) → AreStamped (with_stamps more (stamps_at held t paths)) paths)
          → IfSome o (λ s. is_stamped (with_stamps made (cons_option o (stamps_at held t paths))) s.id ≡ true) × AreStamped (with_stamps made (cons_option o (stamps_at held t paths))) paths
      by None rest = (tt, rest made)
      by (Some s) rest = (stays (put made s) (stamps_at held t paths) s.id (put_there made s), rest (put made s))

-- ---- the contents of opened files are held

or_false : (b : Bool) → b ≡ (b || false)
or_false true = refl
or_false false = refl

module _ (held : Contents) (t : Nodes) (same : AreSame held t t) (made : List Stamp) where
  -- each file with this identity is held, if the identity has no stamp
  abbrev IsHeld : Id → Type 0
  IsHeld id = is_stamped made id ≡ false → (path : List ℕ) → id_at t path ≡ Some id → is_some (what_is held t path) ≡ true

  abbrev AreHeld : List Id → Type 0
  AreHeld ids = (id : Id) → has_id ids id ≡ true → IsHeld id

  one_more : (ids : List Id) (id : Id) → AreHeld ids → IsHeld id → AreHeld (ids ++ id ∷ [])
  one_more ids id are is other there = by_test (same_id other id)
      (λ e. subst IsHeld (sym (same_is other id e)) is)
      (λ e.
      are other (or_false (has_id ids other)
      ∙ ap (λ b. has_id ids other || (b || false)) (sym e)
      ∙ sym (list_any-append (same_id other) ids (id ∷ []))
      ∙ there))

  later : (key : Option (List ℕ)) (keys : List (List ℕ)) → lacks_one held (cons_option key keys) ≡ false → lacks_one held keys ≡ false
  later None keys none = none
  later (Some key) keys none = (neither (is_lacking held key) (lacks_one held keys) none).1

  some_analysis : (o : Option (List ℕ)) → is_none o ≡ false → is_some (option_map analysis o) ≡ true
  some_analysis None e = absurd (cc)
  some_analysis (Some bytes) e = refl

  -- a file that is opened is held, and so is each file with its identity
  opened_held : (path : List ℕ) (id : Id) → id_at t path ≡ Some id → (key : Option (List ℕ)) → key_in (node_at t path) ≡ key → is_some key ≡ true → (keys : List (List ℕ))
      → lacks_one held (cons_option key keys) ≡ false → IsHeld id
  opened_held path id at None is there keys none = absurd (cc)
  opened_held path id at (Some key) is there keys none = λ new q too.
      let content : content_of held t q ≡ content_of held t path = same path q (ap is_some at) (too ∙ sym at) in
      ap (λ o. is_some (option_map analysis o)) (content ∙ ap (option_and_then held) is)
      ∙ some_analysis (held key) (neither (is_lacking held key) (lacks_one held keys) none).0

  abbrev AllHeld : List (List ℕ) → Type 0
  AllHeld [] = Unit {0}
  AllHeld (path ∷ paths) = IfSome (id_at t path) IsHeld × AllHeld paths

  all_held : (ids : List Id) (paths : List (List ℕ)) → AreHeld ids → lacks_one held (opened_by t ids paths) ≡ false → AllHeld paths
  all_held ids [] are none = tt
  all_held ids (path ∷ paths) are none = by (id_at t path) refl none (λ next held_next rest. all_held next paths held_next rest)
    where
      by : (o : Option Id) → id_at t path ≡ o
          → lacks_one held (cons_option (if option_map_or (has_id ids) o false then None else key_in (node_at t path)) (opened_by t (ids ++ cons_option o []) paths)) ≡ false
          → ((next : List Id) → AreHeld next → lacks_one held (opened_by t next paths) ≡ false → AllHeld paths) → IfSome o IsHeld × AllHeld paths
      by None at none rest = (tt, rest (ids ++ []) (subst AreHeld (sym (append-nil ids)) are) (later (key_in (node_at t path)) _ none))
      by (Some id) at none rest = by_test (has_id ids id)
          (λ e.
          let is : IsHeld id = are id e in
          (is, rest (ids ++ id ∷ []) (one_more ids id are is) (later _ _ none)))
          (λ e.
          let opened : lacks_one held (cons_option (key_in (node_at t path)) (opened_by t (ids ++ id ∷ []) paths)) ≡ false =
          sym (ap (λ b. lacks_one held (cons_option (if b then None else key_in (node_at t path)) (opened_by t (ids ++ id ∷ []) paths))) e) ∙ none in
          let is : IsHeld id = opened_held path id at (key_in (node_at t path)) refl (has_key (node_at t path) id at) _ opened in
          (is, rest (ids ++ id ∷ []) (one_more ids id are is) (later _ _ none)))

  -- ---- so each identity has a stamp

  stamped_one : (id : Id) (what : Option Analysis) → is_some what ≡ true → IfSome (stamp_by (Some id) what) (λ s. is_stamped made s.id ≡ true) → is_stamped made id ≡ true
  stamped_one id None there is = absurd (cc)
  stamped_one id (Some a) there is = is

  not_none : (o : Option Stamp) → is_some o ≡ true → is_none o ≡ false
  not_none None e = absurd (cc)
  not_none (Some s) e = refl

  none_new : (paths : List (List ℕ)) → AllHeld paths → AreStamped held t made paths → filter (λ id. is_none (stamp_of made id)) (ids_at t paths) ≡ []
  none_new [] all are = refl
  none_new (path ∷ paths) all are = by (id_at t path) refl all.0 (none_new paths all.1 are.1)
    where
      by : (o : Option Id) → id_at t path ≡ o → IfSome o IsHeld → filter (λ id. is_none (stamp_of made id)) (ids_at t paths) ≡ []
          → filter (λ id. is_none (stamp_of made id)) (cons_option o (ids_at t paths)) ≡ []
      by None at is rest = rest
      by (Some id) at is rest =
          let stamp : IfSome (stamp_by (Some id) (what_is held t path)) (λ s. is_stamped made s.id ≡ true) =
          subst (λ (o : Option Id). IfSome (stamp_by o (what_is held t path)) (λ s. is_stamped made s.id ≡ true)) at are.0 in
          let there : is_stamped made id ≡ true = by_test (is_stamped made id) (λ e. e) (λ e. stamped_one id (what_is held t path) (is e path at) stamp) in
          ap (λ b. if b then id ∷ filter (λ id. is_none (stamp_of made id)) (ids_at t paths) else filter (λ id. is_none (stamp_of made id)) (ids_at t paths)) (not_none (stamp_of made id) there) ∙ rest

pub opens_again : (held : Contents) (t : Nodes) → AreSame held t t → (paths : List (List ℕ)) → lacks_one held (opened_by t (ids_of (stamps_of held t paths)) paths) ≡ false
    → opens t (stamps_of held t paths) paths ≡ length (keys_without_id t paths)
opens_again held t same paths none =
    let made : List Stamp = stamps_of held t paths in
    let stamped : (id : Id) → has_id (ids_of made) id ≡ true → IsHeld held t same made id = λ id there new.
    let z : true ≡ false = sym there ∙ ids_stamped made id ∙ new in absurd (cc) in
    let all = all_held held t same made (ids_of made) paths stamped none in
    let left = ap (distinct_count same_id) (none_new held t same made paths all (are_stamped held t [] paths)) in
    omega (arith, left)
