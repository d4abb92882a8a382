-- The number of files that are opened: each file without an identity, and one file of each identity that has no stamp.
use Rattle.std.proofs.Common.{◌≡◌, ◌+◌, ◌++◌, ◌||◌, if◌then◌else◌, ℕ, Bool, true, false, cond, not, List, [], ◌∷◌, filter, length, refl, ap, sym, subst, ◌∙◌, arith, Option, Some, None}
use Rattle.std.proofs.lemmas.Cmp.{tied_itself}
use Rattle.std.proofs.lemmas.List.{append-nil}
use Rattle.std.proofs.lemmas.List.Folds.{list_any-append}
use Rattle.std.specs.List.{cons_option}
use Rattle.std.specs.Option.{is_none, is_some, option_map_or}
use Rattle.std.specs.Ordering.{is_eq}
use Rattle.std.specs.Set.{distinct_count, unique_keys}
use Rattle.aux_cache.proofs.Found.{same_is}
use Rattle.aux_cache.proofs.Sorted.{id_total}
use Rattle.aux_cache.specs.Stamps.{stamp_of}
use Rattle.aux_cache.specs.declared.stamps.Stamp.{Stamp}
use Rattle.elf_dynamic.specs.Begun.{file_keys, key_in}
use Rattle.string_pool.proofs.Members.{AreSorted}
use Rattle.image_tree.specs.Tree.{Nodes, node_at}
use Rattle.image_tree.specs.declared.node.Id.{Id}
use Rattle.image_tree.specs.declared.node.Node.{Node}
use Rattle.image_tree.specs.declared.node.Node.TheVariants as node
use Rattle.lib_types.proofs.SortedPairs.{by_test}
use Rattle.file_stamps.proofs.Opened.{opened_are}
use Rattle.file_stamps.proofs.Stamps.{ids_stamped}
use Rattle.file_stamps.specs.Stamped.{id_at, id_in}
use Rattle.file_stamps.specs.Opened.{has_id, ids_at, ids_of, keys_without_id, opened_keys, opens, same_id}
use Rattle.file_stamps.specs.Reading.{opened_by}
use Rattle.lib_types.proofs.Bools.{one_if}

-- ---- identities

same_itself : (id : Id) → same_id id id ≡ true
same_itself id = ap is_eq (tied_itself id_total id)

-- these identities without one of them
abbrev without : Id → List Id → List Id
without id ids = filter (λ other. not (same_id id other)) ids

-- those that differ from an identity are all there without it
others_there : (id other : Id) (ids : List Id) → same_id id other ≡ false → has_id (without id ids) other ≡ has_id ids other
others_there id other [] differs = refl
others_there id other (x ∷ ids) differs = by (same_id id x) (same_id other x) refl refl (others_there id other ids differs)
  where
    by : (here there : Bool) → same_id id x ≡ here → same_id other x ≡ there → has_id (without id ids) other ≡ has_id ids other
        → has_id (cond (not here) (x ∷ without id ids) (without id ids)) other ≡ (there || has_id ids other)
    by true true e f rest =
        let both : same_id id other ≡ true = subst (λ (k : Id). same_id id k ≡ true) (sym (same_is other x f)) e in
        let z : true ≡ false = sym both ∙ differs in absurd (cc)
    by true false e f rest = rest
    by false there e f rest = ap (λ b. b || has_id (without id ids) other) f ∙ ap (λ b. there || b) rest

-- an identity counts once
counted_once : (id : Id) (ids : List Id) → distinct_count same_id ids ≡ distinct_count same_id (without id ids) + one_if (has_id ids id)
counted_once id [] = refl
counted_once id (x ∷ ids) = by_test (same_id id x)
    (λ e. found (same_is id x e) (has_id ids x) refl e (counted_once id ids))
    (λ e. other e (counted_once id ids))
  where
    found : id ≡ x → (there : Bool) → has_id ids x ≡ there → same_id id x ≡ true → distinct_count same_id ids ≡ distinct_count same_id (without id ids) + one_if (has_id ids id)
        → distinct_count same_id (x ∷ ids) ≡ distinct_count same_id (without id (x ∷ ids)) + one_if (has_id (x ∷ ids) id)
    found is there e same count =
        let of_it : has_id ids id ≡ there = ap (has_id ids) is ∙ e in
        rw (same, e) (by there (count ∙ ap (λ b. distinct_count same_id (without id ids) + one_if b) of_it))
      where
        by : (b : Bool) → distinct_count same_id ids ≡ distinct_count same_id (without id ids) + one_if b
            → length (cond b (unique_keys same_id ids) (x ∷ unique_keys same_id ids)) ≡ distinct_count same_id (without id ids) + 1
        by true c = c
        by false c = omega (arith, c)

    other : same_id id x ≡ false → distinct_count same_id ids ≡ distinct_count same_id (without id ids) + one_if (has_id ids id)
        → distinct_count same_id (x ∷ ids) ≡ distinct_count same_id (without id (x ∷ ids)) + one_if (has_id (x ∷ ids) id)
    other differs count = rw (differs, others_there id x ids differs) (by (has_id ids x) count)
      where
        by : (b : Bool) → distinct_count same_id ids ≡ distinct_count same_id (without id ids) + one_if (has_id ids id)
            → length (cond b (unique_keys same_id ids) (x ∷ unique_keys same_id ids))
            ≡ length (cond b (unique_keys same_id (without id ids)) (x ∷ unique_keys same_id (without id ids))) + one_if (has_id ids id)
        by true c = c
        by false c = omega (arith, c)

-- the first of these identities, and those that differ from it
first_counted : (id : Id) (ids : List Id) → distinct_count same_id (id ∷ ids) ≡ distinct_count same_id (without id ids) + 1
first_counted id ids =
    counted_once id (id ∷ ids)
    ∙ ap (λ b. distinct_count same_id (cond (not b) (id ∷ without id ids) (without id ids)) + one_if (b || has_id ids id)) (same_itself id)

-- ---- the identities that aren't among others

abbrev pub new_ids : List Id → List Id → List Id
new_ids ids more = filter (λ id. not (has_id ids id)) more

has_more : (ids : List Id) (id other : Id) → has_id (ids ++ id ∷ []) other ≡ (has_id ids other || (same_id other id || false))
has_more ids id other = list_any-append (same_id other) ids (id ∷ [])

turned : (a b : Id) → same_id a b ≡ same_id b a
turned a b = by (same_id a b) (same_id b a) refl refl
  where
    by : (x y : Bool) → same_id a b ≡ x → same_id b a ≡ y → x ≡ y
    by true true e f = refl
    by false false e f = refl
    by true false e f = let z : true ≡ false = sym (subst (λ (k : Id). same_id b k ≡ true) (sym (same_is a b e)) (same_itself b)) ∙ f in absurd (cc)
    by false true e f = let z : true ≡ false = sym (subst (λ (k : Id). same_id a k ≡ true) (sym (same_is b a f)) (same_itself a)) ∙ e in absurd (cc)

-- with one more, those that differ from it are left
one_more : (ids : List Id) (id : Id) (more : List Id) → new_ids (ids ++ id ∷ []) more ≡ without id (new_ids ids more)
one_more ids id [] = refl
one_more ids id (x ∷ more) =
    ap (λ b. cond (not b) (x ∷ new_ids (ids ++ id ∷ []) more) (new_ids (ids ++ id ∷ []) more)) (has_more ids id x)
    ∙ ap (λ b. cond (not (has_id ids x || (b || false))) (x ∷ new_ids (ids ++ id ∷ []) more) (new_ids (ids ++ id ∷ []) more)) (turned x id)
    ∙ by (has_id ids x) (same_id id x) refl (one_more ids id more)
  where
    by : (there same : Bool) → same_id id x ≡ same → new_ids (ids ++ id ∷ []) more ≡ without id (new_ids ids more)
        → cond (not (there || (same || false))) (x ∷ new_ids (ids ++ id ∷ []) more) (new_ids (ids ++ id ∷ []) more)
        ≡ without id (cond (not there) (x ∷ new_ids ids more) (new_ids ids more))
    by true same e rest = rest
    by false true e rest = rest ∙ sym (ap (λ b. cond (not b) (x ∷ without id (new_ids ids more)) (without id (new_ids ids more))) e)
    by false false e rest = ap (λ l. x ∷ l) rest ∙ sym (ap (λ b. cond (not b) (x ∷ without id (new_ids ids more)) (without id (new_ids ids more))) e)

-- one that is there already makes no difference
none_more : (ids : List Id) (id : Id) (more : List Id) → has_id ids id ≡ true → new_ids (ids ++ id ∷ []) more ≡ new_ids ids more
none_more ids id [] there = refl
none_more ids id (x ∷ more) there =
    ap (λ b. cond (not b) (x ∷ new_ids (ids ++ id ∷ []) more) (new_ids (ids ++ id ∷ []) more)) (has_more ids id x ∙ by (same_id x id) refl)
    ∙ ap (λ l. cond (not (has_id ids x)) (x ∷ l) l) (none_more ids id more there)
  where
    by : (same : Bool) → same_id x id ≡ same → (has_id ids x || (same || false)) ≡ has_id ids x
    by true e = let here : has_id ids x ≡ true = ap (has_id ids) (same_is x id e) ∙ there in ap (λ b. b || true) here ∙ sym here
    by false e = or_false (has_id ids x)
      where
        or_false : (b : Bool) → (b || false) ≡ b
        or_false true = refl
        or_false false = refl

-- ---- the count

pub has_key : (n : Option Node) (i : Id) → id_in n ≡ Some i → is_some (key_in n) ≡ true
has_key None i e = absurd (cc)
has_key (Some node.Dir) i e = absurd (cc)
has_key (Some (node.Link target)) i e = absurd (cc)
has_key (Some (node.File key id)) i e = refl

length_one : {X : Type 0} (o : Option X) (xs : List X) → is_some o ≡ true → length (cons_option o xs) ≡ length xs + 1
length_one None xs e = absurd (cc)
length_one (Some x) xs e = omega arith

length_both : {X : Type 0} (o : Option X) (xs ys : List X) (n : ℕ) → length xs ≡ length ys + n → length (cons_option o xs) ≡ length (cons_option o ys) + n
length_both None xs ys n e = e
length_both (Some x) xs ys n e = omega (arith, e)

module _ (t : Nodes) where
  abbrev others : List (List ℕ) → List (List ℕ)
  others paths = filter (λ path. is_none (id_at t path)) paths

  module _ (path : List ℕ) (paths : List (List ℕ)) (ids : List Id) where
    abbrev key : Option (List ℕ)
    key = key_in (node_at t path)

    -- the count, if this is the identity of the first file
    abbrev Counts : Option Id → Type 0
    Counts o =
        length (cons_option (if option_map_or (has_id ids) o false then None else key) (opened_by t (ids ++ cons_option o []) paths))
        ≡ length (file_keys t (if is_none o then path ∷ others paths else others paths)) + distinct_count same_id (new_ids ids (cons_option o (ids_at t paths)))

    module _ (counted : (ids : List Id) → length (opened_by t ids paths) ≡ length (keys_without_id t paths) + distinct_count same_id (new_ids ids (ids_at t paths))) where
      no_identity : Counts None
      no_identity = rw (append-nil ids) (length_both key (opened_by t ids paths) (keys_without_id t paths) _ (counted ids))

      with_identity : (id : Id) → is_some key ≡ true → Counts (Some id)
      with_identity id is_file = by_test (has_id ids id)
          (λ there. rw there (counted (ids ++ id ∷ []) ∙ ap (λ l. length (keys_without_id t paths) + distinct_count same_id l) (none_more ids id (ids_at t paths) there)))
          (λ none.
          let rest = counted (ids ++ id ∷ []) in
          let one = length_one key (opened_by t (ids ++ id ∷ []) paths) is_file in
          let more = first_counted id (new_ids ids (ids_at t paths)) in
          let same = ap (distinct_count same_id) (one_more ids id (ids_at t paths)) in
          rw none (omega (arith, rest, one, more, same)))

      counts : Counts (id_at t path)
      counts = by (id_at t path) refl
        where
          by : (o : Option Id) → id_at t path ≡ o → Counts o
          by None at = no_identity
          by (Some id) at = with_identity id (has_key (node_at t path) id at)

  count : (paths : List (List ℕ)) (ids : List Id) → length (opened_by t ids paths) ≡ length (keys_without_id t paths) + distinct_count same_id (new_ids ids (ids_at t paths))
  count [] ids = refl
  count (path ∷ paths) ids = counts path paths ids (count paths)

  unstamped_are : (stamps : List Stamp) (ids : List Id) → new_ids (ids_of stamps) ids ≡ filter (λ id. is_none (stamp_of stamps id)) ids
  unstamped_are stamps [] = refl
  unstamped_are stamps (id ∷ ids) =
      ap (λ b. cond b (id ∷ new_ids (ids_of stamps) ids) (new_ids (ids_of stamps) ids)) (ap not (ids_stamped stamps id) ∙ not_some (stamp_of stamps id))
      ∙ ap (λ l. cond (is_none (stamp_of stamps id)) (id ∷ l) l) (unstamped_are stamps ids)
    where
      not_some : (o : Option Stamp) → not (is_some o) ≡ is_none o
      not_some None = refl
      not_some (Some s) = refl

  pub opened_by_count : (stamps : List Stamp) (paths : List (List ℕ)) → length (opened_by t (ids_of stamps) paths) ≡ opens t stamps paths
  opened_by_count stamps paths =
      count paths (ids_of stamps) ∙ ap (λ l. length (keys_without_id t paths) + distinct_count same_id l) (unstamped_are stamps (ids_at t paths))

  pub opened_count : (stamps : List Stamp) (paths : List (List ℕ)) → AreSorted paths → length (opened_keys t (ids_of stamps) paths) ≡ opens t stamps paths
  opened_count stamps paths sorted = ap length (opened_are t (ids_of stamps) paths sorted) ∙ opened_by_count stamps paths
