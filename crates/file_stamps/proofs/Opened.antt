-- The keys that are opened, file by file.
use Rattle.std.proofs.Common.{◌≡◌, ◌≤◌, ◌+◌, ◌++◌, ◌||◌, if◌then◌else◌, ℕ, suc, Bool, true, false, cond, not, List, [], ◌∷◌, length, take, refl, ap, sym, subst, ◌∙◌, append_assoc, arith, Option, Some, None}
use Rattle.std.proofs.lemmas.List.{append-nil, length-append}
use Rattle.std.proofs.lemmas.List.Elements.{filter_map-append}
use Rattle.std.proofs.lemmas.List.Folds.{list_any-append}
use Rattle.std.proofs.lemmas.List.Sums.{fold-append}
use Rattle.std.proofs.lemmas.Map.Keys.{sorted_tail}
use Rattle.std.proofs.lemmas.Slice.Eq.{bytes_eq-Decides}
use Rattle.std.specs.Cmp.Lexicographic.{slice_cmp}
use Rattle.std.specs.List.{before_first, cons_option, filter_map, position_or_len}
use Rattle.std.specs.Option.{is_none, is_some, option_and_then, option_map, option_map_or, option_or}
use Rattle.std.specs.Ordering.{nat_cmp}
use Rattle.std.specs.Str.{bytes_eq}
use Rattle.aux_cache.proofs.Found.{first_of, stamp_of_both}
use Rattle.aux_cache.specs.Stamps.{put, stamp_of}
use Rattle.aux_cache.specs.declared.stamps.Stamp.{Stamp}
use Rattle.elf_dynamic.specs.Begun.{file_keys, key_in}
use Rattle.string_pool.proofs.Members.{AreSorted}
use Rattle.file_table.specs.Analyses.{AgreeOn, Analyses, KeepsAnalyses, unread}
use Rattle.file_table.specs.Table.{analysis_at}
use Rattle.image_tree.specs.Tree.{Nodes, node_at}
use Rattle.image_tree.specs.declared.node.Id.{Id}
use Rattle.lib_types.proofs.SortedPairs.{by_test}
use Rattle.tree_face.specs.Store.{Contents}
use Rattle.file_stamps.proofs.KeptAnalyses.{not_after}
use Rattle.file_stamps.specs.Files.{what_is}
use Rattle.file_stamps.specs.Opened.{HaveSameIds, has_id, ids_at, new_key, opened_keys, same_id}
use Rattle.file_stamps.specs.Reading.{HasInfo, HaveInfo, HasOpened, by_turn, is_in, keys_opened, made_by, opened_by}
use Rattle.file_stamps.specs.Info.{info_by, info_in, info_stamps}
use Rattle.file_stamps.specs.State.{ids_there}
use Rattle.file_stamps.specs.Stamped.{StampTheSame, id_at, of_stamp, stamp_at, stamp_by, stamp_for, stamps_at, with_stamps}
use Rattle.file_stamps.specs.declared.files.Files.{Files}
use Rattle.lib_types.proofs.SameTexts.{itself}

-- appending the same stamps to both lists keeps them alike
pub more_alike : (xs ys more : List Stamp) → StampTheSame xs ys → StampTheSame (xs ++ more) (ys ++ more)
more_alike xs ys more alike id = stamp_of_both xs more id ∙ ap (λ o. first_of o (stamp_of more id)) (alike id) ∙ sym (stamp_of_both ys more id)

-- alike lists have the same stamp for a file's identity
pub for_alike : (t : Nodes) (xs ys : List Stamp) (path : List ℕ) → StampTheSame xs ys → stamp_for xs t path ≡ stamp_for ys t path
for_alike t xs ys path alike = by (id_at t path)
  where
    by : (o : Option Id) → option_and_then (stamp_of xs) o ≡ option_and_then (stamp_of ys) o
    by None = refl
    by (Some id) = alike id

cons_more : {X : Type 0} (o : Option X) (xs ys : List X) → cons_option o (xs ++ ys) ≡ cons_option o xs ++ ys
cons_more None xs ys = refl
cons_more (Some x) xs ys = refl

-- ---- a result for each file, computed file by file

module _ (S : Type 0) (adds : List ℕ → Option S) where
  -- what is there after these files
  abbrev with_those : List S → List (List ℕ) → List S
  with_those there paths = there ++ filter_map adds paths

  those_after : (there : List S) (path : List ℕ) (paths : List (List ℕ)) → with_those (there ++ cons_option (adds path) []) paths ≡ with_those there (path ∷ paths)
  those_after there path paths =
      append_assoc there (cons_option (adds path) []) (filter_map adds paths)
      ∙ ap (λ l. there ++ l) (sym (cons_more (adds path) [] (filter_map adds paths)))

  those_both : (there : List S) (xs ys : List (List ℕ)) → with_those (with_those there xs) ys ≡ with_those there (xs ++ ys)
  those_both there xs ys =
      append_assoc there (filter_map adds xs) (filter_map adds ys) ∙ ap (λ l. there ++ l) (sym (filter_map-append adds xs ys))

  module _ (X : Type 0) (f : List S → List ℕ → Option X) where
    abbrev turns : List S → List (List ℕ) → List X
    turns there paths = by_turn adds f there paths

    -- a result depends only on what `Alike` compares
    module _ (Alike : List S → List S → Type 0) (more : (xs ys zs : List S) → Alike xs ys → Alike (xs ++ zs) (ys ++ zs))
        (respects : (xs ys : List S) (path : List ℕ) → Alike xs ys → f xs path ≡ f ys path) where
      turns_alike : (xs ys : List S) (paths : List (List ℕ)) → Alike xs ys → turns xs paths ≡ turns ys paths
      turns_alike xs ys [] alike = refl
      turns_alike xs ys (path ∷ paths) alike =
          let next = cons_option (adds path) [] in
          ap (λ o. cons_option o (turns (xs ++ next) paths)) (respects xs ys path alike)
          ∙ ap (λ l. cons_option (f ys path) l) (turns_alike (xs ++ next) (ys ++ next) paths (more xs ys next alike))

    turns_append : (there : List S) (xs ys : List (List ℕ)) → turns there (xs ++ ys) ≡ turns there xs ++ turns (with_those there xs) ys
    turns_append there [] ys = ap (λ l. turns l ys) (sym (append-nil there))
    turns_append there (x ∷ xs) ys =
        let next = there ++ cons_option (adds x) [] in
        ap (λ l. cons_option (f there x) l) (turns_append next xs ys ∙ ap (λ l. turns next xs ++ turns l ys) (those_after there x xs))
        ∙ cons_more (f there x) (turns next xs) (turns (with_those there (x ∷ xs)) ys)

-- ---- the files before a given file

take_more : (n : ℕ) (y : List ℕ) (ys : List (List ℕ)) → take (1 + n) (y ∷ ys) ≡ y ∷ take n ys
take_more n y ys = let e : 1 + n ≡ suc n = omega arith in ap (λ k. take k (y ∷ ys)) e

first_here : (x y : List ℕ) (ys : List (List ℕ)) → bytes_eq x y ≡ true → before_first (bytes_eq x) (y ∷ ys) ≡ []
first_here x y ys e = ap (λ b. take (cond (not b) (1 + position_or_len (bytes_eq x) ys) 0) (y ∷ ys)) e

first_later : (x y : List ℕ) (ys : List (List ℕ)) → bytes_eq x y ≡ false → before_first (bytes_eq x) (y ∷ ys) ≡ y ∷ before_first (bytes_eq x) ys
first_later x y ys e = ap (λ b. take (cond (not b) (1 + position_or_len (bytes_eq x) ys) 0) (y ∷ ys)) e ∙ take_more (position_or_len (bytes_eq x) ys) y ys

-- the first occurrence of a path in two joined lists
pub before_front : (x : List ℕ) (xs ys : List (List ℕ)) → is_in xs x ≡ true → before_first (bytes_eq x) (xs ++ ys) ≡ before_first (bytes_eq x) xs
before_front x [] ys there = absurd (cc)
before_front x (y ∷ xs) ys there = by_test (bytes_eq x y)
    (λ e. first_here x y (xs ++ ys) e ∙ sym (first_here x y xs e))
    (λ e.
    first_later x y (xs ++ ys) e
    ∙ ap (λ l. y ∷ l) (before_front x xs ys (sym (ap (λ b. b || is_in xs x) e) ∙ there))
    ∙ sym (first_later x y xs e))

pub before_after : (x : List ℕ) (xs ys : List (List ℕ)) → is_in xs x ≡ false → before_first (bytes_eq x) (xs ++ ys) ≡ xs ++ before_first (bytes_eq x) ys
before_after x [] ys out = refl
before_after x (y ∷ xs) ys out = by_test (bytes_eq x y)
    (λ e. let z : true ≡ false = sym (ap (λ b. b || is_in xs x) e) ∙ out in absurd (cc))
    (λ e. first_later x y (xs ++ ys) e ∙ ap (λ l. y ∷ l) (before_after x xs ys (sym (ap (λ b. b || is_in xs x) e) ∙ out)))

before_it : (x : List ℕ) (xs ys : List (List ℕ)) → is_in xs x ≡ false → before_first (bytes_eq x) (xs ++ x ∷ ys) ≡ xs
before_it x xs ys out = before_after x xs (x ∷ ys) out ∙ ap (λ l. xs ++ l) (first_here x x ys (itself x)) ∙ append-nil xs

second : (a b : Bool) → b ≡ true → (a || b) ≡ true
second true b e = refl
second false b e = e

differs : (q x : List ℕ) (xs : List (List ℕ)) → is_in xs q ≡ true → is_in xs x ≡ false → bytes_eq q x ≡ false
differs q x xs there out = by_test (bytes_eq q x)
    (λ e. let z : true ≡ false = sym there ∙ ap (λ p. is_in xs p) ((bytes_eq-Decides q x).0 e) ∙ out in absurd (cc))
    (λ e. e)

-- ---- some of the files were read, and the others follow in order

module _ (all : List (List ℕ)) where
  record AreLeft (ahead rest : List (List ℕ)) : Type 0 where
    whole : all ≡ ahead ++ rest
    sorted : AreSorted rest
    differ : (q : List ℕ) → is_in rest q ≡ true → is_in ahead q ≡ false

  module _ (x : List ℕ) (ahead rest : List (List ℕ)) (left : AreLeft ahead (x ∷ rest)) where
    turn_is : before_first (bytes_eq x) all ≡ ahead
    turn_is = ap (λ l. before_first (bytes_eq x) l) left.whole ∙ before_it x ahead rest (left.differ x (ap (λ b. b || is_in rest x) (itself x)))

    next_left : AreLeft (ahead ++ x ∷ []) rest
    next_left = record {
      whole = left.whole ∙ sym (append_assoc ahead (x ∷ []) rest);
      sorted = sorted_tail (slice_cmp nat_cmp) x rest left.sorted;
      differ = λ q there.
          list_any-append (bytes_eq q) ahead (x ∷ [])
          ∙ ap (λ b. b || (bytes_eq q x || false)) (left.differ q (second (bytes_eq q x) (is_in rest q) there))
          ∙ ap (λ b. b || false) (differs q x rest there (not_after x rest left.sorted));
    }

  module _ (S : Type 0) (adds : List ℕ → Option S) (X : Type 0) (f : List S → List ℕ → Option X) (there : List S) where
    abbrev at_turn : List ℕ → Option X
    at_turn path = f (with_those S adds there (before_first (bytes_eq path) all)) path

    turns_left : (ahead rest : List (List ℕ)) → AreLeft ahead rest → filter_map at_turn rest ≡ by_turn adds f (with_those S adds there ahead) rest
    turns_left ahead [] left = refl
    turns_left ahead (x ∷ rest) left =
        ap (λ l. cons_option (f (with_those S adds there l) x) (filter_map at_turn rest)) (turn_is x ahead rest left)
        ∙ ap (λ l. cons_option (f (with_those S adds there ahead) x) l)
        (turns_left (ahead ++ x ∷ []) rest (next_left x ahead rest left) ∙ ap (λ l. by_turn adds f l rest) (sym (those_both S adds there ahead (x ∷ []))))

all_left : (paths : List (List ℕ)) → AreSorted paths → AreLeft paths [] paths
all_left paths sorted = record { whole = refl; sorted = sorted; differ = λ q there. refl }

-- ---- the keys that are opened

pub more_ids : (xs ys more : List Id) → HaveSameIds xs ys → HaveSameIds (xs ++ more) (ys ++ more)
more_ids xs ys more same id =
    list_any-append (same_id id) xs more ∙ ap (λ b. b || has_id more id) (same id) ∙ sym (list_any-append (same_id id) ys more)

module _ (t : Nodes) where
  abbrev key_by : Option (List ℕ) → Bool → Option (List ℕ)
  key_by key known = if known then None else key

  new_alike : (xs ys : List Id) (path : List ℕ) → HaveSameIds xs ys → new_key t xs path ≡ new_key t ys path
  new_alike xs ys path same = ap (key_by (key_in (node_at t path))) (by (id_at t path))
    where
      by : (o : Option Id) → option_map_or (has_id xs) o false ≡ option_map_or (has_id ys) o false
      by None = refl
      by (Some id) = same id

  pub opened_alike : (xs ys : List Id) (paths : List (List ℕ)) → HaveSameIds xs ys → opened_by t xs paths ≡ opened_by t ys paths
  opened_alike xs ys paths same = turns_alike Id (id_at t) (List ℕ) (new_key t) HaveSameIds more_ids new_alike xs ys paths same

  pub opened_append : (ids : List Id) (xs ys : List (List ℕ)) → opened_by t ids (xs ++ ys) ≡ opened_by t ids xs ++ opened_by t (ids ++ ids_at t xs) ys
  opened_append ids xs ys = turns_append Id (id_at t) (List ℕ) (new_key t) ids xs ys

  pub opened_are : (ids : List Id) (paths : List (List ℕ)) → AreSorted paths → opened_keys t ids paths ≡ opened_by t ids paths
  opened_are ids paths sorted =
      turns_left paths Id (id_at t) (List ℕ) (new_key t) ids [] paths (all_left paths sorted) ∙ ap (λ l. opened_by t l paths) (append-nil ids)

  -- one file
  pub one_opened : (ids : List Id) (what : Analyses) (path : List ℕ) → keys_opened t ids what path ≡ opened_by t ids (unread what (path ∷ []))
  one_opened ids what path = by (is_none (what path))
    where
      by : (b : Bool) → cons_option (cond b (new_key t ids path) None) [] ≡ opened_by t ids (cond b (path ∷ []) [])
      by true = refl
      by false = refl

  -- at most one key for each file
  pub opened_few : (ids : List Id) (paths : List (List ℕ)) → length (opened_by t ids paths) ≤ length (file_keys t paths)
  opened_few ids [] = omega arith
  opened_few ids (path ∷ paths) =
      by (option_map_or (has_id ids) (id_at t path) false) (key_in (node_at t path)) (opened_few next paths)
    where
      next : List Id
      next = ids ++ cons_option (id_at t path) []

      by : (known : Bool) (key : Option (List ℕ)) → length (opened_by t next paths) ≤ length (file_keys t paths)
          → length (cons_option (key_by key known) (opened_by t next paths)) ≤ length (cons_option key (file_keys t paths))
      by true None few = few
      by false None few = few
      by true (Some key) few = omega (arith, few)
      by false (Some key) few = omega (arith, few)

  -- two consecutive readings compose
  pub opened_then : (loaded : List Stamp) (xs ys ks ls : List (List ℕ)) (a b c : Files) → HasOpened t loaded xs ks a b → HasOpened t loaded ys ls b c → HasOpened t loaded (xs ++ ys) (ks ++ ls) a c
  opened_then loaded xs ys ks ls a b c first next =
      let here : List Id = ids_there loaded a in
      let following : List Id = here ++ ids_at t xs in
      record {
        keys_are = ap (λ l. l ++ ls) first.keys_are
            ∙ ap (λ l. opened_by t here xs ++ l) (next.keys_are ∙ opened_alike (ids_there loaded b) following ys first.ids)
            ∙ sym (opened_append here xs ys);
        ids = λ id.
            next.ids id
            ∙ more_ids (ids_there loaded b) following (ids_at t ys) first.ids id
            ∙ ap (λ l. has_id l id) (those_both Id (id_at t) here xs ys);
        begun = omega (arith, first.begun, next.begun, length-append ks ls);
      }

-- ---- the analyses from stamps or contents

module _ (held : Contents) (t : Nodes) where
  abbrev stamp_with : List Stamp → List ℕ → Option Stamp
  stamp_with stamps path = stamp_by (id_at t path) (info_by held t stamps path)

  pub info_alike : (xs ys : List Stamp) (path : List ℕ) → StampTheSame xs ys → info_by held t xs path ≡ info_by held t ys path
  info_alike xs ys path alike = ap (λ o. option_or (option_map of_stamp o) (what_is held t path)) (for_alike t xs ys path alike)

  made_alike : (xs ys : List Stamp) (paths : List (List ℕ)) → StampTheSame xs ys → made_by held t xs paths ≡ made_by held t ys paths
  made_alike xs ys paths alike = turns_alike Stamp (stamp_at held t) Stamp stamp_with StampTheSame more_alike
      (λ xs ys path alike. ap (λ w. stamp_by (id_at t path) w) (info_alike xs ys path alike)) xs ys paths alike

  made_append : (stamps : List Stamp) (xs ys : List (List ℕ)) → made_by held t stamps (xs ++ ys) ≡ made_by held t stamps xs ++ made_by held t (stamps ++ stamps_at held t xs) ys
  made_append stamps xs ys = turns_append Stamp (stamp_at held t) Stamp stamp_with stamps xs ys

  pub made_are : (stamps : List Stamp) (paths : List (List ℕ)) → AreSorted paths → info_stamps t (info_in held t stamps paths) paths ≡ made_by held t stamps paths
  made_are stamps paths sorted =
      turns_left paths Stamp (stamp_at held t) Stamp stamp_with stamps [] paths (all_left paths sorted) ∙ ap (λ l. made_by held t l paths) (append-nil stamps)

  keeps_info : (what new : Analyses) → KeepsAnalyses what new → (stamps : List Stamp) (paths : List (List ℕ)) → HaveInfo held t stamps paths what → HaveInfo held t stamps paths new
  keeps_info what new keeps stamps [] info = tt
  keeps_info what new keeps stamps (path ∷ paths) ((there, is), rest) =
      let same = keeps path there in
      ((ap is_some same ∙ there, same ∙ is), keeps_info what new keeps (stamps ++ stamps_at held t (path ∷ [])) paths rest)

  are_info_alike : (what : Analyses) (xs ys : List Stamp) (paths : List (List ℕ)) → StampTheSame xs ys → HaveInfo held t xs paths what → HaveInfo held t ys paths what
  are_info_alike what xs ys [] alike info = tt
  are_info_alike what xs ys (path ∷ paths) alike ((there, is), rest) =
      ((there, is ∙ info_alike xs ys path alike), are_info_alike what (xs ++ stamps_at held t (path ∷ [])) (ys ++ stamps_at held t (path ∷ [])) paths (more_alike xs ys _ alike) rest)

  info_append : (what : Analyses) (stamps : List Stamp) (xs ys : List (List ℕ)) → HaveInfo held t stamps xs what → HaveInfo held t (stamps ++ stamps_at held t xs) ys what
      → HaveInfo held t stamps (xs ++ ys) what
  info_append what stamps [] ys first next = subst (λ (l : List Stamp). HaveInfo held t l ys what) (append-nil stamps) next
  info_append what stamps (x ∷ xs) ys (is, rest) next =
      (is, info_append what (stamps ++ stamps_at held t (x ∷ [])) xs ys rest (subst (λ (l : List Stamp). HaveInfo held t l ys what) (sym (those_after Stamp (stamp_at held t) stamps x xs)) next))

  -- two consecutive readings compose
  pub info_then : (loaded : List Stamp) (xs ys : List (List ℕ)) (a b c : Files) → KeepsAnalyses (analysis_at b.table) (analysis_at c.table)
      → HasInfo held t loaded xs a b → HasInfo held t loaded ys b c → HasInfo held t loaded (xs ++ ys) a c
  info_then loaded xs ys a b c keeps first next =
      let here : List Stamp = loaded ++ a.stamps in
      let following : List Stamp = here ++ stamps_at held t xs in
      record {
        stamped = λ id.
            next.stamped id
            ∙ more_alike (loaded ++ b.stamps) following (stamps_at held t ys) first.stamped id
            ∙ ap (λ l. stamp_of l id) (those_both Stamp (stamp_at held t) here xs ys);
        stamps = next.stamps
            ∙ ap (λ l. with_stamps l (made_by held t (loaded ++ b.stamps) ys)) first.stamps
            ∙ ap (λ l. with_stamps (with_stamps a.stamps (made_by held t here xs)) l) (made_alike (loaded ++ b.stamps) following ys first.stamped)
            ∙ sym (fold-append put a.stamps (made_by held t here xs) (made_by held t following ys))
            ∙ ap (λ l. with_stamps a.stamps l) (sym (made_append here xs ys));
        info = info_append (analysis_at c.table) here xs ys
            (keeps_info (analysis_at b.table) (analysis_at c.table) keeps here xs first.info)
            (are_info_alike (analysis_at c.table) (loaded ++ b.stamps) following ys first.stamped next.info);
      }

  module _ (stamps : List Stamp) (all : List (List ℕ)) where
    info_left : (what : Analyses) (ahead rest : List (List ℕ)) → AreLeft all ahead rest → HaveInfo held t (stamps ++ stamps_at held t ahead) rest what → AgreeOn rest (info_in held t stamps all) what
    info_left what ahead [] left info q there = absurd (cc)
    info_left what ahead (x ∷ rest) left ((some, is), info) q there = by_test (bytes_eq q x)
        (λ e.
        let same : q ≡ x = (bytes_eq-Decides q x).0 e in
        let here : what x ≡ info_in held t stamps all x = is ∙ ap (λ l. info_by held t (stamps ++ stamps_at held t l) x) (sym (turn_is all x ahead rest left)) in
        subst (λ (p : List ℕ). what p ≡ info_in held t stamps all p) (sym same) here)
        (λ e.
        info_left what (ahead ++ x ∷ []) rest (next_left all x ahead rest left) (subst (λ (l : List Stamp). HaveInfo held t l rest what) (those_both Stamp (stamp_at held t) stamps ahead (x ∷ [])) info) q
        (sym (ap (λ b. b || is_in rest q) e) ∙ there))

  pub info_are : (what : Analyses) (stamps : List Stamp) (paths : List (List ℕ)) → AreSorted paths → HaveInfo held t stamps paths what → AgreeOn paths (info_in held t stamps paths) what
  info_are what stamps paths sorted info =
      info_left stamps paths what [] paths (all_left paths sorted) (subst (λ (l : List Stamp). HaveInfo held t l paths what) (sym (append-nil stamps)) info)
