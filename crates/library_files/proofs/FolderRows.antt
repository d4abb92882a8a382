-- The directories that the search directories resolve to: adding a search directory, and the results for each directory.
use Rattle.std.proofs.Common.{◌≡◌, ◌⊎◌, inl, inr, get_or, ◌<◌, ◌≤◌, ◌+◌, ◌||◌, ℕ, zero, suc, Bool, true, false, cond, not, nat_eq, List, [], ◌∷◌, ◌++◌, length, map, take, refl, ap, sym, ◌∙◌, Option, Some, None, MatchOption, arith}
use Rattle.std.proofs.lemmas.Bool.{cases_lt, or_left, or_parts, or_right}
use Rattle.std.proofs.lemmas.Bool.Decides.{nat_tests}
use Rattle.std.proofs.lemmas.List.{append-nil, length-append, map-append, take_more}
use Rattle.std.proofs.lemmas.List.Elements.{filter_map-append}
use Rattle.std.proofs.lemmas.List.Folds.{flat_map-map, list_any-append, list_any_at}
use Rattle.std.proofs.lemmas.List.Quantifiers.{position-Some}
use Rattle.std.proofs.lemmas.Option.{slice_get-get_or, slice_get_within}
use Rattle.std.proofs.lemmas.Slice.Eq.{bytes_eq-Decides}
use Rattle.std.specs.List.{cons_option, flat_map, list_any, position, position_or_len, slice_get}
use Rattle.std.specs.Option.{is_some}
use Rattle.std.specs.Str.{bytes_eq}
use Rattle.hwcap_dirs.specs.declared.kinds.Place.{Place}
use Rattle.lib_types.proofs.SortedPairs.{by_test}
use Rattle.image_tree.specs.Tree.{Nodes}
use Rattle.indexmap.specs.IndexSet.{insert_key}
use Rattle.string_pool.proofs.WithoutRepeats.{distinct_push}
use Rattle.string_pool.proofs.EachOnce.{ascending_alike, each_alike, taken_made}
use Rattle.string_pool.proofs.InByteOrder.{any_ascending}
use Rattle.string_pool.specs.Order.{ascending}
use Rattle.library_files.specs.RealFolders.{HaveRows, IsRowOf}
use Rattle.library_files.specs.Search.{files_at, files_in, followed, links_at}
use Rattle.library_files.specs.declared.links.FolderLinks.{FolderLinks}
use Rattle.string_pool.specs.Shared.{taken, AreRows, AreWithin, HaveSame}

-- ---- rows stay valid when items are added

same_row : {X : Type 0} (xs more : List X) (row : ℕ) → row < length xs → slice_get (xs ++ more) row ≡ slice_get xs row
same_row [] more row h = absurd (omega arith)
same_row (x ∷ xs) more zero h = refl
same_row (x ∷ xs) more (suc row) h = same_row xs more row (omega arith)

taken_same : {X : Type 0} (xs more : List X) (rows : List ℕ) → AreWithin (length xs) rows → taken (xs ++ more) rows ≡ taken xs rows
taken_same xs more [] h = refl
taken_same xs more (row ∷ rows) h =
    ap (λ o. cons_option o (taken (xs ++ more) rows)) (same_row xs more row h.0) ∙ ap (cons_option (slice_get xs row)) (taken_same xs more rows h.1)

still_within : (count more : ℕ) (rows : List ℕ) → count ≤ more → AreWithin count rows → AreWithin more rows
still_within count more [] le h = tt
still_within count more (row ∷ rows) le h = (omega arith, still_within count more rows le h.1)

within_push : (count : ℕ) (rows : List ℕ) (row : ℕ) → AreWithin count rows → row < count → AreWithin count (rows ++ row ∷ [])
within_push count [] row h lt = (lt, tt)
within_push count (r ∷ rows) row h lt = (h.0, within_push count rows row h.1 lt)

taken_one : {X : Type 0} (xs : List X) (row : ℕ) (x : X) → slice_get xs row ≡ Some x → taken xs (row ∷ []) ≡ x ∷ []
taken_one xs row x e = ap (λ o. cons_option o []) e

-- ---- the row of a path

row_last : (p : List ℕ → Bool) (xs : List (List ℕ)) → list_any p xs ≡ false → position_or_len p xs ≡ length xs
row_last p [] h = refl
row_last p (x ∷ xs) h =
    let parts = or_parts (p x) (list_any p xs) h in
    let rest = row_last p xs parts.1 in
    ap (λ b. cond (not b) (1 + position_or_len p xs) 0) parts.0 ∙ (omega arith)

module _ (old : List (List ℕ)) (path : List ℕ) (row : ℕ) where
  pub row_found : position (bytes_eq path) old ≡ Some row → IsRowOf old path row old
  row_found e =
      let at = position-Some (bytes_eq path) old row path e in
      let there : list_any (bytes_eq path) old ≡ true = list_any_at (bytes_eq path) old row path at.0 at.1 in
      let same : path ≡ get_or old row path = (bytes_eq-Decides path (get_or old row path)).0 at.1 in
      record {
        keys = sym (ap (λ b. cond b old (old ++ path ∷ [])) there);
        stored = slice_get-get_or old row path at.0 ∙ ap Some (sym same);
        kept = inl refl;
      }

  pub row_put : (new : List (List ℕ)) → new ≡ insert_key bytes_eq old path → row ≡ position_or_len (bytes_eq path) old
      → (k : List ℕ) × (slice_get new row ≡ Some k) × (bytes_eq path k ≡ true) → IsRowOf old path row new
  row_put new keys at stored = record {
    keys = keys;
    stored = stored.1 ∙ ap Some (sym ((bytes_eq-Decides path stored.0).0 stored.2));
    kept = by_test (list_any (bytes_eq path) old)
        (λ h. inl (keys ∙ ap (λ b. cond b old (old ++ path ∷ [])) h))
        (λ h. inr ((keys ∙ ap (λ b. cond b old (old ++ path ∷ [])) h), (at ∙ row_last (bytes_eq path) old h)));
  }

-- if a search returns a row, the row has the text; if it returns None, the list doesn't have the text
pub row_or_none : (texts : List (List ℕ)) (text : List ℕ) (o : Option ℕ) → o ≡ position (bytes_eq text) texts → is_some o ≡ list_any (bytes_eq text) texts
    → MatchOption o (list_any (bytes_eq text) texts ≡ false) (λ row. slice_get texts row ≡ Some text)
row_or_none texts text None at there = sym there
row_or_none texts text (Some row) at there = (row_found texts text row (sym at)).stored

-- ---- adding a path

module _ (paths old new : List (List ℕ)) (rows : List ℕ) (path : List ℕ) (row : ℕ) where
  first_used : AreRows (length old) rows → (other : ℕ) → other < length old → list_any (nat_eq other) (rows ++ row ∷ []) ≡ true
  first_used are other lt = list_any-append (nat_eq other) rows (row ∷ []) ∙ or_left (list_any (nat_eq other) rows) (list_any (nat_eq other) (row ∷ [])) (are.used other lt)

  last_used : (other : ℕ) → other ≡ row → list_any (nat_eq other) (rows ++ row ∷ []) ≡ true
  last_used other e =
      let here : nat_eq other row ≡ true = grind (arith, nat_tests) in
      list_any-append (nat_eq other) rows (row ∷ [])
      ∙ or_right (list_any (nat_eq other) rows) (list_any (nat_eq other) (row ∷ [])) (ap (λ b. b || list_any (nat_eq other) []) here)

  pub row_more : HaveRows paths old rows → IsRowOf old path row new → HaveRows (paths ++ path ∷ []) new (rows ++ row ∷ [])
  row_more have is =
      let last = slice_get_within new row path is.stored in
      record {
        once = is.keys ∙ ap (λ ks. insert_key bytes_eq ks path) have.once ∙ sym (distinct_push paths path);
        rows = elim is.kept [
          | inl e ↦
              let count : length new ≡ length old = ap length e in
              record {
                within = within_push (length new) rows row (still_within (length old) (length new) rows (omega arith) have.rows.within) last;
                used = λ other lt. first_used have.rows other (omega arith);
              }
          | inr e ↦
              let count : length new ≡ length old + 1 = ap length e.0 ∙ length-append old (path ∷ []) in
              record {
                within = within_push (length new) rows row (still_within (length old) (length new) rows (omega arith) have.rows.within) last;
                used = λ other lt. by_end have.rows other (omega arith) e.1;
              }
        ];
        are = filter_map-append (slice_get new) rows (row ∷ []) ∙ ap (λ xs. taken new rows ++ xs) (taken_one new row path is.stored)
            ∙ ap (λ xs. xs ++ path ∷ []) (before is.kept have.rows.within ∙ have.are);
      }
    where
      by_end : AreRows (length old) rows → (other : ℕ) → other < length old + 1 → row ≡ length old → list_any (nat_eq other) (rows ++ row ∷ []) ≡ true
      by_end are other lt e = elim (cases_lt other (length old)) [
        | inl l ↦ first_used are other l
        | inr l ↦ last_used other (omega arith)
      ]

      before : (new ≡ old) ⊎ ((new ≡ old ++ path ∷ []) × (row ≡ length old)) → AreWithin (length old) rows → taken new rows ≡ taken old rows
      before (inl e) within = ap (λ xs. taken xs rows) e
      before (inr e) within = ap (λ xs. taken xs rows) e.0 ∙ taken_same old (path ∷ []) rows within

-- ---- the results for each directory

abbrev pub reals : List Place → List (List ℕ)
reals places = map (λ place. place.real) places

pub place_more : (places : List Place) (i : ℕ) (place : Place) → i < length places → place ≡ get_or places i place
    → reals (take (i + 1) places) ≡ reals (take i places) ++ place.real ∷ []
place_more places i place h is =
    ap reals (take_more places i place h ∙ ap (λ p. take i places ++ p ∷ []) (sym is)) ∙ map-append (λ place. place.real) (take i places) (place ∷ [])

module _ {Y : Type 0} (f : List ℕ → Y) where
  made_by_place : (places : List Place) → map f (reals places) ≡ map (λ place. f place.real) places
  made_by_place [] = refl
  made_by_place (place ∷ places) = ap (λ ys. f place.real ∷ ys) (made_by_place places)

  -- the result for each search directory is the result for its resolved directory
  pub made_shared : (places : List Place) (folders : List (List ℕ)) (rows : List ℕ) (items : List Y) → HaveRows (reals places) folders rows → items ≡ map f folders
      → taken items rows ≡ map (λ place. f place.real) places
  made_shared places folders rows items have e =
      ap (λ ys. taken ys rows) e ∙ taken_made f folders rows ∙ ap (map f) have.are ∙ made_by_place places

-- ---- the files of each directory

-- the order of the directories doesn't matter
pub files_once : (t : Nodes) (places : List Place) (folders : List (List ℕ)) (rows : List ℕ) → HaveRows (reals places) folders rows
    → ascending (flat_map (files_at t) (ascending folders)) ≡ ascending (flat_map (files_in t) places)
files_once t places folders rows have =
    let same : HaveSame (ascending folders) (reals places) = λ test. any_ascending test folders ∙ each_alike folders rows have.rows test ∙ ap (list_any test) have.are in
    ascending_alike (files_at t) (ascending folders) (reals places) same ∙ ap ascending (flat_map-map (files_at t) (λ (place : Place). place.real) places)

pub links_once : (t : Nodes) (places : List Place) (folders : List (List ℕ)) (rows : List ℕ) (links : List FolderLinks) → HaveRows (reals places) folders rows
    → links ≡ map (links_at t) folders → taken links rows ≡ followed t places
unfolding followed
links_once t places folders rows links have e = made_shared (links_at t) places folders rows links have e

-- ---- loops over the search directories and the items for each

nothing_left : {Y : Type 0} (f : Place → Y) (places : List Place) → map f places ≡ [] → places ≡ []
nothing_left f [] e = refl
nothing_left f (place ∷ places) e = absurd (cc)

none_left : (places : List Place) → length places ≡ 0 → places ≡ []
none_left [] e = refl
none_left (place ∷ places) e = absurd (omega arith)

-- all of the lists end together
pub ended_together : {X Y Z W L M : Type 0} {P : X → Type 0} {Q : Z → Type 0} {R : W → Type 0} (f : Place → L) (g : Place → M) (places : List Place) (firsts : List L) (seconds : List M)
    → firsts ≡ map f places → seconds ≡ map g places
    → ((x : X) × (length places ≡ 0 × P x)) ⊎ (Y × (((x : Z) × (firsts ≡ [] × Q x)) ⊎ ((x : W) × (seconds ≡ [] × R x)))) → places ≡ []
ended_together f g places firsts seconds a b (inl e) = none_left places e.1.0
ended_together f g places firsts seconds a b (inr e) = elim e.1 [
  | inl first ↦ nothing_left f places (sym a ∙ first.1.0)
  | inr second ↦ nothing_left g places (sym b ∙ second.1.0)
]

-- at the end, what was found is the whole result
pub all_given : {Y : Type 0} (found whole : List Y) (f : List Place → List Y) (places : List Place) → f [] ≡ [] → places ≡ [] → found ++ f places ≡ whole → found ≡ whole
all_given found whole f places nothing none e = sym (ap (λ (ps : List Place). found ++ f ps) none ∙ ap (λ ys. found ++ ys) nothing ∙ append-nil found) ∙ e
