-- A lookup in a written cache finds the same path as the search of the directories: the first matching cache entry has the path that the
-- search finds.
use Rattle.std.proofs.Common.{◌≡◌, ◌<◌, ◌≤◌, ◌+◌, ◌==◌, ℕ, zero, suc, pos, if◌then◌else◌, nat_eq, Bool, true, false, cond, ◌&&◌, nat_lt, List, [], ◌∷◌, length, get_or, map, refl, ap, sym, subst, ◌∙◌, Option, Some, None, arith}
use Rattle.std.proofs.lemmas.Bool.Decides.{nat_tests}
use Rattle.std.proofs.lemmas.List.{get_or-map, length-map}
use Rattle.std.proofs.lemmas.List.Elements.{All-cons, All-head, All-map, All-nil, All-tail}
use Rattle.std.proofs.lemmas.List.Folds.{find_at}
use Rattle.std.proofs.lemmas.Option.{cond_some, slice_get_past}
use Rattle.std.specs.List.{All, find, position, position_or_len, slice_index}
use Rattle.std.specs.List.Sorted.{IsSorted}
use Rattle.std.specs.Option.{is_some, option_and_then, option_map, option_map_or, option_or}
use Rattle.std.specs.Ordering.{int_eq, is_lt, ordering_then}
use Rattle.std.specs.Str.{bytes_eq}
use Rattle.std.specs.declared.cmp.Ordering.{Ordering}
use Rattle.std.specs.declared.cmp.Ordering.TheVariants.{Less, Equal, Greater}
use Rattle.hwcap_dirs.specs.declared.kinds.Scope.{Scope}
use Rattle.aux_cache.specs.declared.stamps.Stamp.{Stamp}
use Rattle.cache_entries.proofs.Led.{walk_by, walk_same}
use Rattle.cache_entries.specs.Entries.{AreEntriesOf, entry_order}
use Rattle.cache_entries.specs.Led.{is_entry_of, path_among}
use Rattle.cache_entries.specs.Walk.{first_value, in_turn, is_same_abi, is_same_cap}
use Rattle.cache_layout.specs.Layout.{is_named, name_index}
use Rattle.cache_lookup.specs.Scan.{AreDescending, chosen, first_for, is_candidate, is_for, has_no_hwcap, path_at, scan, uses}
use Rattle.cache_reader.specs.Cache.{CachedEntry, cap_of, entry_at, hwcap, indexes, name_offsets, read, text_at}
use Rattle.cache_writer.specs.CacheText.{hwcap_of, hwcaps_names}
use Rattle.cache_writer.specs.ReadBack.{as_read}
use Rattle.lib_types.proofs.SortedPairs.{by_test}
use Rattle.lib_types.specs.Abi.{flags_of}
use Rattle.lib_types.specs.declared.abi.Abi.{Abi}
use Rattle.lib_types.specs.declared.entry.Entry.{Entry}
use Rattle.name_order.specs.Order.{token_order}
use Rattle.tree_face.specs.Store.{Contents}
use Rattle.image_tree.specs.Tree.{Nodes}
use Rattle.library_search.specs.Judged.{judged}
use Rattle.library_search.specs.Ldconfig.{entries_in, places_in, planned_in, info_files, walk_in}
use Rattle.ldconfig_core.specs.Lookup.{FindsAsSearched}
use Rattle.lib_types.proofs.SameTexts.{turned}

-- ---- an item and its index

-- a lookup by index gives the same path
by_index : (L : List CachedEntry) (p : CachedEntry → Bool) → option_and_then (path_at L) (position p L) ≡ option_map (λ (e : CachedEntry). e.path) (find p L)
by_index L p = by_test (nat_lt (position_or_len p L) (length L))
    (λ e. rw e (ap (option_map (λ (e : CachedEntry). e.path)) (sym (find_at p L))))
    (λ e. rw e (sym (ap (option_map (λ (e : CachedEntry). e.path)) (find_at p L ∙ slice_get_past L (position_or_len p L) (past (position_or_len p L) (length L) e)))))
  where
    past : (m n : ℕ) → nat_lt m n ≡ false → n ≤ m
    past m n e = grind (arith, nat_tests)

-- each index of an item has a path
there : (L : List CachedEntry) (i : ℕ) → i < length L → path_at L i ≡ None → ⊥
there [] i h e = omega arith
there (x ∷ L) zero h e = absurd (cc)
there (x ∷ L) (suc i) h e = there L i (omega arith) e

module _ (L : List CachedEntry) (candidate : CachedEntry → Bool) where
  abbrev path_of_use : (CachedEntry → Bool) → Option (List ℕ)
  path_of_use u = option_map (λ (e : CachedEntry). e.path) (find (λ e. candidate e && u e) L)

  first_path : (us : List (CachedEntry → Bool)) → option_and_then (path_at L) (first_for L candidate us) ≡ first_value path_of_use us
  first_path [] = refl
  first_path (u ∷ us) =
      let p : CachedEntry → Bool = λ e. candidate e && u e in
      elim (position p L) as (λ o. position p L ≡ o → option_and_then (path_at L) (option_or o (first_for L candidate us)) ≡ option_or (path_of_use u) (first_value path_of_use us)) [
        | None ↦ λ e. first_path us ∙ ap (λ o. option_or o (first_value path_of_use us)) (ap (option_and_then (path_at L)) (sym e) ∙ by_index L p)
        | Some i ↦ λ e.
            let at : path_at L i ≡ path_of_use u = ap (option_and_then (path_at L)) (sym e) ∙ by_index L p in
            let within : i < length L = index_within p i e in
            at ∙ elim (path_of_use u) as (λ o. path_at L i ≡ o → o ≡ option_or o (first_value path_of_use us)) [
              | None ↦ λ none. absurd (there L i within none)
              | Some path ↦ λ some. refl
            ] at
      ] refl
    where
      below : (m n : ℕ) → nat_lt m n ≡ true → m < n
      below m n e = grind (arith, nat_tests)

      index_within : (p : CachedEntry → Bool) (i : ℕ) → position p L ≡ Some i → i < length L
      index_within p i e =
          let parts = cond_some (nat_lt (position_or_len p L) (length L)) (position_or_len p L) i e in
          subst (λ n. n < length L) parts.1 (below (position_or_len p L) (length L) parts.0)

-- ---- entries after reading the cache back

-- bit 62 is set exactly if an entry has a hwcaps name
each_named : (bytes : List ℕ) → All (λ (e : CachedEntry). is_named e.hwcap ≡ is_some e.cap) (read bytes)
unfolding entry_at
each_named bytes = All-map (λ (e : CachedEntry). is_named e.hwcap ≡ is_some e.cap) (entry_at bytes) (indexes bytes) (λ k d within. by (hwcap bytes (get_or (indexes bytes) k d)))
  where
    by : (n : ℕ) → is_named n ≡ is_some (cap_of bytes n)
    by n = elim (is_named n) as (λ b. b ≡ is_some (if b then Some (text_at bytes (slice_index (name_offsets bytes) (name_index n))) else None)) [ true ↦ refl | false ↦ refl ]

same_number : (m n : ℕ) → int_eq (pos m) (pos n) ≡ nat_eq m n
same_number m n = grind (arith, nat_tests)

module _ (names : List (List ℕ)) where
  abbrev IsMarked : Entry → Type 0
  IsMarked e = is_named (hwcap_of names e.cap) ≡ is_some e.cap

  all_marked : (entries : List Entry) → All (λ (e : CachedEntry). is_named e.hwcap ≡ is_some e.cap) (map (as_read names) entries) → All IsMarked entries
  all_marked [] all = All-nil IsMarked
  all_marked (e ∷ entries) all =
      let P : CachedEntry → Type 0 = λ e. is_named e.hwcap ≡ is_some e.cap in
      All-cons IsMarked e entries (All-head P (as_read names e) (map (as_read names) entries) all)
      (all_marked entries (All-tail P (as_read names e) (map (as_read names) entries) all))

  module _ (name : List ℕ) (abi : Abi) where
    -- a candidate for a use is an entry with the name, the ABI and the hwcaps name of that use
    same_test : (e : Entry) (cap : Option (List ℕ)) (used : Bool) → used ≡ is_same_cap e.cap cap → (is_candidate name abi (as_read names e) && used) ≡ is_entry_of name abi cap e
    same_test e cap used same =
        ap (λ u. is_candidate name abi (as_read names e) && u) same
        ∙ ap (λ b. (bytes_eq e.soname name && b) && is_same_cap e.cap cap) (same_number (flags_of e.abi) (flags_of abi))
        ∙ grouped (bytes_eq e.soname name) (is_same_abi e.abi abi) (is_same_cap e.cap cap)
      where
        grouped : (a b c : Bool) → ((a && b) && c) ≡ (a && (b && c))
        grouped true b c = refl
        grouped false b c = refl

    used_for : (cap : List ℕ) (own : Option (List ℕ)) → is_named (hwcap_of names own) ≡ is_some own
        → (is_named (hwcap_of names own) && option_map_or (bytes_eq cap) own false) ≡ is_same_cap own (Some cap)
    used_for cap None marked = refl
    used_for cap (Some name) marked = rw marked (turned name cap)

    used_plain : (own : Option (List ℕ)) → is_named (hwcap_of names own) ≡ is_some own → (hwcap_of names own == 0) ≡ is_same_cap own None
    used_plain None marked = refl
    used_plain (Some name) marked = by_test (hwcap_of names (Some name) == 0)
        (λ e.
        let zero : hwcap_of names (Some name) ≡ 0 = grind (arith, nat_tests) in
        let z : false ≡ true = ap is_named (sym zero) ∙ marked in absurd (cc))
        (λ e. e)

    find_read : (p : CachedEntry → Bool) (q : Entry → Bool) → ((e : Entry) → IsMarked e → p (as_read names e) ≡ q e) → (entries : List Entry) → All IsMarked entries
        → option_map (λ (e : CachedEntry). e.path) (find p (map (as_read names) entries)) ≡ option_map (λ (e : Entry). e.path) (find q entries)
    find_read p q same [] all = refl
    find_read p q same (e ∷ entries) all =
        ap (λ b. option_map (λ (e : CachedEntry). e.path) (cond b (Some (as_read names e)) (find p (map (as_read names) entries)))) (same e (All-head IsMarked e entries all))
        ∙ elim (q e) as (λ b. option_map (λ (e : CachedEntry). e.path) (cond b (Some (as_read names e)) (find p (map (as_read names) entries)))
        ≡ option_map (λ (e : Entry). e.path) (cond b (Some e) (find q entries))) [
          | true ↦ refl
          | false ↦ find_read p q same entries (All-tail IsMarked e entries all)
        ]

    module _ (entries : List Entry) (all : All IsMarked entries) where
      abbrev read_entries : List CachedEntry
      read_entries = map (as_read names) entries

      same_paths : (caps : List (List ℕ)) → first_value (path_of_use read_entries (is_candidate name abi)) (uses caps) ≡ first_value (path_among entries name abi) (in_turn caps)
      same_paths [] =
          ap (λ o. option_or o None) (find_read (λ e. is_candidate name abi e && has_no_hwcap e) (is_entry_of name abi None) (λ e m. same_test e None _ (used_plain e.cap m)) entries all)
      same_paths (cap ∷ caps) =
          ap (λ o. option_or o (first_value (path_of_use read_entries (is_candidate name abi)) (uses caps)))
          (find_read (λ e. is_candidate name abi e && is_for cap e) (is_entry_of name abi (Some cap)) (λ e m. same_test e (Some cap) _ (used_for cap e.cap m)) entries all)
          ∙ ap (option_or (path_among entries name abi (Some cap))) (same_paths caps)

      scanned : (caps : List (List ℕ)) → scan read_entries name abi caps ≡ first_value (path_among entries name abi) (in_turn caps)
      unfolding chosen
      scanned caps = first_path read_entries (is_candidate name abi) (uses caps) ∙ same_paths caps

  -- ---- the order of the entries

  not_above : (r s t : Ordering) → is_lt (ordering_then (ordering_then r s) t) ≡ false → is_lt r ≡ false
  not_above Less s t h = absurd (cc)
  not_above Equal s t h = refl
  not_above Greater s t h = refl

  descending : (entries : List Entry) → IsSorted entry_order entries → AreDescending (map (as_read names) entries)
  descending [] sorted = λ k d from within. absurd (omega arith)
  descending (e ∷ entries) sorted = λ k d from within.
      let all : List Entry = e ∷ entries in
      let size : length (map (as_read names) all) ≡ length all = length-map all (as_read names) in
      let next : get_or (map (as_read names) all) (k + 1) d ≡ as_read names (get_or all (k + 1) e) = get_or-map (as_read names) all (k + 1) e d (omega (arith, within, size)) in
      let here : get_or (map (as_read names) all) k d ≡ as_read names (get_or all k e) = get_or-map (as_read names) all k e d (omega (arith, within, size)) in
      let order = not_above (token_order (get_or all k e).soname (get_or all (k + 1) e).soname) _ _ (sorted k e from (omega (arith, within, size))) in
      ap (λ (a : CachedEntry). is_lt (token_order (get_or (map (as_read names) all) k d).name a.name)) next
      ∙ ap (λ (a : CachedEntry). is_lt (token_order a.name (get_or all (k + 1) e).soname)) here ∙ order

-- a cache that is read back as sorted entries has its names in the loader's order
pub names_descend : (entries : List Entry) (cache : List ℕ) → IsSorted entry_order entries → read cache ≡ map (as_read (hwcaps_names entries)) entries → AreDescending (read cache)
names_descend entries cache sorted back = subst (λ (es : List CachedEntry). AreDescending es) (sym back) (descending (hwcaps_names entries) entries sorted)

-- ---- the cache of an image

module _ (scope : Scope) (held : Contents) (t : Nodes) (loaded : List Stamp) where
  pub searched : (entries : List Entry) (cache : List ℕ) → AreEntriesOf (entries_in scope held t loaded) entries → read cache ≡ map (as_read (hwcaps_names entries)) entries
      → FindsAsSearched scope held t loaded cache
  unfolding entries_in walk_in
  searched entries cache are back name abi caps =
      let names : List (List ℕ) = hwcaps_names entries in
      let marked = all_marked names entries (subst (λ (es : List CachedEntry). All (λ (e : CachedEntry). is_named e.hwcap ≡ is_some e.cap) es) back (each_named cache)) in
      ap (λ (es : List CachedEntry). scan es name abi caps) back ∙ scanned names name abi entries marked caps
      ∙ sym (walk_by name abi caps (judged scope (info_files scope held t loaded)) (planned_in scope held t loaded) (places_in scope held t) entries are)

  -- the search finds the same in an image with the same entries
  pub searched_too : (u : Nodes) (others : List Stamp) (cache : List ℕ) → entries_in scope held u others ≡ entries_in scope held t loaded → FindsAsSearched scope held t loaded cache → FindsAsSearched scope held u others cache
  unfolding entries_in walk_in
  searched_too u others cache same finds name abi caps =
      finds name abi caps
      ∙ sym (walk_same name abi caps (judged scope (info_files scope held t loaded)) (judged scope (info_files scope held u others)) (planned_in scope held t loaded) (planned_in scope held u others) (places_in scope held t) (places_in scope held u) same)
