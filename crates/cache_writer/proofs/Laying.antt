-- The size of the strings of a cache, and the facts that the writer uses.
use Rattle.std.proofs.Common.{◌≡◌, ◌≤◌, ◌<◌, ◌+◌, ◌*◌, ℕ, List, [], ◌∷◌, ◌++◌, length, flat_map, map, ap, sym, ◌∙◌, bytes_eq, arith, true, IfSome}
use Rattle.std.proofs.lemmas.List.Elements.{All-head, All-tail, All-map, All-weaker}
use Rattle.std.proofs.lemmas.List.Sums.{fold-append}
use Rattle.std.specs.List.{All}
use Rattle.indexmap.specs.IndexSet.{insert_key}
use Rattle.lib_types.specs.declared.entry.Entry.{Entry}
use Rattle.lib_types.specs.Name.{is_name}
use Rattle.lib_types.specs.declared.name.TheConstants.{NAME_MAX}
use Rattle.string_pool.specs.Distinct.{distinct}
use Rattle.string_pool.specs.InOrder.{table_of}
use Rattle.string_pool.specs.SharedEnds.{shared_table}
use Rattle.string_pool.proofs.WithoutRepeats.{distinct_append}
use Rattle.string_pool.proofs.InOrder.{length_table_insert}
use Rattle.string_pool.proofs.Located.{table_fits}
use Rattle.cache_layout.specs.declared.limits.TheConstants.{ENTRIES_MAX, STRINGS_LIMIT}
use Rattle.cache_layout.specs.declared.limits.TheConstants.{STRING_MAX}
use Rattle.cache_writer.specs.CacheText.{hwcaps_names, own_strings, strings}
use Rattle.cache_writer.specs.Numbers.{HasOwn, HasNumbers, AreAmong}
use Rattle.cache_writer.specs.declared.numbers.NumberedEntry.{NumberedEntry}
use Rattle.cache_writer.proofs.Adding.{with_all, numbers_kept}
use Rattle.cache_writer.proofs.Back.{IsLaidOut}
use Rattle.cache_writer.proofs.Bounds.{few_names, short_names, short_sonames}

-- ---- their size

names_size : (ts ns : List (List ℕ)) → All (λ n. length n ≤ NAME_MAX) ns → length (table_of (with_all ts ns)) ≤ length (table_of ts) + (NAME_MAX + 1) * length ns
names_size ts [] short = omega arith
names_size ts (n ∷ ns) short =
    let P : List ℕ → Type 0 = λ n. length n ≤ NAME_MAX in
    omega (arith, All-head P n ns short, length_table_insert ts n, names_size (insert_key bytes_eq ts n) ns (All-tail P n ns short))

own_size : (ts : List (List ℕ)) (es : List Entry) → All (λ e. length e.soname ≤ NAME_MAX) es → All (λ e. length e.path ≤ STRING_MAX) es
    → length (table_of (with_all ts (flat_map own_strings es))) ≤ length (table_of ts) + (NAME_MAX + STRING_MAX + 2) * length es
own_size ts [] sonames paths = omega arith
own_size ts (e ∷ es) sonames paths =
    let P : Entry → Type 0 = λ e. length e.soname ≤ NAME_MAX in
    let Q : Entry → Type 0 = λ e. length e.path ≤ STRING_MAX in
    let one = insert_key bytes_eq ts e.soname in
    let two = insert_key bytes_eq one e.path in
    omega (arith, All-head P e es sonames, All-head Q e es paths, length_table_insert ts e.soname, length_table_insert one e.path, own_size two es (All-tail P e es sonames) (All-tail Q e es paths))

-- the total size of the strings is below the limit
small_strings : (es : List Entry) → length es ≤ ENTRIES_MAX → All (λ e. length e.soname ≤ NAME_MAX) es → All (λ e. length e.path ≤ STRING_MAX) es → All (λ n. length n ≤ NAME_MAX) (hwcaps_names es)
    → length (table_of (strings es)) < STRINGS_LIMIT
small_strings es few sonames paths names =
    let own = flat_map own_strings es in
    let all : length (table_of (strings es)) ≡ length (table_of (with_all (with_all [] own) (hwcaps_names es))) =
    ap (λ ts. length (table_of ts)) (distinct_append [] (own ++ hwcaps_names es) ∙ fold-append (insert_key bytes_eq) [] own (hwcaps_names es)) in
    omega (arith, few, all, few_names es, own_size [] es sonames paths, names_size (with_all [] own) (hwcaps_names es) names)

-- ---- after all strings are gathered

-- the strings of the entries, followed by the names
all_strings : (es : List Entry) (names own all : List (List ℕ)) → names ≡ hwcaps_names es → own ≡ distinct (flat_map own_strings es) → all ≡ with_all own names → all ≡ strings es
all_strings es names own all is first second = second ∙ rw (first, is) (sym (distinct_append (flat_map own_strings es) (hwcaps_names es)))

-- the strings of each entry are in the list
own_among : (texts : List (List ℕ)) (ns : List NumberedEntry) → All (HasNumbers texts) ns → All (HasOwn texts) (map (λ n. n.entry.now) ns)
own_among texts ns all = All-map (HasOwn texts) (λ (n : NumberedEntry). n.entry.now) ns (All-weaker (HasNumbers texts) (λ n. HasOwn texts n.entry.now) (λ n h. h.own) ns all)

-- the arguments of `write`, and what it gathers
module _ (es entries : List Entry) (names own all : List (List ℕ)) (ns : List NumberedEntry) (same : es ≡ entries) (many : length entries ≤ ENTRIES_MAX)
    (named : All (λ entry. is_name entry.soname ≡ true) entries) (caps : All (λ entry. IfSome entry.cap (λ cap. is_name cap ≡ true)) entries) (paths : All (λ entry. length entry.path ≤ STRING_MAX) entries)
    (is : names ≡ hwcaps_names es) (first : own ≡ distinct (flat_map own_strings es)) (second : all ≡ with_all own names) where
  pub few : length es ≤ ENTRIES_MAX
  few = rw same many

  pub few_caps : length names ≤ ENTRIES_MAX
  few_caps = rw is (omega (arith, few_names es, few))

  pub gathered : all ≡ strings es
  gathered = all_strings es names own all is first second

  pub small : length (table_of all) < STRINGS_LIMIT
  small = rw gathered (small_strings es few (short_sonames es (rw same named)) (rw same paths) (short_names es (rw same caps)))

  -- so is the size of those that are written
  pub fits : length (shared_table all) < STRINGS_LIMIT
  fits = omega (arith, small, table_fits all)

  -- adding the names doesn't change the index of a string
  pub kept : All (HasNumbers own) ns → All (HasNumbers all) ns
  kept numbers = rw second (All-weaker (HasNumbers own) (HasNumbers (with_all own names)) (λ n h. numbers_kept own names n h) ns numbers)

  pub laid_out : map (λ n. n.entry.now) ns ≡ es → All (HasNumbers own) ns → AreAmong all names → IsLaidOut entries
  laid_out listed numbers among = rw same at (made)
    where
      made : IsLaidOut es
      made = record {
        few = few;
        small = rw gathered at fits;
        own = rw gathered at (rw listed at (own_among all ns (kept numbers)));
        names = rw (gathered, is) at among;
      }
