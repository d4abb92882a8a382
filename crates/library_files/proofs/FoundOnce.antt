-- Files that are sorted by their paths, each once.
use Rattle.std.proofs.Common.{◌≡◌, Bool, List, [], ◌∷◌, refl, ap, sym, ◌∙◌}
use Rattle.std.proofs.ByRecursion.{all_shuffled}
use Rattle.std.proofs.lemmas.List.Elements.{All-from_recursion, recursion_from_All}
use Rattle.std.proofs.lemmas.List.Filters.{All-dedup, dedup_is}
use Rattle.std.proofs.lemmas.List.Kept.{IsStrictlySortedBy-dedup}
use Rattle.std.proofs.lemmas.List.Sorted.{IsPermutation-map, list_any-IsPermutation}
use Rattle.std.specs.Cmp.Lexicographic.{slice_cmp, texts_ties}
use Rattle.std.specs.List.{AllByRecursion, dedup, dedup_from, list_any}
use Rattle.std.specs.List.Retain.{DiffersFromLast, IsFiltered}
use Rattle.std.specs.List.Sorted.{IsPermutation, IsSorted, IsStrictlySortedBy}
use Rattle.std.specs.Ordering.{eq_by_cmp, nat_cmp}
use Rattle.std.specs.Str.{bytes_eq}
use Rattle.std.specs.declared.cmp.Ordering.TheVariants.{Less}
use Rattle.image_tree.specs.Tree.{Nodes}
use Rattle.lib_types.proofs.SortedPairs.{by_test}
use Rattle.string_pool.proofs.InByteOrder.{ascending_sorted, in_ascending}
use Rattle.string_pool.proofs.Members.{dedup_in, same_members}
use Rattle.library_files.specs.FoundFile.{FoundFile, AreFilesOf, IsFileOf, path_of, path_order, path_order-total, paths_of}
use Rattle.string_pool.specs.Order.{ascending}

abbrev same_path : FoundFile → FoundFile → Bool
same_path = eq_by_cmp path_order

same_is : (a b : FoundFile) → same_path a b ≡ bytes_eq a.path b.path
same_is a b = sym (texts_ties a.path b.path)

-- ---- their paths

from_same : (file : FoundFile) (files : List FoundFile) → paths_of (dedup_from same_path file files) ≡ dedup_from bytes_eq file.path (paths_of files)
from_same file [] = refl
from_same file (next ∷ files) = by_test (bytes_eq next.path file.path)
    (λ e. rw (same_is next file, e) (from_same file files))
    (λ e. rw (same_is next file, e) (ap (λ rest. file.path ∷ rest) (from_same next files)))

paths_dedup : (files : List FoundFile) → paths_of (dedup same_path files) ≡ dedup bytes_eq (paths_of files)
paths_dedup [] = refl
paths_dedup (file ∷ files) = from_same file files

all_paths : (file : FoundFile) (files : List FoundFile) → AllByRecursion (λ other. path_order file other ≡ Less) files
    → AllByRecursion (λ path. slice_cmp nat_cmp file.path path ≡ Less) (paths_of files)
all_paths file [] all = tt
all_paths file (next ∷ files) all = (all.0, all_paths file files all.1)

paths_sorted : (files : List FoundFile) → IsStrictlySortedBy path_order files → IsStrictlySortedBy (slice_cmp nat_cmp) (paths_of files)
unfolding IsStrictlySortedBy
paths_sorted [] s = tt
paths_sorted (file ∷ files) s = (all_paths file files s.0, paths_sorted files s.1)

pub paths_once : (files sorted once : List FoundFile) → IsPermutation files sorted → IsSorted path_order sorted → IsFiltered (DiffersFromLast same_path) [] sorted once
    → paths_of once ≡ ascending (paths_of files)
paths_once files sorted once same ordered filtered =
    let is : once ≡ dedup same_path sorted = dedup_is same_path sorted once filtered in
    rw is (same_members (paths_of (dedup same_path sorted)) (ascending (paths_of files))
    (paths_sorted (dedup same_path sorted) (IsStrictlySortedBy-dedup path_order-total (λ a b. refl) sorted ordered)) (ascending_sorted (paths_of files))
    (λ z. ap (λ paths. list_any (bytes_eq z) paths) (paths_dedup sorted) ∙ dedup_in (bytes_eq z) (paths_of sorted)
    ∙ sym (list_any-IsPermutation (bytes_eq z) (paths_of files) (paths_of sorted) (IsPermutation-map path_of files sorted same)) ∙ sym (in_ascending (paths_of files) z)))

-- ---- their keys and identities

pub still_files : (files sorted once : List FoundFile) → IsPermutation files sorted → IsFiltered (DiffersFromLast same_path) [] sorted once
    → (t : Nodes) → AreFilesOf t files → AreFilesOf t once
still_files files sorted once same filtered t are =
    let is : once ≡ dedup same_path sorted = dedup_is same_path sorted once filtered in
    rw is (recursion_from_All (IsFileOf t) (dedup same_path sorted)
    (All-dedup same_path (IsFileOf t) sorted (All-from_recursion (IsFileOf t) sorted (all_shuffled (IsFileOf t) files sorted same are))))
