-- Cached numbers of winners by directory: looking one up, and adding one.
use Rattle.std.proofs.Common.{◌≡◌, ℕ, cond, List, [], ◌∷◌, length, ap, sym, ◌∙◌, Some}
use Rattle.std.proofs.lemmas.Slice.Eq.{bytes_eq-Decides}
use Rattle.std.specs.Map.{lookup}
use Rattle.std.specs.Str.{bytes_eq}
use Rattle.indexmap.specs.IndexMap.{insert_entry}
use Rattle.lib_types.proofs.SortedPairs.{by_test}
use Rattle.image_tree.specs.Tree.{Nodes}
use Rattle.file_table.specs.Analyses.{Analyses}
use Rattle.cache_entries.specs.Counts.{AreCounts, winners_at}

module _ (what : Analyses) (t : Nodes) (folder : List ℕ) where
  pub count_found : (counts : List (List ℕ × ℕ)) (count : ℕ) → AreCounts what t counts → lookup (bytes_eq folder) counts ≡ Some count → count ≡ length (winners_at what t folder)
  count_found [] count are e = absurd (cc)
  count_found (entry ∷ counts) count are e = by_test (bytes_eq folder entry.0)
      (λ h.
      let same : folder ≡ entry.0 = (bytes_eq-Decides folder entry.0).0 h in
      let here : Some entry.1 ≡ Some count = sym (ap (λ b. cond b (Some entry.1) (lookup (bytes_eq folder) counts)) h) ∙ e in
      let is : entry.1 ≡ count = cc in
      sym is ∙ are.0 ∙ ap (λ (path : List ℕ). length (winners_at what t path)) (sym same))
      (λ h. count_found counts count are.1 (sym (ap (λ b. cond b (Some entry.1) (lookup (bytes_eq folder) counts)) h) ∙ e))

  pub counts_put : (counts : List (List ℕ × ℕ)) (count : ℕ) → AreCounts what t counts → count ≡ length (winners_at what t folder) → AreCounts what t (insert_entry bytes_eq counts folder count)
  counts_put [] count are e = (e, tt)
  counts_put (entry ∷ counts) count are e = by_test (bytes_eq folder entry.0)
      (λ h.
      let same : folder ≡ entry.0 = (bytes_eq-Decides folder entry.0).0 h in
      rw h ((e ∙ ap (λ (path : List ℕ). length (winners_at what t path)) same), are.1))
      (λ h. rw h (are.0, counts_put counts count are.1 e))
