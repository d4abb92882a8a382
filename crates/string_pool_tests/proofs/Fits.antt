-- A pool of few bytes has few strings, and a number that was given is the number of a string.
use Rattle.std.proofs.Common.{◌≡◌, ◌≤◌, ◌<◌, ◌+◌, ◌^◌, ◌++◌, ℕ, List, [], ◌∷◌, true, false, length, bytes_eq, arith, if◌then◌else◌}
use Rattle.std.proofs.lemmas.List.{length-append}
use Rattle.std.specs.List.{list_any}
use Rattle.indexmap.specs.IndexSet.{insert_key}
use Rattle.string_pool.specs.InOrder.{table_of}
use Rattle.string_pool.specs.Texts.{number_of}
use Rattle.string_pool.proofs.InOrder.{length_le_table, length_table_insert}
use Rattle.string_pool.proofs.Numbers.{among, number_within}

pub few : (ts : List (List ℕ)) (size : ℕ) → length (table_of ts) ≤ size → size ≤ 2 ^ 20 → length ts ≤ 2 ^ 20
few ts size bytes small = omega (arith, length_le_table ts, bytes, small)

pub fits : (ts new : List (List ℕ)) (t : List ℕ) (size : ℕ) → length (table_of ts) ≤ size → new ≡ insert_key bytes_eq ts t → length (table_of new) ≤ size + length t + 1
fits ts new t size bytes added = rw added (omega (arith, length_table_insert ts t, bytes))

pub grows : (ts new : List (List ℕ)) (t : List ℕ) → new ≡ insert_key bytes_eq ts t → length ts ≤ length new
grows ts new t added = rw added (elim (list_any (bytes_eq t) ts) as (λ b. length ts ≤ length (if b then ts else ts ++ t ∷ [])) [
  | true ↦ omega arith
  | false ↦ omega (arith, length-append ts (t ∷ []))
])

pub within : (ts new : List (List ℕ)) (t : List ℕ) (number : ℕ) → new ≡ insert_key bytes_eq ts t → number ≡ number_of new t → number < length new
within ts new t number added is = rw (is, added) (number_within (insert_key bytes_eq ts t) t (among ts t))
