-- Reading strings at their offsets in the string table.
use Rattle.std.proofs.Common.{◌≡◌, ℕ, ◌+◌, ◌-◌, ◌<◌, true, List, [], ◌∷◌, ◌++◌, length, drop, sym, ap, ◌∙◌, append_assoc, arith, bytes_eq, length-append}
use Rattle.std.proofs.Math.Seq.{drop-append-add}
use Rattle.std.proofs.lemmas.List.{take-append-drop, append-nil}
use Rattle.std.specs.List.{list_any, before_first}
use Rattle.lib_types.proofs.OneSize.{before_nul}
use Rattle.lib_types.specs.Bytes.{is_byte}
use Rattle.string_pool.specs.Texts.{with_nul}
use Rattle.string_pool.specs.InOrder.{table_of, offset_of}
use Rattle.string_pool.proofs.InOrder.{located}
use Rattle.image_tree.specs.Node.{has_no_nul}

-- reading at the offset of a string gives this string
pub string_read : (ts : List (List ℕ)) (t : List ℕ) → has_no_nul t ≡ true → list_any (bytes_eq t) ts ≡ true → before_first (is_byte 0) (drop (offset_of ts t) (table_of ts)) ≡ t
string_read ts t plain among =
    let here = drop (offset_of ts t) (table_of ts) in
    let tail = drop (length t + 1) here in
    let parts : here ≡ t ++ 0 ∷ tail = sym (take-append-drop (length t + 1) here) ∙ ap (λ xs. xs ++ tail) (located ts t among) ∙ append_assoc t (0 ∷ []) tail in
    ap (before_first (is_byte 0)) parts ∙ before_nul t tail plain

-- the string table ends with a NUL
pub last_nul : (t : List ℕ) (ts : List (List ℕ)) → drop (length (table_of (t ∷ ts)) - 1) (table_of (t ∷ ts)) ≡ 0 ∷ []
last_nul t [] =
    let e : table_of (t ∷ []) ≡ t ++ 0 ∷ [] = append-nil (with_nul t) in
    let n : length (t ++ 0 ∷ []) - 1 ≡ length t + 0 = omega (arith, length-append t (0 ∷ [])) in
    rw (e, n) (drop-append-add t (0 ∷ []) 0)
last_nul t (u ∷ us) =
    let rest = table_of (u ∷ us) in
    let some : 0 < length rest = omega (arith, length-append (with_nul u) (table_of us), length-append u (0 ∷ [])) in
    let n : length (with_nul t ++ rest) - 1 ≡ length (with_nul t) + (length rest - 1) = omega (arith, some, length-append (with_nul t) rest) in
    rw n (drop-append-add (with_nul t) rest (length rest - 1) ∙ last_nul u us)
