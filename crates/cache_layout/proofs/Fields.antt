-- Reading a laid-out number back gives the same number.
use Rattle.std.proofs.Common.{◌≡◌, ℕ, zero, suc, ◌+◌, ◌<◌, ◌^◌, List, [], ◌∷◌, ◌++◌, length, drop, take, fold, sum, slice_index, sym, ap, ◌∙◌, append_assoc, arith}
use Rattle.std.proofs.lemmas.List.{drop_at}
use Rattle.byteorder.specs.Endian.{little_bytes}
use Rattle.byteorder.specs.Numbers.{little_number-reads_back, length-bytes_low_first}
use Rattle.cache_layout.specs.Layout.{laid_out, number}
use Rattle.lib_types.proofs.Fields.{drop_from}
use Rattle.lib_types.specs.Bytes.{field}

-- each number fits its field
abbrev pub Fit : List ℕ → List ℕ → Type 0
Fit [] [] = Unit {0}
Fit [] (n ∷ ns) = ⊥
Fit (size ∷ sizes) [] = ⊥
Fit (size ∷ sizes) (n ∷ ns) = (n < 256 ^ size) × Fit sizes ns

sum_from : (a : ℕ) (xs : List ℕ) → fold (◌+◌) a xs ≡ a + sum xs
sum_from a [] = omega arith
sum_from a (x ∷ xs) = omega (arith, sum_from (a + x) xs, sum_from (0 + x) xs)

pub reads_back : (sizes numbers rest : List ℕ) (i : ℕ) → Fit sizes numbers → i < length sizes → number sizes i (laid_out sizes numbers ++ rest) ≡ slice_index numbers i
reads_back [] numbers rest i fit h = absurd (omega arith)
reads_back (size ∷ sizes) [] rest i fit h = absurd fit
reads_back (size ∷ sizes) (n ∷ ns) rest zero fit h =
    ap (λ xs. field xs 0 size) (append_assoc (little_bytes size n) (laid_out sizes ns) rest) ∙ little_number-reads_back size n (laid_out sizes ns ++ rest) fit.0
reads_back (size ∷ sizes) (n ∷ ns) rest (suc i) fit h =
    let tail = laid_out sizes ns ++ rest in
    let place = sum (take i sizes) in
    let width = slice_index sizes i in
    let zero_add : 0 + size ≡ size = omega arith in
    let following : drop size (little_bytes size n ++ tail) ≡ tail = drop_at (little_bytes size n) tail size (length-bytes_low_first 0 size n) in
    ap (λ k. field ((little_bytes size n ++ laid_out sizes ns) ++ rest) k width) (sum_from (0 + size) (take i sizes) ∙ ap (λ k. k + place) zero_add)
    ∙ ap (λ xs. field xs (size + place) width) (append_assoc (little_bytes size n) (laid_out sizes ns) rest)
    ∙ sym (drop_from place width size (little_bytes size n ++ tail))
    ∙ ap (λ xs. field xs place width) following
    ∙ reads_back sizes ns rest i fit.1 (omega arith)
