-- Two lists that are compared piece by piece.
use Rattle.std.proofs.Common.{◌≡◌, ◌≤◌, ◌+◌, ◌++◌, ℕ, List, take, drop, arith}
use Rattle.std.proofs.lemmas.List.{drop-take, take-take, take-append-drop}

-- lists that are equal up to an index, and in the piece after it, are equal up to the end of the piece
pub grows : (at n : ℕ) (xs ys : List ℕ) → take at xs ≡ take at ys → take n (drop at xs) ≡ take n (drop at ys) → take (at + n) xs ≡ take (at + n) ys
grows at n xs ys front piece =
    let within : at ≤ at + n = omega arith in
    let whole_x : take at (take (at + n) xs) ++ drop at (take (at + n) xs) ≡ take (at + n) xs = take-append-drop at (take (at + n) xs) in
    let whole_y : take at (take (at + n) ys) ++ drop at (take (at + n) ys) ≡ take (at + n) ys = take-append-drop at (take (at + n) ys) in
    let front_x : take at (take (at + n) xs) ≡ take at xs = take-take at (at + n) xs within in
    let front_y : take at (take (at + n) ys) ≡ take at ys = take-take at (at + n) ys within in
    let back_x : drop at (take (at + n) xs) ≡ take n (drop at xs) = drop-take at n xs in
    let back_y : drop at (take (at + n) ys) ≡ take n (drop at ys) = drop-take at n ys in
    grind (arith, whole_x, whole_y, front_x, front_y, back_x, back_y, front, piece)

-- lists that are equal up to an index are equal in each piece before it
pub differs : (at n len : ℕ) (xs ys : List ℕ) → at + n ≤ len → take len xs ≡ take len ys → take n (drop at xs) ≡ take n (drop at ys)
differs at n len xs ys within same =
    let front_x : take (at + n) (take len xs) ≡ take (at + n) xs = take-take (at + n) len xs within in
    let front_y : take (at + n) (take len ys) ≡ take (at + n) ys = take-take (at + n) len ys within in
    let back_x : drop at (take (at + n) xs) ≡ take n (drop at xs) = drop-take at n xs in
    let back_y : drop at (take (at + n) ys) ≡ take n (drop at ys) = drop-take at n ys in
    grind (arith, front_x, front_y, back_x, back_y, same)
