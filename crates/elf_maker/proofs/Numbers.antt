-- The bytes of a number.
use Rattle.std.proofs.Common.{◌≡◌, ◌≤◌, ℕ, zero, suc, ◌∷◌, take, refl, ap, arith}
use Rattle.std.specs.Int.{byte_at, bytes_low_first}

take_low : (n m i x : ℕ) → n ≤ m → take n (bytes_low_first i m x) ≡ bytes_low_first i n x
take_low zero m i x h = refl
take_low (suc n) zero i x h = absurd (omega arith)
take_low (suc n) (suc m) i x h = ap (λ bytes. byte_at i x ∷ bytes) (take_low n m (suc i) x (omega arith))

pub take_bytes : (n x : ℕ) → n ≤ 8 → take n (bytes_low_first 0 8 x) ≡ bytes_low_first 0 n x
take_bytes n x h = take_low n 8 0 x h
