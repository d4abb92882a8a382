-- Zero bytes at the low end of a number. Contracts of private functions use this.
use Rattle.std.specs.Prelude.{◌≡◌, ℕ, zero, suc, ◌*◌}
use Rattle.std.specs.Bool.{⊤}

-- the j lowest bytes of the number are zero
abbrev pub AreZeroBytes : ℕ → ℕ → Type 0
AreZeroBytes zero n = ⊤
AreZeroBytes (suc j) n = (q : ℕ) × (n ≡ 256 * q) × AreZeroBytes j q
