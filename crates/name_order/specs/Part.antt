-- The parts of a name, for the contracts of private functions.
use Rattle.std.specs.Prelude.{◌≡◌, ◌<◌, ℕ, List, ◌∷◌, length}
use Rattle.name_order.specs.Order.{Byte as ByteToken, Number, Token, tokens, value}
use Rattle.name_order.specs.Digits.{AreDigits}
use Rattle.name_order.specs.declared.part.Part.{Part}
use Rattle.name_order.specs.declared.part.Part.TheVariants.{Byte, Digits}

-- the token that the part represents
abbrev pub token_of : Part → Token
token_of (Byte byte) = ByteToken byte
token_of (Digits digits) = Number (value digits.now)

-- a run of digits contains only digits
abbrev pub IsPart : Part → Type 0
IsPart (Byte byte) = Unit {0}
IsPart (Digits digits) = AreDigits digits.now

-- the tokens of the name are the token of the part, followed by the tokens of the rest
pub record BeginsWith (name : List ℕ) (part : Part) (rest : List ℕ) : Type 0 where
  pub tokens : tokens name ≡ token_of part ∷ tokens rest
  pub known : IsPart part
  pub shorter : length rest < length name
