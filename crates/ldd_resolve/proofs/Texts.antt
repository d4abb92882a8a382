-- The text of a listing consists of its lines.
use Rattle.std.proofs.Common.{◌≡◌, ◌==◌, true, false, List, [], ◌∷◌, length, codes, refl, arith}
use Rattle.std.proofs.lemmas.Bool.Decides.{nat_tests}
use Rattle.std.specs.List.{flat_map}
use Rattle.ldd_resolve.specs.declared.kinds.Item.{Item}
use Rattle.ldd_resolve.specs.Printed.{line, listing_text}

pub text_of_none : (items : List Item) → (length items == 0) ≡ true → listing_text items ≡ codes "\tstatically linked\n"
unfolding listing_text
text_of_none [] none = refl
text_of_none (i ∷ items) none = absurd (let e : length (i ∷ items) ≡ 0 = grind (arith, nat_tests) in omega (arith, e))

pub text_of_some : (items : List Item) → (length items == 0) ≡ false → listing_text items ≡ flat_map line items
unfolding listing_text
text_of_some [] some = absurd (cc)
text_of_some (i ∷ items) some = refl
