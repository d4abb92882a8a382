-- The loader's order and the name order are total. In the name order only identical names are equal.
use Rattle.std.proofs.Common.{◌≡◌, ℕ, List, refl, sym, ◌∙◌, ap, subst}
use Rattle.std.specs.declared.cmp.Ordering.{Ordering}
use Rattle.std.specs.declared.cmp.Ordering.TheVariants.{Less, Equal, Greater}
use Rattle.std.specs.Ordering.{nat_cmp, on, ordering_then, then_cmp}
use Rattle.std.specs.Cmp.{IsTotalOrder}
use Rattle.std.specs.Cmp.Lexicographic.{lists_total, nat_list_cmp_total}
use Rattle.std.proofs.lemmas.Cmp.{nat_cmp_total, on_total, then_total, tied_itself}
use Rattle.std.proofs.lemmas.Map.Lookups.{exact_bytes}
use Rattle.name_order.specs.Order.{Byte, Number, Token, name_order, token_cmp, token_order, tokens}

-- numbers are above bytes
kind : Token → ℕ
kind (Byte byte) = 0
kind (Number n) = 1

-- the byte or the number itself
number : Token → ℕ
number (Byte byte) = byte
number (Number n) = n

-- tokens compare by their kinds and then by their numbers
by_kind : (s t : Token) → then_cmp (on kind nat_cmp) (on number nat_cmp) s t ≡ token_cmp s t
unfolding kind number
by_kind (Byte a) (Byte b) = refl
by_kind (Byte a) (Number n) = refl
by_kind (Number m) (Byte b) = refl
by_kind (Number m) (Number n) = refl

pub token_cmp-total : IsTotalOrder token_cmp
token_cmp-total = subst IsTotalOrder (λ i s t. by_kind s t i) (then_total (on_total kind nat_cmp_total) (on_total number nat_cmp_total))

pub token_order-total : IsTotalOrder token_order
token_order-total = on_total tokens (lists_total token_cmp-total)

pub name_order-total : IsTotalOrder name_order
name_order-total = then_total token_order-total nat_list_cmp_total

-- if a lexicographic combination of two orders is Equal, the second order is Equal
second_tied : (r s : Ordering) → ordering_then r s ≡ Equal → s ≡ Equal
second_tied Less s e = cc
second_tied Equal s e = e
second_tied Greater s e = cc

-- names that are equal in the order are the same name
pub name_order-exact : (a b : List ℕ) → name_order a b ≡ Equal → a ≡ b
name_order-exact a b e = exact_bytes a b (second_tied (token_order a b) _ e)

-- a name is equal to itself
pub name_order-same : (a b : List ℕ) → a ≡ b → name_order a b ≡ Equal
name_order-same a b e = ap (name_order a) (sym e) ∙ tied_itself name_order-total a

pub ruleset name_laws = (name_order-total, name_order-exact, name_order-same)
