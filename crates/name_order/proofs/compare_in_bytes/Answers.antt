use Rattle.std.proofs.Common.{◌≡◌, ◌∙◌, ℕ, IfSome, List, None, Option, Some, drop}
use Rattle.std.proofs.lemmas.List.{take_rest}
use Rattle.std.specs.declared.cmp.Ordering.{Ordering}
use Rattle.name_order.specs.Digits.{HaveNoDigit}
use Rattle.name_order.specs.Order.{token_order}
use Rattle.name_order.proofs.Alike.{in_bytes}
use Rattle.name_order.proofs.compare_in_bytes.Goals as goal

pub returns : goal.returns
returns c = by c.compare_first.result
    (rw (← take_rest a n, ← take_rest b n) c.compare_first.ensures.order) (rw (← take_rest a n, ← take_rest b n) c.compare_first.ensures.digits)
  where
    a : List ℕ
    a = c.args.a.now

    b : List ℕ
    b = c.args.b.now

    n : ℕ
    n = c.args.same

    by : (found : Option Ordering) → IfSome found (λ order. order ≡ token_order (drop n a) (drop n b)) → IfSome found (λ order. HaveNoDigit 0 (drop n a) (drop n b))
        → IfSome found (λ order. order ≡ token_order a b)
    by None order digits = tt
    by (Some order) same digits = same ∙ in_bytes a b n c.requires.within.0 c.requires.within.1 c.requires.same digits
