-- The end of a line of three numbers.
use Rattle.std.proofs.Common.{◌≡◌, ◌++◌, ◌∙◌, ℕ, List, append_assoc}

pub ended : (a b c d e f end : List ℕ) → (a ++ b ++ c ++ d ++ e ++ f) ++ end ≡ a ++ (b ++ (c ++ (d ++ (e ++ (f ++ end)))))
ended a b c d e f end =
    append_assoc (a ++ b ++ c ++ d ++ e) f end
    ∙ append_assoc (a ++ b ++ c ++ d) e (f ++ end)
    ∙ append_assoc (a ++ b ++ c) d (e ++ (f ++ end))
    ∙ append_assoc (a ++ b) c (d ++ (e ++ (f ++ end)))
    ∙ append_assoc a b (c ++ (d ++ (e ++ (f ++ end))))
