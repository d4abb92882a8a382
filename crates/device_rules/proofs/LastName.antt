-- The last name of a path has no slash.
use Rattle.std.proofs.Common.{◌≡◌, ◌<◌, ◌==◌, ℕ, List, None, false, length, get_or, subst, sym, arith}
use Rattle.std.specs.List.{list_any}
use Rattle.std.specs.Str.{NoCharPasses}
use Rattle.std.specs.Str.Pattern.{RFindsChar, SplitsAroundMatch}
use Rattle.std.proofs.lemmas.List.Elements.{All-from_get_or}
use Rattle.std.proofs.lemmas.List.Folds.{list_any_none}
use Rattle.std.proofs.lemmas.Str.Pattern.{NoCharPasses-char}
use Rattle.lib_types.specs.Bytes.{is_byte}
use Rattle.device_rules.proofs.BelowRoot.{not_slash}

none_is : (text : List ℕ) → ((i : ℕ) → i < length text → get_or text i 0 ≡ 47 → ⊥) → list_any (is_byte 47) text ≡ false
none_is text none = list_any_none (is_byte 47) text (All-from_get_or (λ b. is_byte 47 b ≡ false) text 0 (λ i less. not_slash _ (none i less)))

pub no_slash : (path : List ℕ) → RFindsChar 47 path None → list_any (is_byte 47) path ≡ false
no_slash path h = none_is path (λ i less. NoCharPasses-char 47 path i h (omega arith) less)

pub last_name : (path folder name : List ℕ) → SplitsAroundMatch (RFindsChar 47) path folder name → list_any (is_byte 47) name ≡ false
last_name path folder name h = none_is name (λ i less. NoCharPasses-char 47 name i (subst (NoCharPasses (λ d. d == 47)) (sym h.4) h.2.0) (omega arith) less)
