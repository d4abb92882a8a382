-- Four arguments, added one after another.
use Rattle.std.proofs.Common.{◌≡◌, ◌∙◌, IfOk, Result, ap, subst}
use Rattle.std.specs.declared.alloc.AllocError.{AllocError}
use Rattle.clap.specs.Words.{App, Rule, app_of, with_rule}
use Rattle.clap.specs.declared.builder.command.Command.{Command}

four : (a b c d : App) (q r s t q' r' s' t' : Rule) → b ≡ with_rule a q → c ≡ with_rule b r → d ≡ with_rule c s → q ≡ q' → r ≡ r' → s ≡ s' → t ≡ t'
    → with_rule d t ≡ with_rule (with_rule (with_rule (with_rule a q') r') s') t'
four a b c d q r s t q' r' s' t' first second third of_q of_r of_s of_t =
    let one : b ≡ with_rule a q' = first ∙ ap (with_rule a) of_q in
    let two : c ≡ with_rule (with_rule a q') r' = second ∙ ap (λ x. with_rule x r) one ∙ ap (with_rule (with_rule a q')) of_r in
    let three : d ≡ with_rule (with_rule (with_rule a q') r') s' = third ∙ ap (λ x. with_rule x s) two ∙ ap (with_rule (with_rule (with_rule a q') r')) of_s in
    ap (λ x. with_rule x t) three ∙ ap (with_rule (with_rule (with_rule (with_rule a q') r') s')) of_t

pub chained : (result : Result Command AllocError) (a b c d : App) (q r s t q' r' s' t' : Rule) → b ≡ with_rule a q → c ≡ with_rule b r → d ≡ with_rule c s
    → q ≡ q' → r ≡ r' → s ≡ s' → t ≡ t' → IfOk result (λ (command : Command). app_of command ≡ with_rule d t)
    → IfOk result (λ (command : Command). app_of command ≡ with_rule (with_rule (with_rule (with_rule a q') r') s') t')
chained result a b c d q r s t q' r' s' t' first second third of_q of_r of_s of_t is =
    subst (λ (x : App). IfOk result (λ (command : Command). app_of command ≡ x)) (four a b c d q r s t q' r' s' t' first second third of_q of_r of_s of_t) is
