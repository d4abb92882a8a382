-- What is looked up in sequence in a view of a tree.
use Rattle.std.proofs.Common.{ℕ, List, [], ◌++◌, append-nil, refl, ap, sym, ◌∙◌}
use Rattle.conf_views.specs.View.{IsSameView, LooksBut, LooksUp, ViewState}
use Rattle.seen_tree.specs.Seen.{with_dirs, with_paths}
use Rattle.seen_tree.proofs.Looked.{two_paths, two_dirs}

pub looks_none : (paths dirs : List (List ℕ)) (s : ViewState) → LooksBut paths paths dirs dirs s s
looks_none paths dirs s = record { looked = λ part. refl; listed = λ part. refl }

-- of the paths and directories that are left, the first ones are looked up
pub looks_on : (paths dirs more rest listed others : List (List ℕ)) (a b c : ViewState) → LooksBut paths (more ++ rest) dirs (listed ++ others) a b → IsSameView a b
    → LooksUp more listed b c → LooksBut paths rest dirs others a c
looks_on paths dirs more rest listed others a b c first same next = record {
  looked = λ part. ap (λ l. with_paths l rest) (next.looked (same.whole ∙ part)) ∙ sym (two_paths b.looked more rest) ∙ first.looked part;
  listed = λ part. ap (λ l. with_dirs l others) (next.listed (same.whole ∙ part)) ∙ sym (two_dirs b.listed listed others) ∙ first.listed part;
}

-- one reading after another
pub looks_both : (paths more dirs listed : List (List ℕ)) (a b c : ViewState) → LooksUp paths dirs a b → IsSameView a b → LooksUp more listed b c
    → LooksUp (paths ++ more) (dirs ++ listed) a c
looks_both paths more dirs listed a b c first same next = record {
  looked = λ part. next.looked (same.whole ∙ part) ∙ ap (λ l. with_paths l more) (first.looked part) ∙ sym (two_paths a.looked paths more);
  listed = λ part. next.listed (same.whole ∙ part) ∙ ap (λ l. with_dirs l listed) (first.listed part) ∙ sym (two_dirs a.listed dirs listed);
}
