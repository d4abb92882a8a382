use Rattle.std.proofs.Common.{rules, refl, ◌≡◌, ℕ, Result, Ok, Err, IfOk, IfErr}
use Rattle.std.proofs.lemmas.Fn.{answers_by}
use Rattle.std.specs.Result.{MatchResult}
use Rattle.aux_cache.proofs.Sorted.{searched}
use Rattle.aux_cache.proofs.stamps.search.Goals as goal
use Rattle.aux_cache.specs.Ids.{id_cmp}
use Rattle.aux_cache.specs.Index.{IsIndexOf, IsGapFor}

if_ok : (P Q : ℕ → Type 0) (r : Result ℕ ℕ) → MatchResult r P Q → IfOk r P
if_ok P Q (Ok x) h = h
if_ok P Q (Err x) h = tt

if_err : (P Q : ℕ → Type 0) (r : Result ℕ ℕ) → MatchResult r P Q → IfErr r Q
if_err P Q (Ok x) h = tt
if_err P Q (Err x) h = h

pub returns-clause-found : goal.returns-clause-found
returns-clause-found c =
    rw (← c.deref.ensures.value) (if_ok (IsIndexOf c.deref.result.now c.args.id.now) (IsGapFor c.deref.result.now c.args.id.now) c.binary_search_by.result (searched _ _ _ (rw c.deref.ensures.value c.requires) c.binary_search_by.ensures.bound
    (c.binary_search_by.ensures.position (λ s. id_cmp s.id c.args.id.now)
    (answers_by _ _ (λ f. f.0.now ≡ c.args.id.now) (λ f a r g called same. (search rules, search rules)) _ refl))))

pub returns-clause-absent : goal.returns-clause-absent
returns-clause-absent c =
    rw (← c.deref.ensures.value) (if_err (IsIndexOf c.deref.result.now c.args.id.now) (IsGapFor c.deref.result.now c.args.id.now) c.binary_search_by.result (searched _ _ _ (rw c.deref.ensures.value c.requires) c.binary_search_by.ensures.bound
    (c.binary_search_by.ensures.position (λ s. id_cmp s.id c.args.id.now)
    (answers_by _ _ (λ f. f.0.now ≡ c.args.id.now) (λ f a r g called same. (search rules, search rules)) _ refl))))
