-- The programs are taken one after another.
use Rattle.std.proofs.Common.{◌≡◌, ◌+◌, ◌<◌, ◌≤◌, ◌++◌, ◌∷◌, [], ℕ, zero, suc, List, add-one, append_assoc, drop, drop-cons, flat_map, get_or, length, Option, Some, None, refl, sym, ap, arith, ◌∙◌}
use Rattle.std.proofs.lemmas.List.{append-nil}
use Rattle.std.proofs.lemmas.List.Concat.{flat_map-append}
use Rattle.image_tree.specs.Tree.{Nodes}
use Rattle.ldd_resolve.specs.declared.kinds.ProgramScope.{ProgramScope}
use Rattle.needed_files.specs.Interpreters.{interpreter_of, interpreters}
use Rattle.tree_face.specs.Known.{IfKnown}
use Rattle.tree_face.specs.Store.{Contents}

pub next_item : {A : Type 0} (xs : List A) (i : ℕ) (x d : A) → i < length xs → x ≡ get_or xs i d → drop i xs ≡ x ∷ drop (i + 1) xs
next_item xs i x d less is =
    let step : drop i xs ≡ get_or xs i d ∷ drop (i + 1) xs = rw (drop-cons xs i d less, add-one) refl in
    step ∙ ap (λ z. z ∷ drop (i + 1) xs) (sym is)

pub none_left : {A : Type 0} (xs : List A) (i : ℕ) → length xs ≤ i → drop i xs ≡ []
none_left [] zero most = refl
none_left [] (suc i) most = refl
none_left (x ∷ xs) zero most = absurd (omega (arith, most))
none_left (x ∷ xs) (suc i) most = none_left xs i (omega (arith, most))

-- one more item, and what it gives
pub one_more : {A B C : Type 0} (f : B → List C) (g : A → List B) (x : A) (rest : List A) (met new whole : List C) → new ≡ met ++ flat_map f (g x)
    → met ++ flat_map f (flat_map g (x ∷ rest)) ≡ whole → new ++ flat_map f (flat_map g rest) ≡ whole
one_more f g x rest met new whole added so_far =
    ap (λ l. l ++ flat_map f (flat_map g rest)) added
    ∙ append_assoc met (flat_map f (g x)) (flat_map f (flat_map g rest))
    ∙ ap (λ l. met ++ l) (sym (flat_map-append f (g x) (flat_map g rest)))
    ∙ so_far

module _ (t : Nodes) (all : List ProgramScope) (p : ProgramScope) (rest : List ProgramScope) (met new : List (List ℕ)) where
  pub one_more_named : (known : Option Contents) → IfKnown known (λ held. new ≡ met ++ interpreter_of held t p.path p.scope)
      → IfKnown known (λ held. met ++ interpreters held t (p ∷ rest) ≡ interpreters held t all) → IfKnown known (λ held. new ++ interpreters held t rest ≡ interpreters held t all)
  one_more_named None added so_far = tt
  one_more_named (Some held) added so_far =
      ap (λ l. l ++ interpreters held t rest) added ∙ append_assoc met (interpreter_of held t p.path p.scope) (interpreters held t rest) ∙ so_far

-- no program is left
pub all_named : (t : Nodes) (all left : List ProgramScope) (met : List (List ℕ)) (known : Option Contents) → left ≡ []
    → IfKnown known (λ held. met ++ interpreters held t left ≡ interpreters held t all) → IfKnown known (λ held. met ≡ interpreters held t all)
all_named t all left met None none so_far = tt
all_named t all left met (Some held) none so_far = sym (append-nil met) ∙ sym (ap (λ l. met ++ interpreters held t l) none) ∙ so_far
