-- The map of directories after one more line of the conf files is added.
use Rattle.std.proofs.Common.{◌≡◌, ◌∙◌, ℕ, Bool, true, false, cond, List, [], ◌∷◌, length, Option, Some, None, Bor, is_some, refl, ap, sym, subst, ◌⊎◌, inl, inr, arith}
use Rattle.std.proofs.lemmas.Slice.Eq.{bytes_eq-Decides}
use Rattle.std.specs.List.{zip}
use Rattle.std.specs.Map.{lookup}
use Rattle.std.specs.Option.{option_copied, option_or}
use Rattle.std.specs.Str.{bytes_eq}
use Rattle.lib_types.proofs.SortedPairs.{by_test}
use Rattle.ldso_conf.specs.declared.kinds.Origin.{Origin}
use Rattle.search_listing.specs.FirstNamed.{Rows, IsAdded, found}

-- ---- one directory

stays : (a : Option (Bor Origin)) (b : Option Origin) → is_some a ≡ true → option_copied a ≡ option_or (option_copied a) b
stays None b e = absurd (cc)
stays (Some x) b e = refl

alone : (a : Option Origin) → a ≡ option_or a None
alone None = refl
alone (Some x) = refl

missing : (a : Option (Bor Origin)) → is_some a ≡ false → option_copied a ≡ None
missing None e = refl
missing (Some x) e = absurd (cc)

-- ---- one more line

-- the line names a directory that is already named
pub named_before : (rows : Rows) (named : List ℕ) (origin : Origin) → is_some (lookup (bytes_eq named) rows) ≡ true → IsAdded rows named origin rows
named_before rows named origin there dir = by_test (bytes_eq dir named)
    (λ e.
    let same : named ≡ dir = sym ((bytes_eq-Decides dir named).0 e) in
    stays (lookup (bytes_eq dir) rows) _ (subst (λ (q : List ℕ). is_some (lookup (bytes_eq q) rows) ≡ true) same there))
    (λ e. rw e (alone (found rows dir)))

-- the line names a new directory: the directory gets this line, and the others keep theirs
pub named_here : (rows new : Rows) (named : List ℕ) (origin : Bor Origin) → is_some (lookup (bytes_eq named) rows) ≡ false
    → ((dir : List ℕ) → lookup (bytes_eq dir) new ≡ cond (bytes_eq named dir) (Some origin) (lookup (bytes_eq dir) rows))
    → IsAdded rows named origin.now new
named_here rows new named origin none updated dir = by_test (bytes_eq dir named)
    (λ e.
    let same : named ≡ dir = sym ((bytes_eq-Decides dir named).0 e) in
    let here : bytes_eq named dir ≡ true = (bytes_eq-Decides named dir).1 same in
    let before : found rows dir ≡ None = missing (lookup (bytes_eq dir) rows) (subst (λ (q : List ℕ). is_some (lookup (bytes_eq q) rows) ≡ false) same none) in
    rw (e, before) (ap option_copied (updated dir) ∙ ap (λ b. option_copied (cond b (Some origin) (lookup (bytes_eq dir) rows))) here))
    (λ e.
    let differs : bytes_eq named dir ≡ false = by_test (bytes_eq named dir)
    (λ f. let same : bytes_eq dir named ≡ true = (bytes_eq-Decides dir named).1 (sym ((bytes_eq-Decides named dir).0 f)) in let z : true ≡ false = sym same ∙ e in absurd (cc))
    (λ f. f) in
    rw e (ap option_copied (updated dir) ∙ ap (λ b. option_copied (cond b (Some origin) (lookup (bytes_eq dir) rows))) differs ∙ alone (found rows dir)))

-- the result from this line and the remaining lines
pub goes_on : (a : Option Origin) (is_it : Bool) (origin : Origin) (rest : Option Origin)
    → option_or (option_or a (cond is_it (Some origin) None)) rest ≡ option_or a (cond is_it (Some origin) rest)
goes_on None true origin rest = refl
goes_on None false origin rest = refl
goes_on (Some x) is_it origin rest = refl

-- no line is left
pub no_line_left : {X Y : Type 0} {P : X → Type 0} {Q : Y → Type 0} (so_far whole : Option Origin) (name : List ℕ) (dirs : List (List ℕ)) (origins : List Origin)
    → ((x : X) × (length dirs ≡ 0 × P x)) ⊎ ((y : Y) × (length origins ≡ 0 × Q y)) → option_or so_far (lookup (bytes_eq name) (zip dirs origins)) ≡ whole → so_far ≡ whole
no_line_left so_far whole name [] origins ended e = alone so_far ∙ e
no_line_left so_far whole name (dir ∷ dirs) [] ended e = alone so_far ∙ e
no_line_left so_far whole name (dir ∷ dirs) (origin ∷ origins) (inl first) e = let none = first.1.0 in absurd (omega arith)
no_line_left so_far whole name (dir ∷ dirs) (origin ∷ origins) (inr second) e = let none = second.1.0 in absurd (omega arith)
