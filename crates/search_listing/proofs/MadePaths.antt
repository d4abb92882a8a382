-- The set of the paths of links after one more link is added.
use Rattle.std.proofs.Common.{◌≡◌, ◌∙◌, ℕ, Bool, true, false, ◌||◌, ◌+◌, ◌<◌, List, [], ◌∷◌, drop, get_or, length, refl, ap, sym}
use Rattle.std.proofs.lemmas.List.{at_drop_more}
use Rattle.std.proofs.lemmas.List.Folds.{list_any-append}
use Rattle.std.proofs.lemmas.Slice.Eq.{bytes_eq-Decides}
use Rattle.std.specs.List.{list_any}
use Rattle.std.specs.Str.{bytes_eq}
use Rattle.indexmap.specs.IndexSet.{insert_key}
use Rattle.lib_types.proofs.SortedPairs.{by_test}
use Rattle.link_plan.specs.declared.kinds.Planned.{Planned}
use Rattle.search_listing.specs.Listing.{is_made}

grouped : (a b c : Bool) → ((a || (b || false)) || c) ≡ (a || (b || c))
grouped true b c = refl
grouped false true c = refl
grouped false false c = refl

-- membership in the set after a path is inserted
one_more : (paths : List (List ℕ)) (path other : List ℕ) (rest : Bool)
    → (list_any (bytes_eq other) (insert_key bytes_eq paths path) || rest) ≡ (list_any (bytes_eq other) paths || (bytes_eq other path || rest))
one_more paths path other rest = by_test (list_any (bytes_eq path) paths)
    (λ e. rw e (by_test (bytes_eq other path)
    (λ same.
    let is : other ≡ path = (bytes_eq-Decides other path).0 same in
    let there : list_any (bytes_eq other) paths ≡ true = ap (λ (q : List ℕ). list_any (bytes_eq q) paths) is ∙ e in
    rw there refl)
    (λ differs. rw differs refl)))
    (λ e. rw e (ap (λ b. b || rest) (list_any-append (bytes_eq other) paths (path ∷ [])) ∙ grouped (list_any (bytes_eq other) paths) (bytes_eq other path) rest))

-- the path of the next of the remaining links is inserted
pub link_more : (paths new : List (List ℕ)) (links : List Planned) (i : ℕ) (link : Planned) → i < length links → get_or links i link ≡ link → new ≡ insert_key bytes_eq paths link.path
    → (other : List ℕ) → (list_any (bytes_eq other) new || is_made (drop (i + 1) links) other) ≡ (list_any (bytes_eq other) paths || is_made (drop i links) other)
link_more paths new links i link within is put other =
    ap (λ (ps : List (List ℕ)). list_any (bytes_eq other) ps || is_made (drop (i + 1) links) other) put
    ∙ one_more paths link.path other (is_made (drop (i + 1) links) other)
    ∙ ap (λ (l : Planned). list_any (bytes_eq other) paths || is_made (l ∷ drop (i + 1) links) other) (sym is)
    ∙ sym (at_drop_more (λ (ls : List Planned). list_any (bytes_eq other) paths || is_made ls other) links i link within)
