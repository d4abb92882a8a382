-- The text of lines depends only on which names are above.
use Rattle.std.proofs.Common.{◌≡◌, ◌||◌, ◌++◌, ℕ, List, [], ◌∷◌, refl, sym, ap, ◌∙◌}
use Rattle.std.proofs.lemmas.List.Folds.{list_any-append}
use Rattle.std.specs.Str.{bytes_eq}
use Rattle.ldd_resolve.specs.declared.kinds.Member.{Member}
use Rattle.ldd_resolve.specs.declared.kinds.Reply.{Reply}
use Rattle.ldd_resolve.specs.declared.kinds.Reply.TheVariants.{Known, Loads, Missing}
use Rattle.rpath_search.specs.Searching.{is_among}
use Rattle.scope_tree.specs.Printed.{ending, indent, names_for, row_text, rows_text}
use Rattle.scope_tree.specs.Rows.{Row}

among_append : (xs ys : List (List ℕ)) (x : List ℕ) → is_among (xs ++ ys) x ≡ (is_among xs x || is_among ys x)
among_append xs ys x = list_any-append (bytes_eq x) xs ys

same_ending : (members : List Member) (a b : List (List ℕ)) (name : List ℕ) → is_among a name ≡ is_among b name → (reply : Reply) → ending members a name reply ≡ ending members b name reply
same_ending members a b name same (Loads k part) = refl
same_ending members a b name same Known = rw same refl
same_ending members a b name same Missing = refl

same_text : (members : List Member) (rows : List Row) (a b : List (List ℕ)) → ((x : List ℕ) → is_among a x ≡ is_among b x) → rows_text members a rows ≡ rows_text members b rows
same_text members [] a b same = refl
same_text members (row ∷ rows) a b same =
    let more = names_for members row.reply in
    let here : row_text members a row ≡ row_text members b row = rw (same_ending members a b row.name (same row.name) row.reply) refl in
    let rest : rows_text members (a ++ more) rows ≡ rows_text members (b ++ more) rows = same_text members rows (a ++ more) (b ++ more)
    (λ x. among_append a more x ∙ ap (λ t. t || is_among more x) (same x) ∙ sym (among_append b more x)) in
    ap (λ l. l ++ rows_text members (a ++ more) rows) here ∙ ap (λ l. row_text members b row ++ l) rest

-- the text of the remaining lines, after a line's names are added to those above
pub next_text : (members : List Member) (rows : List Row) (old new more : List (List ℕ)) → ((x : List ℕ) → is_among new x ≡ (is_among old x || is_among more x)) →
    rows_text members new rows ≡ rows_text members (old ++ more) rows
next_text members rows old new more added = same_text members rows new (old ++ more) (λ x. added x ∙ sym (among_append old more x))

-- the same for the first names
pub first_text : (members : List Member) (rows : List Row) (new more : List (List ℕ)) → ((x : List ℕ) → is_among new x ≡ (is_among [] x || is_among more x)) →
    rows_text members new rows ≡ rows_text members more rows
first_text members rows new more added = same_text members rows new more added
