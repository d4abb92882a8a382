-- A single line, as the code reads it.
use Rattle.std.proofs.Common.{◌≡◌, ℕ, Bool, true, false, not, ◌&&◌, eqb, List, [], ◌∷◌, length, Option, Some, None, Result, Ok, Err, refl, ap, ◌∙◌}
use Rattle.std.proofs.lemmas.Bool.{and_parts, not-true}
use Rattle.std.specs.List.{fold}
use Rattle.std.specs.Bool.{IsTrue}
use Rattle.std.specs.Option.{IfSome, option_map}
use Rattle.image_tree.specs.Node.{is_node}
use Rattle.image_tree.specs.Paths.{is_path}
use Rattle.image_tree.specs.declared.node.Node.{Node}
use Rattle.mtree_manifest.proofs.Goods.{good_node, good_path, holds, neither, none_good, path_found, words_good}
use Rattle.mtree_manifest.proofs.Progressing.{after_first}
use Rattle.mtree_manifest.specs.Good.{IsGood, IsGoodAfter}
use Rattle.manifest_words.specs.Keys.{Given, fault_unless, first_fault, no_values, unset_word}
use Rattle.mtree_manifest.specs.Manifest.{entry_fault, head_of, is_dir, node_of, put_by}
use Rattle.manifest_words.specs.Paths.{base_of, is_directive, is_full, is_place, names_of, place, place_fault, place_fault_of}
use Rattle.mtree_manifest.specs.Progress.{Open, given_by_head, started, with_word}
use Rattle.mtree_manifest.specs.Single.{alone_by, entry_alone, entry_unless, fault_alone, lead_fault, path_word, pathless_fault, place_fault_alone, words_alone}
use Rattle.manifest_words.specs.declared.fault.LineKind.{LineKind}
use Rattle.manifest_words.specs.declared.fault.LineKind.TheVariants.{BadLine}
use Rattle.mtree_manifest.specs.declared.line.Head.{Head}
use Rattle.mtree_manifest.specs.declared.line.Head.TheVariants as head

-- ---- the words, one at a time

-- the result of the words so far
abbrev pub alone_of : Option (List ℕ) → Given → Result (Option (List ℕ × Node)) LineKind
alone_of None g = Err (pathless_fault g.fault)
alone_of (Some first) g = entry_alone first g

unset_fault : (g : Given) (rest : List (List ℕ)) → (fold (given_by_head head.Unset) g rest).fault ≡ g.fault
unset_fault g [] = refl
unset_fault g (word ∷ rest) = unset_fault (record g { values = unset_word g.values word }) rest

same_given : (h : Head) → ((g : Given) (word : List ℕ) → given_by_head h g word ≡ g) → (g : Given) (rest : List (List ℕ)) → fold (given_by_head h) g rest ≡ g
same_given h same g [] = refl
same_given h same g (word ∷ rest) = ap (λ g. fold (given_by_head h) g rest) (same g word) ∙ same_given h same g rest

by_head : (h : Head) (first : List ℕ) (rest : List (List ℕ)) → alone_of (path_word (Some (h, first))) (fold (given_by_head h) (record { values = no_values; fault = None }) rest) ≡ alone_by h first rest
by_head head.Entry first rest = refl
by_head head.Set first rest = refl
by_head head.Unset first rest = ap (λ f. Err (pathless_fault f)) (unset_fault (record { values = no_values; fault = None }) rest)
by_head head.Comment first rest = ap (λ (g : Given). Err (pathless_fault g.fault)) (same_given head.Comment (λ g word. refl) (record { values = no_values; fault = None }) rest)
by_head head.Close first rest = ap (λ (g : Given). Err (pathless_fault g.fault)) (same_given head.Close (λ g word. refl) (record { values = no_values; fault = None }) rest)

pub read : (words : List (List ℕ)) → alone_of (path_word (fold with_word (started 1 no_values) words).first) (fold with_word (started 1 no_values) words).given ≡ words_alone words
read [] = refl
read (first ∷ rest) =
    ap (λ (o : Open). alone_of (path_word o.first) o.given) (after_first 1 (head_of first) first (record { values = no_values; fault = None }) rest)
    ∙ by_head (head_of first) first rest

-- ---- the error of a first word

after : (t : Bool) (kind : LineKind) (lead : Bool) → fault_unless t BadLine ≡ Some kind → first_fault (fault_unless t BadLine) (fault_unless lead BadLine) ≡ Some kind
after true kind lead e = absurd (cc)
after false kind true e = e
after false kind false e = e

by_names : (d : Bool) (base first : List ℕ) (names : Option (List (List ℕ))) (kind : LineKind) (lead : Bool) →
    place_fault_of d base first names ≡ Some kind → first_fault (place_fault_of d base first names) (fault_unless lead BadLine) ≡ Some kind
by_names d base first None kind true e = e
by_names d base first None kind false e = e
by_names d base first (Some names) kind lead e = after (not (is_directive first) && is_place d base names) kind lead e

-- an error of the word comes before an error of its path
pub refused : (d : Bool) (first : List ℕ) (kind : LineKind) → place_fault d [] first ≡ Some kind → place_fault_alone d first ≡ Some kind
refused d first kind e = by_names d (base_of [] first) first (names_of first) kind (is_full first && not (eqb (length (place [] first)) 0)) e

pub found : (d : Bool) (first : List ℕ) → place_fault d [] first ≡ None → place_fault_alone d first ≡ lead_fault first
found d first e = ap (λ f. first_fault f (lead_fault first)) e

-- ---- a word without an error

-- the word names a valid path
pub leads : (word : List ℕ) → place_fault_alone false word ≡ None → is_path (place [] word) ≡ true
leads word e =
    let both = neither (place_fault false [] word) (lead_fault word) e in
    let full = holds (is_full word && not (eqb (length (place [] word)) 0)) BadLine both.1 in
    let some = (and_parts (is_full word) (not (eqb (length (place [] word)) 0)) full).1 in
    path_found false (base_of [] word) word (names_of word) both.0 (not-true (eqb (length (place [] word)) 0) some)

-- ---- a line without an error

no_fault : (first : List ℕ) (g : Given) → fault_alone first g ≡ None → entry_fault [] first g ≡ None
no_fault first g e =
    let all = neither g.fault _ e in
    let word = neither (place_fault_alone (is_dir g.values.kind) first) _ all.1 in
    let place = neither (place_fault (is_dir g.values.kind) [] first) _ word.0 in
    rw (all.0, place.0, word.1) refl

-- the first word of a line without an error has no error
pub none_placed : (first : List ℕ) (g : Given) → fault_alone first g ≡ None → place_fault_alone (is_dir g.values.kind) first ≡ None
none_placed first g e = (neither (place_fault_alone (is_dir g.values.kind) first) _ (neither g.fault _ e).1).0

by_node : (first : List ℕ) (g : Given) (n : Option Node) → fault_alone first g ≡ None → IsGood g → node_of g.values (place [] first) ≡ n →
    IfSome {T = List ℕ × Node} (option_map (λ node. (place [] first, node)) n) (λ entry. IsTrue (is_path entry.0) × IsTrue (is_node entry.1))
by_node first g None e good made = tt
by_node first g (Some n) e good made = (good_path [] first g n (no_fault first g e) made, good_node [] first g n (no_fault first g e) good made)

-- the line's node may be put at its path
pub proper : (first : List ℕ) (g : Given) → fault_alone first g ≡ None → IsGood g →
    IfSome (put_by (place [] first) g.values) (λ entry. IsTrue (is_path entry.0) × IsTrue (is_node entry.1))
proper first g e good = by_node first g (node_of g.values (place [] first)) e good refl

pub entry_made : (first : List ℕ) (g : Given) → fault_alone first g ≡ None → entry_alone first g ≡ Ok (put_by (place [] first) g.values)
entry_made first g e = ap (λ f. entry_unless f (put_by (place [] first) g.values)) e

-- ---- the values of a line with a path

by_first : (first : Option (Head × List ℕ)) (g : Given) (word : List ℕ) → IsGoodAfter first g → path_word first ≡ Some word → IsGood g
by_first None g word ok some = absurd (cc)
by_first (Some (head.Entry, first)) g word ok some = ok
by_first (Some (head.Set, first)) g word ok some = absurd (cc)
by_first (Some (head.Unset, first)) g word ok some = absurd (cc)
by_first (Some (head.Comment, first)) g word ok some = absurd (cc)
by_first (Some (head.Close, first)) g word ok some = absurd (cc)

pub good : (words : List (List ℕ)) (word : List ℕ) → path_word (fold with_word (started 1 no_values) words).first ≡ Some word →
    IsGood (fold with_word (started 1 no_values) words).given
good words word some = by_first _ _ word (words_good (started 1 no_values) words none_good) some
