-- Reading the canonical text of a tree gives the tree.
use Rattle.std.proofs.Common.{◌≡◌, ◌<◌, ◌≤◌, ◌+◌, ℕ, Bool, true, false, leb, eqb, not, ◌&&◌, List, [], ◌∷◌, ◌++◌, length, map, codes, Some, None, Ok, refl, ap, sym, subst, ◌∙◌, length-append, append_assoc, arith}
use Rattle.std.specs.Option.{option_map}
use Rattle.std.specs.Result.{result_ok}
use Rattle.std.specs.List.{list_all, list_any, filter, slice_split, flat_map, AllByRecursion}
use Rattle.std.specs.List.Sorted.{IsStrictlySortedBy}
use Rattle.std.specs.BTreeMap.{insert_entry}
use Rattle.std.specs.Map.{keys_of}
use Rattle.std.specs.declared.cmp.Ordering.TheVariants.{Less, Greater}
use Rattle.std.proofs.lemmas.Bool.{and_parts, and_right, or_from, or_parts, not-true, ne_eqb, cond-true, cond-false, le-leb}
use Rattle.std.proofs.lemmas.List.{append-nil}
use Rattle.std.proofs.lemmas.List.Folds.{list_all-append}
use Rattle.std.proofs.lemmas.Map.Keys.{sorted_head, sorted_tail}
use Rattle.lib_types.proofs.SortedPairs.{put_step, flipped}
use Rattle.image_tree.specs.declared.node.Node.{Node}
use Rattle.image_tree.specs.declared.tree.TheConstants.{NODES_MAX}
use Rattle.image_tree.specs.Node.{is_node}
use Rattle.image_tree.specs.Paths.{is_slash, is_kept, is_path, path_cmp}
use Rattle.image_tree.specs.Tree.{Nodes, IsTree, is_entry, clashes, clash_with, has_no_room}
use Rattle.image_tree.proofs.Order.{path_total}
use Rattle.bstr.proofs.lemmas.LineLemmas.{lines-nil}
use Rattle.bstr.specs.Text.{without_terminator}
use Rattle.mtree_manifest.specs.Canon.{canon, node_line}
use Rattle.manifest_words.specs.Keys.{Values, no_values, first_fault}
use Rattle.manifest_words.specs.Lines.{Line, joined, goes_on, physical_words, physical_lines}
use Rattle.mtree_manifest.specs.Manifest.{State, Puts, ◌>>=◌, reading, entry, entry_fault, put_by, stack_after, node_of, node_by, is_dir, target_fault, unless_faulty, with_node, with_reading, with_lines, no_lines, outcome, tree_of}
use Rattle.manifest_words.specs.Paths.{decoded_each, names_of, place, place_fault}
use Rattle.manifest_words.specs.Range.{AreBytes, IsInRange, AreInRange}
use Rattle.mtree_manifest.specs.declared.fault.TheConstants.{MANIFEST_MAX}
use Rattle.manifest_words.proofs.Escaping.{split_escaped, bytes_of_parts, names_kept, names_decoded}
use Rattle.mtree_manifest.proofs.Keywords.{keywords, path_word, line_spaced, keyword_tokens, path_token, values_for, keywords_given, node_made, target_made}
use Rattle.manifest_words.specs.Escape.{escaped}
use Rattle.manifest_words.proofs.FullWords.{path_first, path_names, leads_there, leads_well}
use Rattle.manifest_words.proofs.Tokens.{IsBody, spaced, tokens_body, tokens_physical, physical_first}

-- ---- the first word of a line names the path

module _ (rest : List ℕ) (proper : is_path (47 ∷ rest) ≡ true) (range : AreBytes (47 ∷ rest)) where
  names_found : names_of (path_word (47 ∷ rest)) ≡ Some (slice_split is_slash rest)
  names_found =
      let names = slice_split is_slash rest in
      ap (λ parts. decoded_each (filter is_kept parts)) (split_escaped rest range.1)
      ∙ ap decoded_each (names_kept names (path_names rest proper) (bytes_of_parts rest range.1))
      ∙ names_decoded names (path_names rest proper) (bytes_of_parts rest range.1)

  pub place_read : place [] (path_word (47 ∷ rest)) ≡ 47 ∷ rest
  place_read = leads_there rest (escaped rest) proper names_found []

  pub place_faultless : (d : Bool) → place_fault d [] (path_word (47 ∷ rest)) ≡ None
  place_faultless d = leads_well rest (escaped rest) proper names_found d []

-- ---- one line

nothing_opened : (v : Values) (rest : List ℕ) → stack_after [] (path_word (47 ∷ rest)) v ≡ []
nothing_opened v rest = cond-false (is_dir v.kind && false) _ _ (and_right (is_dir v.kind) false refl)

module _ (rest : List ℕ) (n : Node) (proper : is_path (47 ∷ rest) ≡ true) (good : is_node n ≡ true) (range : IsInRange (47 ∷ rest, n)) where
  line_faultless : entry_fault [] (path_word (47 ∷ rest)) (record { values = values_for (47 ∷ rest) n; fault = None }) ≡ None
  line_faultless =
      ap (λ f. first_fault f (target_fault (values_for (47 ∷ rest) n))) (place_faultless rest proper range.0 (is_dir (values_for (47 ∷ rest) n).kind))
      ∙ target_made (47 ∷ rest) n good range.1

  not_root : node_of (values_for (47 ∷ rest) n) (47 ∷ rest) ≡ node_by (values_for (47 ∷ rest) n).kind (values_for (47 ∷ rest) n) (47 ∷ rest)
  not_root = cond-false (eqb (length (47 ∷ rest)) 0) None (node_by (values_for (47 ∷ rest) n).kind (values_for (47 ∷ rest) n) (47 ∷ rest)) (ne_eqb _ _ (λ e. absurd (omega arith)))

  line_put : put_by (place [] (path_word (47 ∷ rest))) (values_for (47 ∷ rest) n) ≡ Some (47 ∷ rest, n)
  line_put =
      ap (λ p. put_by p (values_for (47 ∷ rest) n)) (place_read rest proper range.0)
      ∙ ap (option_map {T = Node} {U = List ℕ × Node} (λ (m : Node). (47 ∷ rest, m))) (not_root ∙ node_made (47 ∷ rest) n good range.1)

  pub line_read : reading no_values [] (path_word (47 ∷ rest) ∷ keywords (47 ∷ rest) n) ≡ Puts [] (Some (47 ∷ rest, n))
  line_read =
      let w = path_word (47 ∷ rest) in
      let u = values_for (47 ∷ rest) n in
      ap (entry [] w) (keywords_given (47 ∷ rest) n good range.1)
      ∙ ap (λ f. unless_faulty f (Puts (stack_after [] w u) (put_by (place [] w) u))) line_faultless
      ∙ ap (λ dirs. Puts dirs (put_by (place [] w) u)) (nothing_opened u rest)
      ∙ ap (Puts []) line_put

-- ---- the puts, in the order of the tree

any_front : (p : List ℕ × Node → Bool) (xs ys : Nodes) → list_any p (xs ++ ys) ≡ false → list_any p xs ≡ false
any_front p [] ys e = refl
any_front p (x ∷ xs) ys e =
    let parts = or_parts (p x) (list_any p (xs ++ ys)) e in
    or_from (p x) (list_any p xs) parts.0 (any_front p xs ys parts.1)

-- a node whose path comes after all other paths
put_last : (done : Nodes) (k : List ℕ) (n : Node) → AllByRecursion (λ (x : List ℕ × Node). path_cmp x.0 k ≡ Less) done → insert_entry path_cmp done k n ≡ done ++ (k, n) ∷ []
put_last [] k n all = refl
put_last (x ∷ done) k n all =
    put_step path_total k x done n Greater (flipped path_total x.0 k Less all.0) ∙ ap (λ rest. x ∷ rest) (put_last done k n all.1)

mid_less : (k : List ℕ) (done : Nodes) (e : List ℕ × Node) (rest : Nodes) → AllByRecursion (λ y. path_cmp k y ≡ Less) (keys_of (done ++ e ∷ rest)) → path_cmp k e.0 ≡ Less
mid_less k [] e rest all = all.0
mid_less k (x ∷ done) e rest all = mid_less k done e rest all.1

all_less : (done : Nodes) (e : List ℕ × Node) (rest : Nodes) → IsStrictlySortedBy path_cmp (keys_of (done ++ e ∷ rest)) → AllByRecursion (λ (x : List ℕ × Node). path_cmp x.0 e.0 ≡ Less) done
all_less [] e rest sorted = tt
all_less (x ∷ done) e rest sorted =
    (mid_less x.0 done e rest (sorted_head path_cmp x.0 (keys_of (done ++ e ∷ rest)) sorted), all_less done e rest (sorted_tail path_cmp x.0 (keys_of (done ++ e ∷ rest)) sorted))

module _ (done : Nodes) (e : List ℕ × Node) (rest : Nodes) (tree : IsTree (done ++ e ∷ rest)) where
  entry_good : is_entry e ≡ true
  entry_good =
      let parts = and_parts (list_all is_entry done) (list_all is_entry (e ∷ rest)) (sym (list_all-append is_entry done (e ∷ rest)) ∙ tree.entries) in
      (and_parts (is_entry e) (list_all is_entry rest) parts.1).0

  no_clash : clashes done e.0 e.1 ≡ false
  no_clash =
      let t = done ++ e ∷ rest in
      let clear = λ (x : List ℕ × Node). not (clashes t x.0 x.1) in
      let parts = and_parts (list_all clear done) (list_all clear (e ∷ rest)) (sym (list_all-append clear done (e ∷ rest)) ∙ tree.clear) in
      any_front (clash_with e.0 e.1) done (e ∷ rest) (not-true (clashes t e.0 e.1) (and_parts (clear e) (list_all clear rest) parts.1).0)

  room : has_no_room done e.0 ≡ false
  room = and_right _ (eqb (length done) NODES_MAX) (ne_eqb _ _ (λ same. absurd (omega (arith, tree.few, length-append done (e ∷ rest)))))

  pub node_put : (number : ℕ) → with_node number done e ≡ Ok (done ++ e ∷ [])
  node_put number =
      cond-false (clashes done e.0 e.1) _ _ no_clash
      ∙ cond-false (has_no_room done e.0) _ _ room
      ∙ ap Ok (put_last done e.0 e.1 (all_less done e rest tree.sorted))

-- ---- the lines

body : List ℕ × Node → List ℕ
body e = path_word e.0 ++ spaced (keywords e.0 e.1)

after : Nodes → State
after done = record { tree = done; defaults = no_values; dirs = [] }

entry_read : (e : List ℕ × Node) → is_entry e ≡ true → IsInRange e → (reading no_values [] (physical_words (body e)) ≡ Puts [] (Some e)) × IsBody (body e)
unfolding body
entry_read e good range =
    let parts = and_parts (is_path e.0) (is_node e.1) good in
    let first = path_first e.0 parts.0 in
    let some : 0 < length e.0 = omega (arith, ap length first.1) in
    let word = path_token e.0 range.0 some in
    let words = keyword_tokens e.0 e.1 parts.1 range.1 in
    let at_slash : reading no_values [] (path_word e.0 ∷ keywords e.0 e.1) ≡ Puts [] (Some e) =
    subst (λ p. is_path p ≡ true → AreBytes p → reading no_values [] (path_word p ∷ keywords p e.1) ≡ Puts [] (Some (p, e.1))) (sym first.1)
    (λ proper bytes. line_read first.0 e.1 proper parts.1 (bytes, range.1)) parts.0 range.0 in
    (ap (reading no_values []) (tokens_physical (path_word e.0) (keywords e.0 e.1) word words) ∙ at_slash, tokens_body (path_word e.0) (keywords e.0 e.1) word words)

lines_read : (rest done : Nodes) (number : ℕ) → IsTree (done ++ rest) → AreInRange rest → with_lines (after done) (joined number (map body rest)) ≡ Ok (after (done ++ rest))
unfolding after
lines_read [] done number tree range = ap (λ t. Ok (after t)) (sym (append-nil done))
lines_read (e ∷ rest) done number tree range =
    let read = entry_read e (entry_good done e rest tree) range.0 in
    let line : Line = record { number = number; words = physical_words (body e) } in
    let lines = joined (number + 1) (map body rest) in
    let next : done ++ e ∷ [] ++ rest ≡ done ++ e ∷ rest = append_assoc done (e ∷ []) rest in
    ap (with_lines (after done)) (cond-false (goes_on (body e)) _ (line ∷ lines) (read.1).ends)
    ∙ ap (λ r. with_reading number (after done) r >>= (λ t. with_lines t lines)) read.0
    ∙ ap (λ r. (r >>= (λ t. Ok (after t))) >>= (λ t. with_lines t lines)) (node_put done e rest tree number)
    ∙ lines_read rest (done ++ e ∷ []) (number + 1) (subst IsTree (sym next) tree) range.1
    ∙ ap (λ t. Ok (after t)) next

entries_good : (e : List ℕ × Node) (t : Nodes) → list_all is_entry (e ∷ t) ≡ true → (is_entry e ≡ true) × (list_all is_entry t ≡ true)
entries_good e t all = and_parts (is_entry e) (list_all is_entry t) all

canon_lines : (t : Nodes) → list_all is_entry t ≡ true → AreInRange t → physical_lines (flat_map node_line t) ≡ map body t
unfolding body
canon_lines [] good range = ap (map without_terminator) lines-nil
canon_lines (e ∷ t) good range =
    let parts = entries_good e t good in
    ap (λ line. physical_lines (line ++ flat_map node_line t)) (line_spaced e.0 e.1)
    ∙ physical_first (body e) (flat_map node_line t) (entry_read e parts.0 range.0).1
    ∙ ap (λ lines. body e ∷ lines) (canon_lines t parts.1 range.1)

signature : IsBody (codes "#mtree")
signature = record { printed = refl; ends = refl }

pub reads_back : (t : Nodes) → IsTree t → AreInRange t → length (canon t) ≤ MANIFEST_MAX → outcome (canon t) ≡ Ok t
unfolding canon outcome after
reads_back t tree range short =
    let physicals : physical_lines (canon t) ≡ codes "#mtree" ∷ map body t =
    ap physical_lines (sym (append_assoc (codes "#mtree") (10 ∷ []) (flat_map node_line t)))
    ∙ physical_first (codes "#mtree") (flat_map node_line t) signature
    ∙ ap (λ lines. codes "#mtree" ∷ lines) (canon_lines t tree.entries range) in
    cond-true (leb (length (canon t)) MANIFEST_MAX) _ _ (le-leb _ _ short)
    ∙ ap (λ lines. with_lines no_lines (joined 1 lines) >>= (λ s. Ok s.tree)) physicals
    ∙ ap (λ r. r >>= (λ s. Ok s.tree)) (lines_read t [] 2 tree range)

-- the same for a text that was written
pub read_again : (t : Nodes) (text : List ℕ) → text ≡ canon t → IsTree t → AreInRange t → length text ≤ MANIFEST_MAX → tree_of text ≡ Some t
read_again t text same tree range short =
    ap tree_of same ∙ ap result_ok (reads_back t tree range (subst (λ bytes. length bytes ≤ MANIFEST_MAX) same short))
