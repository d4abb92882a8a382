-- A line without an error has a node that may be put at its path.
use Rattle.std.proofs.Common.{◌≡◌, ℕ, Bool, true, false, cond, leb, not, ◌&&◌, ◌||◌, eqb, List, [], ◌∷◌, length, codes, Option, Some, None, Result, Ok, Err, unwrap_or, refl, ap, sym, subst, ◌∙◌, arith}
use Rattle.std.specs.Option.{is_none}
use Rattle.std.specs.List.{fold, position}
use Rattle.std.specs.Str.{bytes_eq}
use Rattle.std.proofs.lemmas.Bool.{and_parts, and_from, le-leb, not-true}
use Rattle.image_tree.specs.declared.node.Node.{Node}
use Rattle.image_tree.specs.declared.node.Node.TheVariants as node
use Rattle.image_tree.specs.Node.{is_node, is_key, is_target, has_no_nul}
use Rattle.image_tree.specs.Paths.{is_path}
use Rattle.manifest_words.specs.Escape.{decoded, in_front}
use Rattle.mtree_manifest.specs.Good.{IsGood, IsGoodAt, IsGoodAfter, IsGoodOpen, are_good, is_good_link, is_good_contents}
use Rattle.mtree_manifest.specs.Progress.{Open, given_by_head, with_word_after, with_word, line_ended, reading_after, reading_of}
use Rattle.manifest_words.specs.Keys.{Values, Given, no_values, given_by, divided, is_equals, keyword_of, with_value, without, value_fault, rank, first_fault, fault_unless, text_fault, is_link_text}
use Rattle.manifest_words.specs.Decoding.{first_byte}
use Rattle.manifest_words.proofs.Names.{path_key}
use Rattle.manifest_words.proofs.Decoded.{decoded_step, then_rest}
use Rattle.mtree_manifest.specs.Manifest.{State, ◌>>=◌, Faulty, Defaults, Puts, head_of, with_put, with_node, with_reading, entry_fault, entry, node_of, node_by, text_of, key_of, id_of, target_fault, unless_faulty, put_by, stack_after, is_dir}
use Rattle.manifest_words.specs.Paths.{Stack, closed, place, place_fault_of, path_of, names_of, below, base_of, is_place, is_directive}
use Rattle.manifest_words.specs.declared.fault.LineKind.{LineKind}
use Rattle.manifest_words.specs.declared.fault.LineKind.TheVariants.{BadLine}
use Rattle.mtree_manifest.specs.declared.fault.ManifestFault.{ManifestFault}
use Rattle.image_tree.specs.Tree.{Nodes}
use Rattle.manifest_words.specs.declared.keys.Keyword.{Keyword}
use Rattle.manifest_words.specs.declared.keys.Keyword.TheVariants as keyword
use Rattle.mtree_manifest.specs.declared.line.Head.{Head}
use Rattle.mtree_manifest.specs.declared.line.Head.TheVariants as head
use Rattle.manifest_words.specs.declared.keys.LineType.{LineType}
use Rattle.manifest_words.specs.declared.keys.LineType.TheVariants as types
use Rattle.image_tree.specs.declared.node.TheConstants.{NODE_TEXT_MAX}

-- if a line has no error, its parts have no error
pub neither : (a b : Option LineKind) → first_fault a b ≡ None → (a ≡ None) × (b ≡ None)
neither None b e = (refl, e)
neither (Some x) None e = absurd (cc)
neither (Some x) (Some y) e = absurd (chosen (leb (rank x) (rank y)) e)
  where
    chosen : (t : Bool) → cond t (Some x) (Some y) ≡ None → ⊥
    chosen true h = cc
    chosen false h = cc

pub holds : (t : Bool) (kind : LineKind) → fault_unless t kind ≡ None → t ≡ true
holds true kind e = refl
holds false kind e = absurd (cc)

pub faultless : (dirs : Stack) (first : List ℕ) (g : Given) → entry_fault dirs first g ≡ None → entry dirs first g ≡ Puts (stack_after dirs first g.values) (put_by (place dirs first) g.values)
faultless dirs first g e = ap (λ f. unless_faulty f (Puts (stack_after dirs first g.values) (put_by (place dirs first) g.values))) e

pub faulty : (dirs : Stack) (first : List ℕ) (g : Given) (kind : LineKind) → entry_fault dirs first g ≡ Some kind → entry dirs first g ≡ Faulty kind
faulty dirs first g kind e = ap (λ f. unless_faulty f (Puts (stack_after dirs first g.values) (put_by (place dirs first) g.values))) e

-- a word that has no error and doesn't name the root names a valid path
pub path_found : (d : Bool) (base word : List ℕ) (found : Option (List (List ℕ))) → place_fault_of d base word found ≡ None → eqb (length (path_of found base)) 0 ≡ false → is_path (path_of found base) ≡ true
path_found d base word None e some = absurd (cc)
path_found d base word (Some names) e some =
    let test = holds (not (is_directive word) && is_place d base names) _ e in
    let place = (and_parts (not (is_directive word)) (is_place d base names) test).1 in
    let last = (and_parts _ (eqb (length (below base names)) 0 || is_path (below base names)) place).1 in
    sym (ap (λ t. t || is_path (below base names)) some) ∙ last

of_place : (t : Bool) (o : Option Node) (n : Node) → cond t None o ≡ Some n → (t ≡ false) × (o ≡ Some n)
of_place true o n e = absurd (cc)
of_place false o n e = (refl, e)

pub good_path : (dirs : Stack) (first : List ℕ) (g : Given) (n : Node) → entry_fault dirs first g ≡ None → node_of g.values (place dirs first) ≡ Some n → is_path (place dirs first) ≡ true
good_path dirs first g n e made =
    let none = neither _ _ (neither g.fault _ e).1 in
    path_found (is_dir g.values.kind) (base_of dirs first) first (names_of first) none.0 (of_place _ _ n made).0

-- texts that were checked
good_text : (may_be : List ℕ → Bool) (text : Option (List ℕ)) → is_none (text_fault may_be text) ≡ true → may_be (unwrap_or text []) ≡ true
good_text may_be None e = absurd (cc)
good_text may_be (Some text) e = by_test (may_be text) refl e
  where
    by_test : (t : Bool) → may_be text ≡ t → is_none (fault_unless t BadLine) ≡ true → may_be text ≡ true
    by_test true h k = h
    by_test false h k = absurd (cc)

key_good : (contents : Option (List ℕ)) (path : List ℕ) → is_path path ≡ true → is_good_contents contents ≡ true → is_key (key_of contents path) ≡ true
key_good None path proper good = path_key path proper
key_good (Some value) path proper good = good_text is_key (decoded value) good

some_target : (b : ℕ) (text : Option (List ℕ)) → is_none (text_fault is_link_text (in_front (Some b) text)) ≡ true → is_target (unwrap_or (in_front (Some b) text) []) ≡ true
some_target b None good = absurd (cc)
some_target b (Some text) good =
    let t = b ∷ text in
    let parts = and_parts (leb (length t) NODE_TEXT_MAX) (has_no_nul t) (good_text is_link_text (Some t) good) in
    and_from (leb 1 (length t) && leb (length t) NODE_TEXT_MAX) (has_no_nul t) (and_from (leb 1 (length t)) (leb (length t) NODE_TEXT_MAX) (le-leb 1 (length t) (omega arith)) parts.0) parts.1

first_target : (first : Option (ℕ × List ℕ)) → is_none (text_fault is_link_text (then_rest first)) ≡ true → is_target (unwrap_or (then_rest first) []) ≡ true
first_target None good = absurd (cc)
first_target (Some x) good = some_target x.0 (decoded x.1) good

target_good : (link : List ℕ) → is_good_link link ≡ true → eqb (length link) 0 ≡ false → is_target (text_of link) ≡ true
target_good [] good some = absurd (cc)
target_good (b ∷ rest) good some =
    let step = decoded_step b rest in
    let first : is_none (text_fault is_link_text (then_rest (first_byte (b ∷ rest)))) ≡ true = subst (λ d. is_none (text_fault is_link_text d) ≡ true) step good in
    subst (λ d. is_target (unwrap_or d []) ≡ true) (sym step) (first_target (first_byte (b ∷ rest)) first)

node_good : (kind : LineType) (v : Values) (path : List ℕ) (n : Node) → is_path path ≡ true → are_good v ≡ true → target_fault (record v { kind = kind }) ≡ None → node_by kind v path ≡ Some n → is_node n ≡ true
node_good types.File v path n proper good target e =
    let same : node.File (key_of v.contents path) (id_of v) ≡ n = cc in
    subst (λ m. is_node m ≡ true) same (key_good v.contents path proper (and_parts (is_good_link v.link) (is_good_contents v.contents) good).1)
node_good types.Dir v path n proper good target e =
    let same : node.Dir ≡ n = cc in
    subst (λ m. is_node m ≡ true) same refl
node_good types.Link v path n proper good target e =
    let same : node.Link (text_of v.link) ≡ n = cc in
    let some = not-true (eqb (length v.link) 0) (holds (not (eqb (length v.link) 0)) _ target) in
    subst (λ m. is_node m ≡ true) same (target_good v.link (and_parts (is_good_link v.link) (is_good_contents v.contents) good).0 some)
node_good types.NoNode v path n proper good target e = absurd (cc)
node_good types.Unknown v path n proper good target e = absurd (cc)

pub good_node : (dirs : Stack) (first : List ℕ) (g : Given) (n : Node) → entry_fault dirs first g ≡ None → IsGood g → node_of g.values (place dirs first) ≡ Some n → is_node n ≡ true
good_node dirs first g n e good made =
    let parts = neither g.fault _ e in
    let none = neither _ _ parts.1 in
    node_good g.values.kind g.values (place dirs first) n (good_path dirs first g n e made) (good parts.0) none.1 (of_place _ _ n made).1

-- ---- the values of a line stay good

given_good : (g : Given) (d : Keyword × Option (List ℕ)) → IsGood g → IsGood (given_by g d)
given_good g (k, None) good = λ e. good (neither g.fault _ e).0
given_good g (k, Some value) good = λ e. with_good k g.values value (good (neither g.fault _ e).0) (neither g.fault _ e).1
  where
    with_good : (k : Keyword) (v : Values) (value : List ℕ) → are_good v ≡ true → value_fault k value ≡ None → are_good (with_value v k value) ≡ true
    with_good keyword.Type v value good e = good
    with_good keyword.Dev v value good e = good
    with_good keyword.Inode v value good e = good
    with_good keyword.Ctime v value good e = good
    with_good keyword.Size v value good e = good
    with_good keyword.Other v value good e = good
    with_good keyword.Link v value good e = and_from (is_good_link value) (is_good_contents v.contents) (ap is_none e) (and_parts (is_good_link v.link) (is_good_contents v.contents) good).1
    with_good keyword.Contents v value good e = and_from (is_good_link v.link) (is_good_contents (Some value)) (and_parts (is_good_link v.link) (is_good_contents v.contents) good).0 (ap is_none e)

empty_good : is_good_link [] ≡ true
unfolding decoded
empty_good = refl

pub none_good : are_good no_values ≡ true
none_good = and_from (is_good_link []) true empty_good refl

unset_good : (t : Bool) (v : Values) (k : Keyword) → are_good v ≡ true → are_good (cond t no_values (without v k)) ≡ true
unset_good true v k good = none_good
unset_good false v keyword.Type good = good
unset_good false v keyword.Dev good = good
unset_good false v keyword.Inode good = good
unset_good false v keyword.Ctime good = good
unset_good false v keyword.Size good = good
unset_good false v keyword.Other good = good
unset_good false v keyword.Link good = and_from (is_good_link []) (is_good_contents v.contents) empty_good (and_parts (is_good_link v.link) (is_good_contents v.contents) good).1
unset_good false v keyword.Contents good = and_from (is_good_link v.link) true (and_parts (is_good_link v.link) (is_good_contents v.contents) good).0 refl

first_good : (h : Head) (g : Given) → are_good g.values ≡ true → IsGoodAt h g
first_good head.Comment g good = λ e. good
first_good head.Set g good = λ e. good
first_good head.Unset g good = good
first_good head.Close g good = λ e. good
first_good head.Entry g good = λ e. good

next_good : (h : Head) (g : Given) (word : List ℕ) → IsGoodAt h g → IsGoodAt h (given_by_head h g word)
next_good head.Comment g word good = good
next_good head.Set g word good = given_good g (divided word (position is_equals word)) good
next_good head.Unset g word good = unset_good (bytes_eq word (codes "all")) g.values (keyword_of word) good
next_good head.Close g word good = good
next_good head.Entry g word good = given_good g (divided word (position is_equals word)) good

word_good : (n : ℕ) (f : Option (Head × List ℕ)) (g : Given) (word : List ℕ) → IsGoodAfter f g → IsGoodOpen (with_word_after n f g word)
word_good n None g word good = first_good (head_of word) g good
word_good n (Some first) g word good = next_good first.0 g word good

pub words_good : (o : Open) (words : List (List ℕ)) → IsGoodOpen o → IsGoodOpen (fold with_word o words)
words_good o [] good = good
words_good o (word ∷ words) good = words_good (with_word o word) words (word_good o.number o.first o.given word good)

-- ---- the defaults after a line are good

same_state : (a b : State) → ◌≡◌ {A = Result State ManifestFault} (Ok a) (Ok b) → a ≡ b
same_state a b e = cc

is_good_ok : (a t : State) → ◌≡◌ {A = Result State ManifestFault} (Ok a) (Ok t) → are_good a.defaults ≡ true → are_good t.defaults ≡ true
is_good_ok a t e good = subst (λ (s : State). are_good s.defaults ≡ true) (same_state a t e) good

node_keeps : (s t : State) (dirs : Stack) (r : Result Nodes ManifestFault) → (r >>= (λ tree. Ok (record s { tree = tree; dirs = dirs }))) ≡ Ok t → are_good s.defaults ≡ true → are_good t.defaults ≡ true
node_keeps s t dirs (Ok tree) e good = is_good_ok (record s { tree = tree; dirs = dirs }) t e good
node_keeps s t dirs (Err x) e good = absurd (cc)

put_keeps : (n : ℕ) (s t : State) (dirs : Stack) (x : Option (List ℕ × Node)) → with_put n s dirs x ≡ Ok t → are_good s.defaults ≡ true → are_good t.defaults ≡ true
put_keeps n s t dirs None e good = is_good_ok (record s { dirs = dirs }) t e good
put_keeps n s t dirs (Some x) e good = node_keeps s t dirs (with_node n s.tree x) e good

unless_keeps : (n : ℕ) (s t : State) (f : Option LineKind) (dirs : Stack) (x : Option (List ℕ × Node)) → with_reading n s (unless_faulty f (Puts dirs x)) ≡ Ok t → are_good s.defaults ≡ true → are_good t.defaults ≡ true
unless_keeps n s t None dirs x e good = put_keeps n s t dirs x e good
unless_keeps n s t (Some kind) dirs x e good = absurd (cc)

set_keeps : (n : ℕ) (s t : State) (v : Values) (f : Option LineKind) → with_reading n s (unless_faulty f (Defaults v)) ≡ Ok t → (f ≡ None → are_good v ≡ true) → are_good t.defaults ≡ true
set_keeps n s t v None e good = is_good_ok (record s { defaults = v }) t e (good refl)
set_keeps n s t v (Some kind) e good = absurd (cc)

close_keeps : (n : ℕ) (s t : State) (b : Bool) → with_reading n s (cond b (Faulty BadLine) (Puts (closed s.dirs) None)) ≡ Ok t → are_good s.defaults ≡ true → are_good t.defaults ≡ true
close_keeps n s t true e good = absurd (cc)
close_keeps n s t false e good = put_keeps n s t (closed s.dirs) None e good

line_keeps : (n : ℕ) (s t : State) (h : Head) (first : List ℕ) (g : Given) → with_reading n s (reading_of h first g s.dirs) ≡ Ok t → are_good s.defaults ≡ true → IsGoodAt h g → are_good t.defaults ≡ true
line_keeps n s t head.Comment first g e good line = put_keeps n s t s.dirs None e good
line_keeps n s t head.Set first g e good line = set_keeps n s t g.values g.fault e line
line_keeps n s t head.Unset first g e good line = is_good_ok (record s { defaults = g.values }) t e line
line_keeps n s t head.Close first g e good line = close_keeps n s t (eqb (length s.dirs) 0) e good
line_keeps n s t head.Entry first g e good line = unless_keeps n s t (entry_fault s.dirs first g) (stack_after s.dirs first g.values) (put_by (place s.dirs first) g.values) e good

after_keeps : (n : ℕ) (s t : State) (f : Option (Head × List ℕ)) (g : Given) → with_reading n s (reading_after f g s.dirs) ≡ Ok t → are_good s.defaults ≡ true → IsGoodAfter f g → are_good t.defaults ≡ true
after_keeps n s t None g e good line = put_keeps n s t s.dirs None e good
after_keeps n s t (Some first) g e good line = line_keeps n s t first.0 first.1 g e good line

pub defaults_good : (s t : State) (o : Open) → line_ended s o ≡ Ok t → are_good s.defaults ≡ true → IsGoodOpen o → are_good t.defaults ≡ true
defaults_good s t o e good line = after_keeps o.number s t o.first o.given e good line
