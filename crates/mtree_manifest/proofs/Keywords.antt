-- The keywords of a canonical line, and the values that they give.
use Rattle.std.proofs.Common.{◌≡◌, ◌<◌, ◌≤◌, ◌+◌, ◌^◌, ℕ, Bool, true, false, leb, ltb, eqb, not, ◌&&◌, cond, List, [], ◌∷◌, ◌++◌, length, drop, codes, decimal, Option, Some, None, refl, ap, sym, ◌∙◌, length-append, append_assoc, arith}
use Rattle.std.specs.Option.{is_some, unwrap_or}
use Rattle.std.specs.List.{list_all, fold, position, position_or_len, AllByRecursion}
use Rattle.std.specs.Char.{is_ascii_digit}
use Rattle.std.specs.Str.{bytes_eq, is_utf8}
use Rattle.std.specs.Str.Parse.{digits_value}
use Rattle.std.proofs.Math.Seq.{drop-append-add, take-append_seam}
use Rattle.std.proofs.lemmas.Bool.{and_parts, and_from, leb-true, le-leb, lt-ltb, ne_eqb, eq-eqb, cond-true, cond-false, not-true}
use Rattle.std.proofs.lemmas.Fmt.{digits_decimal, digits_value-decimal, length-decimal-le, decimal_nonempty}
use Rattle.std.proofs.lemmas.List.{append-nil}
use Rattle.std.proofs.lemmas.List.Concat.{flat_map-append}
use Rattle.std.proofs.lemmas.List.Folds.{list_all-append}
use Rattle.image_tree.specs.declared.node.Id.{Id}
use Rattle.image_tree.specs.declared.node.Node.{Node}
use Rattle.image_tree.specs.declared.node.Node.TheVariants as node
use Rattle.image_tree.specs.Node.{is_node, is_key, is_target, has_no_nul}
use Rattle.mtree_manifest.specs.Canon.{id_words, key_words, node_words, node_line}
use Rattle.manifest_words.specs.Escape.{escaped}
use Rattle.manifest_words.specs.Keys.{Values, Given, no_values, given, given_word, given_by, divided, is_equals, keyword_of, value_fault, with_value, number_of, text_fault, fault_unless, is_link_text}
use Rattle.manifest_words.specs.Lines.{goes_on}
use Rattle.mtree_manifest.specs.Manifest.{node_by, key_of, id_of, is_link, target_fault}
use Rattle.manifest_words.specs.Range.{AreBytes, IsSomeIdInRange, IsNodeInRange}
use Rattle.manifest_words.specs.declared.fault.LineKind.TheVariants.{BadLine, BadNumber, NoTarget}
use Rattle.manifest_words.specs.declared.keys.LineType.TheVariants as types
use Rattle.manifest_words.proofs.Escaping.{decoded_escaped, escaped_printed, escaped_some, escaped_ends, bytes_same}
use Rattle.manifest_words.proofs.Numbers.{digits_model}
use Rattle.manifest_words.proofs.Tokens.{IsToken, are_printed, spaced, goes_on-append}
use Rattle.image_tree.specs.declared.node.TheConstants.{NODE_TEXT_MAX}

-- ---- the words

pub id_keywords : Option Id → List (List ℕ)
id_keywords None = []
id_keywords (Some id) =
    (codes "dev=" ++ decimal id.dev) ∷ (codes "inode=" ++ decimal id.inode) ∷ (codes "ctime=" ++ decimal id.ctime) ∷ (codes "size=" ++ decimal id.size) ∷ []

pub key_keywords : Bool → List ℕ → List (List ℕ)
key_keywords true key = []
key_keywords false key = (codes "contents=" ++ escaped key) ∷ []

pub keywords : List ℕ → Node → List (List ℕ)
keywords path node.Dir = codes "type=dir" ∷ []
keywords path (node.File key id) = codes "type=file" ∷ (id_keywords id ++ key_keywords (bytes_eq key (drop 1 path)) key)
keywords path (node.Link target) = codes "type=link" ∷ (codes "link=" ++ escaped target) ∷ []

four : (a b c d e f g h : List ℕ) → a ++ b ++ c ++ d ++ e ++ f ++ g ++ h ≡ (a ++ b) ++ ((c ++ d) ++ ((e ++ f) ++ ((g ++ h) ++ [])))
four a b c d e f g h = simp (append_assoc, append-nil)

id_spaced : (id : Option Id) → id_words id ≡ spaced (id_keywords id)
unfolding id_keywords
id_spaced None = refl
id_spaced (Some id) = four (codes " dev=") (decimal id.dev) (codes " inode=") (decimal id.inode) (codes " ctime=") (decimal id.ctime) (codes " size=") (decimal id.size)

key_spaced : (t : Bool) (key : List ℕ) → cond t [] (codes " contents=" ++ escaped key) ≡ spaced (key_keywords t key)
unfolding key_keywords
key_spaced true key = refl
key_spaced false key = ap (λ last. codes " contents=" ++ last) (sym (append-nil (escaped key)))

node_spaced : (path : List ℕ) (n : Node) → node_words path n ≡ spaced (keywords path n)
unfolding keywords
node_spaced path node.Dir = refl
node_spaced path (node.File key id) =
    ap (λ ws. codes " type=file" ++ ws ++ key_words path key) (id_spaced id)
    ∙ ap (λ ws. codes " type=file" ++ spaced (id_keywords id) ++ ws) (key_spaced (bytes_eq key (drop 1 path)) key)
    ∙ append_assoc (codes " type=file") (spaced (id_keywords id)) (spaced (key_keywords (bytes_eq key (drop 1 path)) key))
    ∙ ap (λ ws. codes " type=file" ++ ws) (sym (flat_map-append (λ word. 32 ∷ word) (id_keywords id) (key_keywords (bytes_eq key (drop 1 path)) key)))
node_spaced path (node.Link target) = ap (λ last. codes " type=link link=" ++ last) (sym (append-nil (escaped target)))

-- the first word of a line
abbrev pub path_word : List ℕ → List ℕ
path_word path = 46 ∷ escaped path

pub line_spaced : (path : List ℕ) (n : Node) → node_line (path, n) ≡ (path_word path ++ spaced (keywords path n)) ++ 10 ∷ []
line_spaced path n = ap (λ words. (path_word path ++ words) ++ 10 ∷ []) (node_spaced path n)

-- ---- each word is a token

no_backslash_ends : (w : List ℕ) → list_all (λ b. not (eqb b 92)) w ≡ true → goes_on w ≡ false
no_backslash_ends [] h = refl
no_backslash_ends (b ∷ []) h =
    let other = not-true (eqb b 92) (and_parts (not (eqb b 92)) true h).0 in
    ap (λ t. t && true) (ne_eqb 92 b (λ e. absurd (cc (eq-eqb b 92 (sym e)))))
no_backslash_ends (b ∷ c ∷ w) h =
    goes_on-append (b ∷ []) (c ∷ w) (omega arith) ∙ no_backslash_ends (c ∷ w) (and_parts (not (eqb b 92)) (list_all (λ x. not (eqb x 92)) (c ∷ w)) h).1

digit_bounds : (b : ℕ) → is_ascii_digit b ≡ true → (48 ≤ b) × (b ≤ 57)
digit_bounds b e =
    let parts = and_parts (leb 48 b) (leb b 57) e in
    (leb-true 48 b parts.0, leb-true b 57 parts.1)

digits_printed : (w : List ℕ) → list_all is_ascii_digit w ≡ true → are_printed w ≡ true
digits_printed [] h = refl
digits_printed (b ∷ w) h =
    let parts = and_parts (is_ascii_digit b) (list_all is_ascii_digit w) h in
    and_from (leb 33 b) (are_printed w) (le-leb 33 b (omega (arith, digit_bounds b parts.0))) (digits_printed w parts.1)

digits_end : (w : List ℕ) → list_all is_ascii_digit w ≡ true → list_all (λ b. not (eqb b 92)) w ≡ true
digits_end [] h = refl
digits_end (b ∷ w) h =
    let parts = and_parts (is_ascii_digit b) (list_all is_ascii_digit w) h in
    let bounds = digit_bounds b parts.0 in
    and_from (not (eqb b 92)) (list_all (λ x. not (eqb x 92)) w) (ap (λ t. not t) (ne_eqb b 92 (λ e. absurd (omega arith)))) (digits_end w parts.1)

-- a keyword with its `=`, and then a value
pub keyed_token : (front value : List ℕ) → are_printed front ≡ true → are_printed value ≡ true → 0 < length value → goes_on value ≡ false → IsToken (front ++ value)
keyed_token front value f v some ends = record {
  some = omega (arith, length-append front value);
  printed = list_all-append (λ b. leb 33 b) front value ∙ and_from (are_printed front) (are_printed value) f v;
  ends = goes_on-append front value some ∙ ends;
}

number_token : (front : List ℕ) (n : ℕ) → are_printed front ≡ true → n < 2 ^ 64 → IsToken (front ++ decimal n)
number_token front n f lt =
    let digits = digits_decimal digits_model n lt in
    keyed_token front (decimal n) f (digits_printed (decimal n) digits) (decimal_nonempty n lt) (no_backslash_ends (decimal n) (digits_end (decimal n) digits))

text_token : (front text : List ℕ) → are_printed front ≡ true → AreBytes text → 0 < length text → IsToken (front ++ escaped text)
text_token front text f all some = keyed_token front (escaped text) f (escaped_printed text all) (escaped_some text some) (escaped_ends text all some)

all_append : (xs ys : List (List ℕ)) → AllByRecursion IsToken xs → AllByRecursion IsToken ys → AllByRecursion IsToken (xs ++ ys)
all_append [] ys a b = b
all_append (x ∷ xs) ys a b = (a.0, all_append xs ys a.1 b)

id_tokens : (id : Option Id) → IsSomeIdInRange id → AllByRecursion IsToken (id_keywords id)
unfolding id_keywords
id_tokens None range = tt
id_tokens (Some id) range =
    (number_token (codes "dev=") id.dev refl range.dev, (number_token (codes "inode=") id.inode refl range.inode, (number_token (codes "ctime=") id.ctime refl range.ctime, (number_token (codes "size=") id.size refl range.size, tt))))

target_some : (text : List ℕ) → is_target text ≡ true → 0 < length text
target_some text e = leb-true 1 (length text) (and_parts (leb 1 (length text)) (leb (length text) NODE_TEXT_MAX) (and_parts (leb 1 (length text) && leb (length text) NODE_TEXT_MAX) (has_no_nul text) e).0).0

target_clear : (text : List ℕ) → is_target text ≡ true → has_no_nul text ≡ true
target_clear text e = (and_parts (leb 1 (length text) && leb (length text) NODE_TEXT_MAX) (has_no_nul text) e).1

key_tokens : (t : Bool) (key : List ℕ) → is_key key ≡ true → AreBytes key → AllByRecursion IsToken (key_keywords t key)
unfolding key_keywords
key_tokens true key good range = tt
key_tokens false key good range = (text_token (codes "contents=") key refl range (target_some key (and_parts (is_target key) (is_utf8 key) good).0), tt)

literal : (w : List ℕ) → 0 < length w → are_printed w ≡ true → goes_on w ≡ false → IsToken w
literal w some printed ends = record { some = some; printed = printed; ends = ends }

pub keyword_tokens : (path : List ℕ) (n : Node) → is_node n ≡ true → IsNodeInRange n → AllByRecursion IsToken (keywords path n)
unfolding keywords
keyword_tokens path node.Dir good range = (literal (codes "type=dir") (omega arith) refl refl, tt)
keyword_tokens path (node.File key id) good range =
    (literal (codes "type=file") (omega arith) refl refl, all_append (id_keywords id) (key_keywords (bytes_eq key (drop 1 path)) key) (id_tokens id range.1) (key_tokens (bytes_eq key (drop 1 path)) key good range.0))
keyword_tokens path (node.Link target) good range =
    (literal (codes "type=link") (omega arith) refl refl, (text_token (codes "link=") target refl range (target_some target good), tt))

pub path_token : (path : List ℕ) → AreBytes path → 0 < length path → IsToken (path_word path)
path_token path all some = text_token (codes ".") path refl all some

-- ---- the values that they give

first_passes : (p : ℕ → Bool) (w v : List ℕ) (b : ℕ) → list_all (λ x. not (p x)) w ≡ true → p b ≡ true → position_or_len p (w ++ b ∷ v) ≡ length w
first_passes p [] v b none at = cond-false (not (p b)) _ _ (ap (λ t. not t) at)
first_passes p (x ∷ w) v b none at =
    let parts = and_parts (not (p x)) (list_all (λ y. not (p y)) w) none in
    cond-true (not (p x)) _ _ parts.0 ∙ ap (λ n. 1 + n) (first_passes p w v b parts.1 at) ∙ omega arith

divided_at : (key value : List ℕ) → list_all (λ x. not (is_equals x)) key ≡ true → divided (key ++ 61 ∷ value) (position is_equals (key ++ 61 ∷ value)) ≡ (keyword_of key, Some value)
divided_at key value none =
    let word = key ++ 61 ∷ value in
    let first = first_passes is_equals key value 61 none refl in
    let index : position is_equals word ≡ Some (length key) =
    ap (λ n. cond (ltb n (length word)) (Some n) None) first ∙ cond-true (ltb (length key) (length word)) _ _ (lt-ltb _ _ (omega (arith, length-append key (61 ∷ value)))) in
    ap (divided word) index
    ∙ ap (λ k. (keyword_of k, Some (drop (length key + 1) word))) (take-append_seam key (61 ∷ value))
    ∙ ap (λ v. (keyword_of key, Some v)) (drop-append-add key (61 ∷ value) 1)

-- a keyword with a good value
gives : (v : Values) (key value : List ℕ) → list_all (λ x. not (is_equals x)) key ≡ true → value_fault (keyword_of key) value ≡ None → given_word (record { values = v; fault = None }) (key ++ 61 ∷ value) ≡ record { values = with_value v (keyword_of key) value; fault = None }
gives v key value none good =
    ap (given_by (record { values = v; fault = None })) (divided_at key value none)
    ∙ ap (λ f. record { values = with_value v (keyword_of key) value; fault = f }) good

pub number_read : (n : ℕ) → n < 2 ^ 64 → number_of (decimal n) ≡ Some n
number_read n lt =
    let d = decimal n in
    let value = digits_value-decimal digits_model n lt in
    let some = le-leb 1 (length d) (omega (arith, decimal_nonempty n lt)) in
    let short = le-leb (length d) 20 (length-decimal-le 20 n (omega arith) (omega arith) lt) in
    cond-true (leb 1 (length d) && leb (length d) 20 && list_all is_ascii_digit d && ltb (digits_value 10 d) (2 ^ 64)) (Some (digits_value 10 d)) None
    (and_from _ _ (and_from _ _ (and_from _ _ some short) (digits_decimal digits_model n lt)) (lt-ltb _ _ (omega arith)))
    ∙ ap Some value

number_good : (n : ℕ) → n < 2 ^ 64 → fault_unless (is_some (number_of (decimal n))) BadNumber ≡ None
number_good n lt = ap (λ o. fault_unless (is_some o) BadNumber) (number_read n lt)

dev_given : (v : Values) (n : ℕ) → n < 2 ^ 64 → given_word (record { values = v; fault = None }) (codes "dev=" ++ decimal n) ≡ record { values = record v { dev = Some n }; fault = None }
dev_given v n lt = gives v (codes "dev") (decimal n) refl (number_good n lt) ∙ ap (λ o. record { values = record v { dev = o }; fault = None }) (number_read n lt)

inode_given : (v : Values) (n : ℕ) → n < 2 ^ 64 → given_word (record { values = v; fault = None }) (codes "inode=" ++ decimal n) ≡ record { values = record v { inode = Some n }; fault = None }
inode_given v n lt = gives v (codes "inode") (decimal n) refl (number_good n lt) ∙ ap (λ o. record { values = record v { inode = o }; fault = None }) (number_read n lt)

ctime_given : (v : Values) (n : ℕ) → n < 2 ^ 64 → given_word (record { values = v; fault = None }) (codes "ctime=" ++ decimal n) ≡ record { values = record v { ctime = Some n }; fault = None }
ctime_given v n lt = gives v (codes "ctime") (decimal n) refl (number_good n lt) ∙ ap (λ o. record { values = record v { ctime = o }; fault = None }) (number_read n lt)

size_given : (v : Values) (n : ℕ) → n < 2 ^ 64 → given_word (record { values = v; fault = None }) (codes "size=" ++ decimal n) ≡ record { values = record v { size = Some n }; fault = None }
size_given v n lt = gives v (codes "size") (decimal n) refl (number_good n lt) ∙ ap (λ o. record { values = record v { size = o }; fault = None }) (number_read n lt)

-- the values with an identity added, and with a key added
abbrev pub with_id : Option Id → Values → Values
with_id None v = v
with_id (Some id) v = record v { dev = Some id.dev; inode = Some id.inode; ctime = Some id.ctime; size = Some id.size }

abbrev pub with_key : Bool → List ℕ → Values → Values
with_key true key v = v
with_key false key v = record v { contents = Some (escaped key) }

abbrev nothing_wrong : Values → Given
nothing_wrong v = record { values = v; fault = None }

id_given : (id : Option Id) (v : Values) → IsSomeIdInRange id → fold given_word (nothing_wrong v) (id_keywords id) ≡ nothing_wrong (with_id id v)
unfolding id_keywords
id_given None v range = refl
id_given (Some id) v range =
    let i = codes "inode=" ++ decimal id.inode in
    let c = codes "ctime=" ++ decimal id.ctime in
    let s = codes "size=" ++ decimal id.size in
    let v1 = record v { dev = Some id.dev } in
    let v2 = record v1 { inode = Some id.inode } in
    let v3 = record v2 { ctime = Some id.ctime } in
    ap (λ g. given_word (given_word (given_word g i) c) s) (dev_given v id.dev range.dev)
    ∙ ap (λ g. given_word (given_word g c) s) (inode_given v1 id.inode range.inode)
    ∙ ap (λ g. given_word g s) (ctime_given v2 id.ctime range.ctime)
    ∙ size_given v3 id.size range.size

key_clear : (key : List ℕ) → is_key key ≡ true → has_no_nul key ≡ true
key_clear key good = target_clear key (and_parts (is_target key) (is_utf8 key) good).0

key_given : (t : Bool) (key : List ℕ) (v : Values) → is_key key ≡ true → AreBytes key → fold given_word (nothing_wrong v) (key_keywords t key) ≡ nothing_wrong (with_key t key v)
unfolding key_keywords
key_given true key v good range = refl
key_given false key v good range =
    gives v (codes "contents") (escaped key) refl
    (ap (text_fault is_key) (decoded_escaped key range (key_clear key good)) ∙ ap (λ t. fault_unless t BadLine) good)

fold_over : (g : Given) (xs ys : List (List ℕ)) → fold given_word g (xs ++ ys) ≡ fold given_word (fold given_word g xs) ys
fold_over g [] ys = refl
fold_over g (x ∷ xs) ys = fold_over (given_word g x) xs ys

-- the values that a node's keywords give
pub values_for : List ℕ → Node → Values
values_for path node.Dir = record no_values { kind = types.Dir }
values_for path (node.File key id) = with_key (bytes_eq key (drop 1 path)) key (with_id id no_values)
values_for path (node.Link target) = record no_values { kind = types.Link; link = escaped target }

target_text : (text : List ℕ) → is_target text ≡ true → is_link_text text ≡ true
target_text text e =
    let parts = and_parts (leb 1 (length text) && leb (length text) NODE_TEXT_MAX) (has_no_nul text) e in
    and_from (leb (length text) NODE_TEXT_MAX) (has_no_nul text) (and_parts (leb 1 (length text)) (leb (length text) NODE_TEXT_MAX) parts.0).1 parts.1

pub keywords_given : (path : List ℕ) (n : Node) → is_node n ≡ true → IsNodeInRange n → given no_values (keywords path n) ≡ nothing_wrong (values_for path n)
unfolding keywords values_for
keywords_given path node.Dir good range = refl
keywords_given path (node.File key id) good range =
    fold_over (nothing_wrong no_values) (id_keywords id) (key_keywords (bytes_eq key (drop 1 path)) key)
    ∙ ap (λ g. fold given_word g (key_keywords (bytes_eq key (drop 1 path)) key)) (id_given id no_values range.1)
    ∙ key_given (bytes_eq key (drop 1 path)) key (with_id id no_values) good range.0
keywords_given path (node.Link target) good range =
    gives (record no_values { kind = types.Link }) (codes "link") (escaped target) refl
    (ap (text_fault is_link_text) (decoded_escaped target range (target_clear target good)) ∙ ap (λ t. fault_unless t BadLine) (target_text target good))

id_made : (id : Option Id) (t : Bool) (key : List ℕ) → id_of (with_key t key (with_id id no_values)) ≡ id
id_made None true key = refl
id_made None false key = refl
id_made (Some id) true key = refl
id_made (Some id) false key = refl

key_made : (t : Bool) (path key : List ℕ) (v : Values) → v.contents ≡ None → bytes_eq key (drop 1 path) ≡ t → is_key key ≡ true → AreBytes key → key_of (with_key t key v).contents path ≡ key
key_made true path key v none same good range = ap (λ c. key_of c path) none ∙ sym (bytes_same key (drop 1 path) same)
key_made false path key v none same good range = ap (λ o. unwrap_or o []) (decoded_escaped key range (key_clear key good))

with_id_contents : (id : Option Id) → (with_id id no_values).contents ≡ None
with_id_contents None = refl
with_id_contents (Some id) = refl

file_kind : (t : Bool) (key : List ℕ) (id : Option Id) → (with_key t key (with_id id no_values)).kind ≡ types.File
file_kind true key None = refl
file_kind true key (Some id) = refl
file_kind false key None = refl
file_kind false key (Some id) = refl

-- these values give the same node
pub node_made : (path : List ℕ) (n : Node) → is_node n ≡ true → IsNodeInRange n → node_by (values_for path n).kind (values_for path n) path ≡ Some n
unfolding values_for
node_made path node.Dir good range = refl
node_made path (node.File key id) good range =
    let t = bytes_eq key (drop 1 path) in
    let v = with_key t key (with_id id no_values) in
    ap (λ k. node_by k v path) (file_kind t key id)
    ∙ ap (λ k. Some (node.File k (id_of v))) (key_made t path key (with_id id no_values) (with_id_contents id) refl good range.0)
    ∙ ap (λ i. Some (node.File key i)) (id_made id t key)
node_made path (node.Link target) good range = ap (λ o. Some (node.Link (unwrap_or o []))) (decoded_escaped target range (target_clear target good))

pub target_made : (path : List ℕ) (n : Node) → is_node n ≡ true → IsNodeInRange n → target_fault (values_for path n) ≡ None
unfolding values_for
target_made path node.Dir good range = refl
target_made path (node.File key id) good range = ap (λ k. fault_unless (not (is_link k && eqb (length (with_key (bytes_eq key (drop 1 path)) key (with_id id no_values)).link) 0)) NoTarget) (file_kind (bytes_eq key (drop 1 path)) key id)
target_made path (node.Link target) good range =
    ap (λ t. fault_unless (not t) NoTarget) (ne_eqb (length (escaped target)) 0 (λ e. absurd (omega (arith, escaped_some target (target_some target good)))))
