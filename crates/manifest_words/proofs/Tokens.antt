-- The words of a canonical line, and the line made of them.
use Rattle.std.proofs.Common.{◌≡◌, ◌<◌, ◌≤◌, ◌+◌, ◌-◌, ℕ, Bool, true, false, leb, ltb, eqb, not, ◌&&◌, map, List, [], ◌∷◌, ◌++◌, length, take, drop, get_or, refl, ap, sym, ◌∙◌, append_assoc, length-append, arith, inr}
use Rattle.std.specs.List.{list_all, filter, slice_split, flat_map, All, AllByRecursion}
use Rattle.std.specs.Cmp.Lexicographic.{pointwise}
use Rattle.std.proofs.Math.Seq.{drop-append-add, get_or-append_seam, take-append_seam}
use Rattle.std.proofs.lemmas.Bool.{and_parts, and_from, or_from, ne_eqb, leb-true, le-leb, eq-eqb, cond-true, cond-false, lt-ltb, and_right}
use Rattle.std.proofs.lemmas.List.{append-nil, get_or_append_left}
use Rattle.std.proofs.lemmas.List.Folds.{list_all-append}
use Rattle.std.proofs.lemmas.List.Sums.{AllPass-from_list_all}
use Rattle.std.proofs.lemmas.List.Splits.{slice_split_at, slice_split_none}
use Rattle.bstr.specs.Text.{lines_of, without_terminator, no_cr}
use Rattle.bstr.proofs.lemmas.LineLemmas.{lines-append, lines-one}
use Rattle.manifest_words.specs.Lines.{is_blank, words_of, goes_on, physical_words, physical_lines}

-- bytes above the blank
abbrev pub are_printed : List ℕ → Bool
are_printed = list_all (λ b. leb 33 b)

-- a word that may end a line
pub record IsToken (word : List ℕ) : Type 0 where
  pub some : 0 < length word
  pub printed : are_printed word ≡ true
  pub ends : goes_on word ≡ false

pub goes_on-append : (a b : List ℕ) → 0 < length b → goes_on (a ++ b) ≡ goes_on b
goes_on-append a b some =
    let at : length (a ++ b) - 1 ≡ length a + (length b - 1) = omega (arith, length-append a b) in
    ap (pointwise eqb (92 ∷ [])) (ap (λ n. drop n (a ++ b)) at ∙ drop-append-add a b (length b - 1))

-- words with a blank before each
abbrev pub spaced : List (List ℕ) → List ℕ
spaced words = flat_map (λ word. 32 ∷ word) words

-- a line of tokens is not continued on the next line
tokens_end : (front : List ℕ) (words : List (List ℕ)) → goes_on front ≡ false → AllByRecursion IsToken words → goes_on (front ++ spaced words) ≡ false
tokens_end front [] ends all = ap goes_on (append-nil front) ∙ ends
tokens_end front (word ∷ words) ends all =
    ap goes_on (sym (append_assoc front (32 ∷ word) (spaced words)))
    ∙ tokens_end (front ++ 32 ∷ word) words (goes_on-append front (32 ∷ word) (omega arith) ∙ goes_on-append (32 ∷ []) word (all.0).some ∙ (all.0).ends) all.1

-- all bytes of the tokens and blanks are at least the blank, 32
tokens_printed : (words : List (List ℕ)) → AllByRecursion IsToken words → list_all (λ b. leb 32 b) (spaced words) ≡ true
tokens_printed [] all = refl
tokens_printed (word ∷ words) all =
    list_all-append (λ b. leb 32 b) word (spaced words)
    ∙ and_from (list_all (λ b. leb 32 b) word) (list_all (λ b. leb 32 b) (spaced words)) (from_printed word (all.0).printed) (tokens_printed words all.1)
  where
    from_printed : (w : List ℕ) → are_printed w ≡ true → list_all (λ b. leb 32 b) w ≡ true
    from_printed [] h = refl
    from_printed (b ∷ w) h =
        let parts = and_parts (leb 33 b) (are_printed w) h in
        and_from (leb 32 b) (list_all (λ b. leb 32 b) w) (le-leb 32 b (omega (arith, leb-true 33 b parts.0))) (from_printed w parts.1)

no_blank : (w : List ℕ) → are_printed w ≡ true → All (λ b. is_blank b ≡ false) w
no_blank w h k d lt =
    let high = leb-true 33 (get_or w k d) (AllPass-from_list_all (λ b. leb 33 b) w h k d lt) in
    or_from (eqb (get_or w k d) 32) (eqb (get_or w k d) 9) (ne_eqb _ _ (λ e. absurd (omega arith))) (ne_eqb _ _ (λ e. absurd (omega arith)))

kept_word : (word : List ℕ) (words : List (List ℕ)) → 0 < length word → filter (λ w. not (eqb (length w) 0)) (word ∷ words) ≡ word ∷ filter (λ w. not (eqb (length w) 0)) words
kept_word word words some = cond-true (not (eqb (length word) 0)) _ _ (ap not (ne_eqb (length word) 0 (λ e. absurd (omega arith))))

-- the words of the line are these
pub tokens_words : (word : List ℕ) (words : List (List ℕ)) → IsToken word → AllByRecursion IsToken words → words_of (word ++ spaced words) ≡ word ∷ words
tokens_words word [] first all =
    ap words_of (append-nil word) ∙ ap (filter (λ w. not (eqb (length w) 0))) (slice_split_none is_blank word (no_blank word first.printed)) ∙ kept_word word [] first.some
tokens_words word (next ∷ words) first all =
    ap (filter (λ w. not (eqb (length w) 0))) (slice_split_at is_blank word 32 (next ++ spaced words) (no_blank word first.printed) refl)
    ∙ kept_word word (slice_split is_blank (next ++ spaced words)) first.some
    ∙ ap (λ ws. word ∷ ws) (tokens_words next words all.0 all.1)

-- a line that may be in a canonical text
pub record IsBody (body : List ℕ) : Type 0 where
  pub printed : list_all (λ b. leb 32 b) body ≡ true
  pub ends : goes_on body ≡ false

pub tokens_body : (word : List ℕ) (words : List (List ℕ)) → IsToken word → AllByRecursion IsToken words → IsBody (word ++ spaced words)
tokens_body word words first all = record {
  printed = tokens_printed (word ∷ words) (first, all);
  ends = tokens_end word words first.ends all;
}

pub tokens_physical : (word : List ℕ) (words : List (List ℕ)) → IsToken word → AllByRecursion IsToken words → physical_words (word ++ spaced words) ≡ word ∷ words
tokens_physical word words first all =
    let body = word ++ spaced words in
    ap words_of (cond-false (goes_on body) (take (length body - 1) body) body (tokens_end word words first.ends all)) ∙ tokens_words word words first all

-- ---- the physical lines

high : (body : List ℕ) (k : ℕ) → list_all (λ b. leb 32 b) body ≡ true → k < length body → 32 ≤ get_or body k 0
high body k h lt = leb-true 32 (get_or body k 0) (AllPass-from_list_all (λ b. leb 32 b) body h k 0 lt)

ended_length : (body : List ℕ) → length (body ++ 10 ∷ []) ≡ length body + 1
ended_length body = length-append body (10 ∷ [])

line_first : (body rest : List ℕ) → IsBody body → lines_of ((body ++ 10 ∷ []) ++ rest) ≡ (body ++ 10 ∷ []) ∷ lines_of rest
line_first body rest good =
    let line = body ++ 10 ∷ [] in
    let long = ended_length body in
    let last : get_or line (length line - 1) 0 ≡ 10 = ap (λ n. get_or line (n - 1) 0) long ∙ ap (λ n. get_or line n 0) (by_minus (length body)) ∙ get_or-append_seam body 10 [] 0 in
    lines-append (length line) line rest (omega arith) (inr last)
    ∙ ap (λ ls. ls ++ lines_of rest) (lines-one line (omega arith) (λ k lt e.
    let within : k < length body = omega arith in
    let above = high body k good.printed within in
    let same = get_or_append_left body (10 ∷ []) 0 k within in
    absurd (omega arith)))
  where
    by_minus : (n : ℕ) → n + 1 - 1 ≡ n
    by_minus n = omega arith

no_return : (body : List ℕ) → list_all (λ b. leb 32 b) body ≡ true → no_cr body ≡ body
no_return [] h = refl
no_return (b ∷ body) h =
    let whole = b ∷ body in
    let above = high whole (length whole - 1) h (omega arith) in
    cond-false _ _ _ (and_right (ltb 0 (length whole)) (eqb (get_or whole (length whole - 1) 0) 13) (ne_eqb _ _ (λ e. absurd (omega arith))))

without_end : (body : List ℕ) → IsBody body → without_terminator (body ++ 10 ∷ []) ≡ body
without_end body good =
    let line = body ++ 10 ∷ [] in
    let long = ended_length body in
    let at : length line - 1 ≡ length body = omega arith in
    cond-true (ltb 0 (length line) && eqb (get_or line (length line - 1) 0) 10) (no_cr (take (length line - 1) line)) line
    (and_from _ _ (lt-ltb 0 (length line) (omega arith)) (eq-eqb _ _ (ap (λ n. get_or line n 0) at ∙ get_or-append_seam body 10 [] 0)))
    ∙ ap (λ n. no_cr (take n line)) at ∙ ap no_cr (take-append_seam body (10 ∷ [])) ∙ no_return body good.printed

pub physical_first : (body rest : List ℕ) → IsBody body → physical_lines ((body ++ 10 ∷ []) ++ rest) ≡ body ∷ physical_lines rest
physical_first body rest good =
    ap (map without_terminator) (line_first body rest good) ∙ ap (λ b. b ∷ physical_lines rest) (without_end body good)
