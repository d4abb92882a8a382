-- Reading the physical lines has the same result as reading the joined lines.
use Rattle.std.proofs.Common.{◌≡◌, ℕ, ◌+◌, Bool, true, false, cond, List, [], ◌∷◌, ◌++◌, Some, None, Result, Ok, Err, refl, ap, sym, ◌∙◌, append_assoc}
use Rattle.std.specs.List.{fold}
use Rattle.manifest_words.specs.Keys.{Values, Given, unset_word, unset}
use Rattle.manifest_words.specs.Lines.{Line, before, joined, goes_on, physical_words}
use Rattle.mtree_manifest.specs.Manifest.{State, Reading, ◌>>=◌, reading_by, head_of, with_reading, with_line, with_lines}
use Rattle.manifest_words.specs.Paths.{Stack}
use Rattle.mtree_manifest.specs.Progress.{Open, Progress, started, given_by_head, with_word, reading_of, line_ended, going_on, with_physicals}
use Rattle.mtree_manifest.specs.declared.fault.ManifestFault.{ManifestFault}
use Rattle.mtree_manifest.specs.declared.line.Head.{Head}
use Rattle.mtree_manifest.specs.declared.line.Head.TheVariants as head

-- ---- one line

pub after_first : (n : ℕ) (h : Head) (first : List ℕ) (g : Given) (rest : List (List ℕ)) → fold with_word (record { number = n; first = Some (h, first); given = g }) rest ≡ record { number = n; first = Some (h, first); given = fold (given_by_head h) g rest }
after_first n h first g [] = refl
after_first n h first g (word ∷ rest) = after_first n h first (given_by_head h g word) rest

unset_values : (g : Given) (rest : List (List ℕ)) → (fold (given_by_head head.Unset) g rest).values ≡ unset g.values rest
unset_values g [] = refl
unset_values g (word ∷ rest) = unset_values (record g { values = unset_word g.values word }) rest

by_head : (h : Head) (d : Values) (dirs : Stack) (first : List ℕ) (rest : List (List ℕ)) → reading_of h first (fold (given_by_head h) (record { values = d; fault = None }) rest) dirs ≡ reading_by h d dirs first rest
by_head head.Comment d dirs first rest = refl
by_head head.Set d dirs first rest = refl
by_head head.Unset d dirs first rest = ap Reading.Defaults (unset_values (record { values = d; fault = None }) rest)
by_head head.Close d dirs first rest = refl
by_head head.Entry d dirs first rest = refl

-- adding the words one at a time has the same result as the whole line
words_read : (n : ℕ) (s : State) (words : List (List ℕ)) → line_ended s (fold with_word (started n s.defaults) words) ≡ with_line s (record { number = n; words = words })
words_read n s [] = refl
words_read n s (first ∷ rest) =
    ap (line_ended s) (after_first n (head_of first) first (record { values = s.defaults; fault = None }) rest)
    ∙ ap (with_reading n s) (by_head (head_of first) s.defaults s.dirs first rest)

-- ---- the lines

bind_ok : {A : Type 0} (r : Result A ManifestFault) → (r >>= (λ x. Ok x)) ≡ r
bind_ok (Ok x) = refl
bind_ok (Err e) = refl

bind_twice : {A B C : Type 0} (r : Result A ManifestFault) (f : A → B) (g : B → Result C ManifestFault) (h : A → Result C ManifestFault) → ((x : A) → g (f x) ≡ h x) → ((r >>= (λ x. Ok (f x))) >>= g) ≡ (r >>= h)
bind_twice (Ok x) f g h same = same x
bind_twice (Err e) f g h same = refl

before_before : (m n : ℕ) (ws vs : List (List ℕ)) (lines : List Line) → before m ws (before n vs lines) ≡ before m (ws ++ vs) lines
before_before m n ws vs [] = refl
before_before m n ws vs (line ∷ lines) = ap (λ words. record { number = m; words = words } ∷ lines) (sym (append_assoc ws vs line.words))

before_joined : (t : Bool) (n : ℕ) (ws : List (List ℕ)) (lines : List Line) → before n [] (cond t (before n ws lines) (record { number = n; words = ws } ∷ lines)) ≡ cond t (before n ws lines) (record { number = n; words = ws } ∷ lines)
before_joined true n ws lines = before_before n n [] ws lines
before_joined false n ws lines = refl

-- a line without words before the others changes nothing
no_words : (s : State) (n : ℕ) (lines : List (List ℕ)) → with_lines s (before n [] (joined n lines)) ≡ with_lines s (joined n lines)
no_words s n [] = refl
no_words s n (line ∷ lines) = ap (with_lines s) (before_joined (goes_on line) n (physical_words line) (joined (n + 1) lines))

fold_append : (o : Open) (ws vs : List (List ℕ)) → fold with_word (fold with_word o ws) vs ≡ fold with_word o (ws ++ vs)
fold_append o [] vs = refl
fold_append o (w ∷ ws) vs = fold_append (with_word o w) ws vs

abbrev at : State → ℕ → List (List ℕ) → ℕ → Progress
at s m ws n = record { state = s; line = fold with_word (started m s.defaults) ws; next = n }

whole : (lines : List (List ℕ)) (s : State) (m : ℕ) (ws : List (List ℕ)) (n : ℕ) → with_physicals (at s m ws n) lines ≡ with_lines s (before m ws (joined n lines))
whole [] s m ws n = words_read m s ws ∙ sym (bind_ok (with_line s (record { number = m; words = ws })))
whole (line ∷ lines) s m ws n =
    ap (λ o. going_on (goes_on line) (n + 1) s o >>= (λ q. with_physicals q lines)) (fold_append (started m s.defaults) ws (physical_words line))
    ∙ by_end (goes_on line) line lines s m ws n (whole lines)
  where
    by_end : (t : Bool) (line : List ℕ) (lines : List (List ℕ)) (s : State) (m : ℕ) (ws : List (List ℕ)) (n : ℕ)
        → ((s : State) (m : ℕ) (ws : List (List ℕ)) (n : ℕ) → with_physicals (at s m ws n) lines ≡ with_lines s (before m ws (joined n lines)))
        → (going_on t (n + 1) s (fold with_word (started m s.defaults) (ws ++ physical_words line)) >>= (λ q. with_physicals q lines))
        ≡ with_lines s (before m ws (cond t (before n (physical_words line) (joined (n + 1) lines)) (record { number = n; words = physical_words line } ∷ joined (n + 1) lines)))
    by_end true line lines s m ws n rest =
        rest s m (ws ++ physical_words line) (n + 1)
        ∙ ap (with_lines s) (sym (before_before m n ws (physical_words line) (joined (n + 1) lines)))
    by_end false line lines s m ws n rest =
        bind_twice (line_ended s (fold with_word (started m s.defaults) (ws ++ physical_words line))) (λ t. at t (n + 1) [] (n + 1)) (λ q. with_physicals q lines) (λ t. with_lines t (joined (n + 1) lines))
        (λ t. rest t (n + 1) [] (n + 1) ∙ no_words t (n + 1) lines)
        ∙ ap (λ r. r >>= (λ t. with_lines t (joined (n + 1) lines))) (words_read m s (ws ++ physical_words line))

-- the physical lines have the same result as the joined lines
pub physicals : (s : State) (n : ℕ) (lines : List (List ℕ)) → with_physicals (record { state = s; line = started n s.defaults; next = n }) lines ≡ with_lines s (joined n lines)
physicals s n lines = whole lines s n [] n ∙ no_words s n lines
