-- What is shown of a text, character by character.
use Rattle.std.proofs.Common.{◌≡◌, ◌<◌, ◌≤◌, ◌+◌, ℕ, zero, suc, Bool, min, List, [], ◌∷◌, ◌++◌, length, take, drop, refl, ap, sym, arith, append_assoc, ◌∙◌}
use Rattle.std.proofs.Math.Seq.{take-add}
use Rattle.std.proofs.lemmas.List.{append-nil, drop-drop, length-take, take_min}
use Rattle.std.specs.List.{slice_index}
use Rattle.standard_streams.specs.Shown.{escape_of, plain_len, shown, shown_after}

-- the front of a text that may be shorter
pub front : (n : ℕ) (text : List ℕ) → take (min n (length text)) text ≡ take n text
front n text = take_min n text

pub first_within : (n : ℕ) (text : List ℕ) → length (take n text) ≤ length text
first_within n text = omega (arith, length-take n text)

module _ (in_lines : Bool) where
  -- the bytes of a plain character are shown as they are
  bytes_first : (n : ℕ) (text : List ℕ) → n ≤ length text → shown_after in_lines n text ≡ take n text ++ shown in_lines (drop n text)
  bytes_first zero text le = refl
  bytes_first (suc n) [] le = absurd (omega arith)
  bytes_first (suc n) (b ∷ rest) le = ap (λ l. b ∷ l) (bytes_first n rest (omega arith))

  -- so is a plain character at the front
  plain_first : (text : List ℕ) (n : ℕ) → 0 < n → n ≤ length text → n ≡ plain_len in_lines text
      → shown in_lines text ≡ take n text ++ shown in_lines (drop n text)
  plain_first text zero some le e = absurd (omega arith)
  plain_first [] (suc n) some le e = absurd (omega arith)
  plain_first (b ∷ rest) (suc n) some le e = rw (sym e) (ap (λ l. b ∷ l) (bytes_first n rest (omega arith)))

  -- after the part that is shown as it is, a plain character adds to this part
  pub run_goes_on : (text : List ℕ) (at n : ℕ) → shown in_lines text ≡ take at text ++ shown in_lines (drop at text) → 0 < n → n ≤ length (drop at text)
      → n ≡ plain_len in_lines (drop at text) → shown in_lines text ≡ take (at + n) text ++ shown in_lines (drop (at + n) text)
  run_goes_on text at n before some le e =
      before
      ∙ ap (λ l. take at text ++ l) (plain_first (drop at text) n some le e)
      ∙ sym (append_assoc (take at text) (take n (drop at text)) (shown in_lines (drop n (drop at text))))
      ∙ ap (λ l. l ++ shown in_lines (drop n (drop at text))) (sym (take-add at n text))
      ∙ ap (λ l. take (at + n) text ++ shown in_lines l) (drop-drop n at text)

  -- any other byte at the front is escaped
  escaped_first : (text : List ℕ) → 0 < length text → plain_len in_lines text ≡ 0
      → shown in_lines text ≡ escape_of (slice_index text 0) ++ shown in_lines (drop 1 text)
  escaped_first [] some e = absurd (omega arith)
  escaped_first (b ∷ rest) some e = rw e refl

  module _ (done rest whole : List ℕ) (before : done ++ shown in_lines rest ≡ whole) where
    -- the next part, as it is
    pub run_shown : (n : ℕ) → shown in_lines rest ≡ take n rest ++ shown in_lines (drop n rest) → (done ++ take n rest) ++ shown in_lines (drop n rest) ≡ whole
    run_shown n part = append_assoc done (take n rest) (shown in_lines (drop n rest)) ∙ ap (λ l. done ++ l) (sym part) ∙ before

    -- the next byte, escaped
    pub escape_shown : 0 < length rest → plain_len in_lines rest ≡ 0 → (done ++ escape_of (slice_index rest 0)) ++ shown in_lines (drop 1 rest) ≡ whole
    escape_shown some none =
        append_assoc done (escape_of (slice_index rest 0)) (shown in_lines (drop 1 rest)) ∙ ap (λ l. done ++ l) (sym (escaped_first rest some none)) ∙ before

  pub all_shown : (done rest whole : List ℕ) → length rest ≡ 0 → done ++ shown in_lines rest ≡ whole → done ≡ whole
  all_shown done [] whole none before = sym (append-nil done) ∙ before
  all_shown done (b ∷ rest) whole none before = absurd (omega arith)

pub ruleset shown_laws = (run_shown, escape_shown, all_shown)
