-- Each text is in the table at its offset.
use Rattle.std.proofs.Common.{◌≡◌, ℕ, zero, suc, ◌+◌, ◌<◌, ◌≤◌, Bool, true, false, ◌&&◌, List, [], ◌∷◌, ◌++◌, length, take, drop, filter, Some, refl, sym, ap, ◌∙◌, true≢false, arith, ltb}
use Rattle.std.proofs.Math.Seq.{drop-append-add}
use Rattle.std.proofs.lemmas.Bool.{and_parts}
use Rattle.std.proofs.lemmas.Bool.Decides.{nat_tests}
use Rattle.std.proofs.lemmas.List.{append_assoc, drop_at, length-append, nil_from_length, take_at}
use Rattle.std.proofs.lemmas.List.Concat.{flat_map-append}
use Rattle.std.specs.List.{before_first, find, position_or_len, slice_get}
use Rattle.std.specs.Option.{unwrap_or}
use Rattle.lib_types.proofs.SortedPairs.{by_test}
use Rattle.string_pool.specs.InOrder.{table_of}
use Rattle.string_pool.specs.Texts.{IsTextAt, with_nul}
use Rattle.string_pool.proofs.InOrder.{length_table_push}
use Rattle.string_pool.specs.Hosts.{host_of}
use Rattle.string_pool.specs.Laid.{table_to}
use Rattle.string_pool.specs.SharedEnds.{ends_in, first_ending_in, is_written, shared_offset, shared_table, written}
use Rattle.string_pool.proofs.Ends.{ends_itself, ends_through, front_of}
use Rattle.string_pool.proofs.Gets.{first_passes}
use Rattle.string_pool.proofs.Written.{not_written}

-- ---- a written text ends in each text

length_in : (ts : List (List ℕ)) (i : ℕ) (t : List ℕ) → slice_get ts i ≡ Some t → length t + 1 ≤ length (table_of ts)
length_in [] i t h = absurd (cc)
length_in (u ∷ us) zero t h =
    let same : u ≡ t = cc in
    omega (arith, ap length same, length-append (with_nul u) (table_of us), length-append u (0 ∷ []))
length_in (u ∷ us) (suc i) t h = omega (arith, length-append (with_nul u) (table_of us), length_in us i t h)

-- a text that ends in another one is longer
longer_than : (end text : List ℕ) → ends_in end text ≡ true → (end ≡ text → ⊥) → length end < length text
longer_than end text ends differs =
    let front = front_of end text ends in
    let sum : length text ≡ length front.0 + length end = ap length front.1 ∙ length-append front.0 end in
    by_test (ltb (length end) (length text))
    (λ less. grind (arith, nat_tests, less))
    (λ more.
    let none : length front.0 ≡ 0 = grind (arith, nat_tests, more, sum) in
    absurd (differs (sym (front.1 ∙ ap (λ (xs : List ℕ). xs ++ end) (nil_from_length front.0 none)))))

pub record Host (ts : List (List ℕ)) (t : List ℕ) : Type 0 where
  pub index : ℕ
  pub text : List ℕ
  pub there : slice_get ts index ≡ Some text
  pub passes : (is_written ts text && ends_in t text) ≡ true

module _ (ts : List (List ℕ)) (t : List ℕ) where
  above : (n : ℕ) (i : ℕ) (u : List ℕ) → slice_get ts i ≡ Some u → ends_in t u ≡ true → length (table_of ts) ≤ length u + n → Host ts t
  above zero i u there ends long = absurd (omega (arith, long, length_in ts i u there))
  above (suc n) i u there ends long = by_test (is_written ts u)
      (λ w. record { index = i; text = u; there = there; passes = rw (w, ends) refl })
      (λ w.
      let next = not_written ts u w in
      above n next.index next.other next.there (ends_through next.other u t next.ends ends) (omega (arith, long, longer_than u next.other next.ends next.differs)))

  pub some_host : (i : ℕ) → slice_get ts i ≡ Some t → Host ts t
  some_host i there = above (length (table_of ts)) i t there (ends_itself t) (omega arith)

-- the first item that passes is there
module _ {X : Type 0} (p : X → Bool) where
  pub first_found : (xs : List X) (i : ℕ) (x : X) → slice_get xs i ≡ Some x → p x ≡ true → (y : X) × (slice_get xs (position_or_len p xs) ≡ Some y)
  first_found [] i x there passes = absurd (cc)
  first_found (z ∷ zs) i x there passes = by_test (p z)
      (λ here. (z, rw here refl))
      (λ later. rest i there later (λ j at. first_found zs j x at passes))
    where
      rest : (i : ℕ) → slice_get (z ∷ zs) i ≡ Some x → p z ≡ false → ((j : ℕ) → slice_get zs j ≡ Some x → (y : X) × (slice_get zs (position_or_len p zs) ≡ Some y))
          → (y : X) × (slice_get (z ∷ zs) (position_or_len p (z ∷ zs)) ≡ Some y)
      rest zero at later go =
          let same : z ≡ x = cc in
          let wrong : true ≡ false = sym passes ∙ ap p (sym same) ∙ later in absurd (true≢false wrong)
      rest (suc i) at later go =
          let inner = go i at in
          let one : 1 + position_or_len p zs ≡ suc (position_or_len p zs) = omega arith in
          (inner.0, rw (later, one) inner.1)

pub host_there : (ts : List (List ℕ)) (i : ℕ) (t : List ℕ) → slice_get ts i ≡ Some t → (s : List ℕ) × (slice_get ts (host_of ts t) ≡ Some s)
host_there ts i t there =
    let h = some_host ts t i there in
    first_found (λ other. is_written ts other && ends_in t other) ts h.index h.text h.there h.passes

-- ---- where the first one is

module _ (w q : List ℕ → Bool) where
  abbrev both : List ℕ → Bool
  both other = w other && q other

  record IsFirst (ts : List (List ℕ)) (s : List ℕ) : Type 0 where
    found : find q (filter w ts) ≡ Some s
    to : filter w (take (position_or_len both ts + 1) ts) ≡ before_first q (filter w ts) ++ s ∷ []

  is_first : (ts : List (List ℕ)) (s : List ℕ) → slice_get ts (position_or_len both ts) ≡ Some s → IsFirst ts s
  is_first [] s there = absurd (cc)
  is_first (z ∷ zs) s there = by (w z) (q z) refl refl (is_first zs s)
    where
      one : 1 + position_or_len both zs ≡ suc (position_or_len both zs)
      one = omega arith

      two : suc (position_or_len both zs) + 1 ≡ suc (position_or_len both zs + 1)
      two = omega arith

      ahead : 1 + position_or_len q (filter w zs) ≡ suc (position_or_len q (filter w zs))
      ahead = omega arith

      by : (a b : Bool) → w z ≡ a → q z ≡ b → (slice_get zs (position_or_len both zs) ≡ Some s → IsFirst zs s) → IsFirst (z ∷ zs) s
      by true true e f go =
          let here : Some z ≡ Some s = rw (e, f) at there in
          let same : z ≡ s = cc in
          record { found = rw (e, f) here; to = rw (e, f) (rw e (ap (λ (u : List ℕ). u ∷ []) same)) }
      by true false e f go =
          let later : slice_get zs (position_or_len both zs) ≡ Some s = rw (e, f, one) at there in
          let inner = go later in
          record { found = rw (e, f) inner.found; to = rw (e, f, one, two, ahead) (rw e (ap (λ (xs : List (List ℕ)). z ∷ xs) inner.to)) }
      by false b e f go =
          let later : slice_get zs (position_or_len both zs) ≡ Some s = rw (e, one) at there in
          let inner = go later in
          record { found = rw e inner.found; to = rw (e, one, two) (rw e inner.to) }

-- a list around its first item that passes
pub around : (q : List ℕ → Bool) (xs : List (List ℕ)) (s : List ℕ) → find q xs ≡ Some s → (rest : List (List ℕ)) × (xs ≡ before_first q xs ++ s ∷ rest)
around q [] s found = absurd (cc)
around q (z ∷ zs) s found = by_test (q z)
    (λ here.
    let first : Some z ≡ Some s = rw here at found in
    let same : z ≡ s = cc in
    (zs, rw here (ap (λ (u : List ℕ). u ∷ zs) same)))
    (λ later.
    let inner = around q zs s (rw later at found) in
    let one : 1 + position_or_len q zs ≡ suc (position_or_len q zs) = omega arith in
    (inner.0, rw (later, one) (ap (λ (xs : List (List ℕ)). z ∷ xs) inner.1)))

-- ---- the offset of a text

module _ (ts : List (List ℕ)) (t : List ℕ) (s : List ℕ) (there : slice_get ts (host_of ts t) ≡ Some s) where
  place : IsFirst (is_written ts) (ends_in t) ts s
  place = is_first (is_written ts) (ends_in t) ts s there

  ends : ends_in t s ≡ true
  ends = (and_parts (is_written ts s) (ends_in t s) (first_passes (λ other. is_written ts other && ends_in t other) ts s there)).1

  first_is_host : first_ending_in ts t ≡ s
  first_is_host = ap (λ o. unwrap_or o t) place.found

  -- the table up to the text's host ends after the text and its NUL
  pub offset_at : length (table_to ts (host_of ts t + 1)) ≡ shared_offset ts t + length t + 1
  offset_at =
      let front = front_of t s ends in
      let sum : length s ≡ length front.0 + length t = ap length front.1 ∙ length-append front.0 t in
      let before = before_first (ends_in t) (written ts) in
      let whole = ap (λ (xs : List (List ℕ)). length (table_of xs)) place.to ∙ length_table_push before s in
      omega (arith, whole, sum, ap length first_is_host)

  pub text_there : IsTextAt (shared_table ts) (shared_offset ts t) t
  text_there =
      let front = front_of t s ends in
      let sum : length s ≡ length front.0 + length t = ap length front.1 ∙ length-append front.0 t in
      let before = table_of (before_first (ends_in t) (written ts)) in
      let split = around (ends_in t) (written ts) s place.found in
      let rest = table_of split.0 in
      let nul : with_nul s ≡ front.0 ++ with_nul t = ap with_nul front.1 ∙ append_assoc front.0 t (0 ∷ []) in
      let table : shared_table ts ≡ before ++ (front.0 ++ (with_nul t ++ rest)) =
      ap table_of split.1 ∙ flat_map-append with_nul (before_first (ends_in t) (written ts)) (s ∷ split.0)
      ∙ ap (λ (xs : List ℕ). before ++ (xs ++ rest)) nul ∙ ap (λ (xs : List ℕ). before ++ xs) (append_assoc front.0 (with_nul t) rest) in
      let at : shared_offset ts t ≡ length before + length front.0 = omega (arith, sum, ap length first_is_host) in
      let size : length (with_nul t) ≡ length t + 1 = length-append t (0 ∷ []) in
      let inner : drop (length front.0) (front.0 ++ (with_nul t ++ rest)) ≡ with_nul t ++ rest = drop_at front.0 (with_nul t ++ rest) (length front.0) refl in
      ap (take (length t + 1)) (ap (λ (xs : List ℕ). drop (shared_offset ts t) xs) table ∙ ap (λ n. drop n (before ++ (front.0 ++ (with_nul t ++ rest)))) at ∙ drop-append-add before (front.0 ++ (with_nul t ++ rest)) (length front.0) ∙ inner)
      ∙ take_at (with_nul t) rest (length t + 1) size

-- a string of the list is in the table at its offset
pub located : (ts : List (List ℕ)) (i : ℕ) (t : List ℕ) → slice_get ts i ≡ Some t → IsTextAt (shared_table ts) (shared_offset ts t) t
located ts i t there =
    let h = host_there ts i t there in
    text_there ts t h.0 h.1
