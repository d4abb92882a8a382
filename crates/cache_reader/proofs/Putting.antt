-- Writing texts one after another through a buffer.
use Rattle.std.proofs.Common.{◌≡◌, ℕ, ◌+◌, ◌++◌, List, [], length, take, drop, Option, Some, None, Result, Ok, Err, OnOk, sym, ap, subst, ◌∙◌, append_assoc, arith}
use Rattle.std.proofs.lemmas.List.{append-nil, take-append-drop}
use Rattle.std.proofs.Math.Seq.{take-append-add, take-append_seam}
use Rattle.lib_types.specs.declared.fault.Failed.{Failed}
use Rattle.tree_face.specs.Known.{Relates}
use Rattle.tree_face.specs.Follows.{IsFollowedBy, IsFollowedByPart}
use Rattle.tree_face.specs.Stream.{SinkState, TakesAll}
use Rattle.cache_reader.specs.Buffers.{Moves, Puts}

-- ---- what the sink has received

moves_on : (t1 t2 b0 b1 b2 : List ℕ) (w0 w1 w2 : Option (List ℕ)) → Relates (Moves (b0 ++ t1) b1) w0 w1 → Relates (Moves (b1 ++ t2) b2) w1 w2 → Relates (Moves (b0 ++ (t1 ++ t2)) b2) w0 w2
moves_on t1 t2 b0 b1 b2 None None None p q = tt
moves_on t1 t2 b0 b1 b2 None None (Some c) p q = absurd q
moves_on t1 t2 b0 b1 b2 None (Some b) w2 p q = absurd p
moves_on t1 t2 b0 b1 b2 (Some a) None w2 p q = absurd p
moves_on t1 t2 b0 b1 b2 (Some a) (Some b) None p q = absurd q
moves_on t1 t2 b0 b1 b2 (Some a) (Some b) (Some c) p q = record {
  moved = p.moved ++ q.moved;
  parts = sym (append_assoc b0 t1 t2) ∙ ap (λ (xs : List ℕ). xs ++ t2) p.parts ∙ append_assoc p.moved b1 t2 ∙ ap (λ (xs : List ℕ). p.moved ++ xs) q.parts ∙ sym (append_assoc p.moved q.moved b2);
  taken = q.taken ∙ ap (λ (xs : List ℕ). xs ++ q.moved) p.taken ∙ append_assoc a p.moved q.moved;
}

-- a prefix of xs is a prefix of xs ++ ys
part_of : (n : ℕ) (xs ys : List ℕ) → take n xs ≡ take (length (take n xs)) (xs ++ ys)
part_of n xs ys =
    let whole : xs ++ ys ≡ take n xs ++ (drop n xs ++ ys) = ap (λ (zs : List ℕ). zs ++ ys) (sym (take-append-drop n xs)) ∙ append_assoc (take n xs) (drop n xs) ys in
    sym (ap (take (length (take n xs))) whole ∙ take-append_seam (take n xs) (drop n xs ++ ys))

part_on : (t1 t2 b0 b1 : List ℕ) (w0 w1 w2 : Option (List ℕ)) → Relates (Moves (b0 ++ t1) b1) w0 w1 → Relates (IsFollowedByPart (b1 ++ t2)) w1 w2 → Relates (IsFollowedByPart (b0 ++ (t1 ++ t2))) w0 w2
part_on t1 t2 b0 b1 None None None p q = tt
part_on t1 t2 b0 b1 None None (Some c) p q = absurd q
part_on t1 t2 b0 b1 None (Some b) w2 p q = absurd p
part_on t1 t2 b0 b1 (Some a) None w2 p q = absurd p
part_on t1 t2 b0 b1 (Some a) (Some b) None p q = absurd q
part_on t1 t2 b0 b1 (Some a) (Some b) (Some c) p q =
    let whole : b0 ++ (t1 ++ t2) ≡ p.moved ++ (b1 ++ t2) = sym (append_assoc b0 t1 t2) ∙ ap (λ (xs : List ℕ). xs ++ t2) p.parts ∙ append_assoc p.moved b1 t2 in
    (length p.moved + q.0, q.1 ∙ ap (λ (xs : List ℕ). xs ++ take q.0 (b1 ++ t2)) p.taken ∙ append_assoc a p.moved (take q.0 (b1 ++ t2)) ∙ ap (λ (xs : List ℕ). a ++ xs) (sym (take-append-add p.moved (b1 ++ t2) q.0) ∙ ap (take (length p.moved + q.0)) (sym whole)))

shorter_part : (t1 t2 b0 : List ℕ) (w0 w1 : Option (List ℕ)) → Relates (IsFollowedByPart (b0 ++ t1)) w0 w1 → Relates (IsFollowedByPart (b0 ++ (t1 ++ t2))) w0 w1
shorter_part t1 t2 b0 None None p = tt
shorter_part t1 t2 b0 None (Some b) p = absurd p
shorter_part t1 t2 b0 (Some a) None p = absurd p
shorter_part t1 t2 b0 (Some a) (Some b) p =
    let whole = append_assoc b0 t1 t2 in
    (length (take p.0 (b0 ++ t1)), p.1 ∙ ap (λ (xs : List ℕ). a ++ xs) (part_of p.0 (b0 ++ t1) t2 ∙ ap (take (length (take p.0 (b0 ++ t1)))) whole))

-- ---- one call

all_moved : (text : List ℕ) (w0 w1 : Option (List ℕ)) → Relates (IsFollowedBy text) w0 w1 → Relates (Moves text []) w0 w1
all_moved text None None p = tt
all_moved text None (Some b) p = absurd p
all_moved text (Some a) None p = absurd p
all_moved text (Some a) (Some b) p = record { moved = text; parts = sym (append-nil text); taken = p }

-- a text that is written directly, because the buffer is empty
pub passed_on : (text : List ℕ) (s0 s1 : SinkState) (r : Result (Unit {0}) Failed) → TakesAll s0 s1 text r → Puts text [] [] s0 s1 r
passed_on text s0 s1 (Ok u) p = record { done = all_moved text s0.written s1.written p.done; failed = tt; faults = p.faults; no_fault = p.no_fault; cause = tt }
passed_on text s0 s1 (Err e) p = record { done = tt; failed = p.failed; faults = p.faults; no_fault = tt; cause = p.cause }

all_taken : (text : List ℕ) (w0 w1 : Option (List ℕ)) → Relates (Moves text []) w0 w1 → Relates (IsFollowedBy text) w0 w1
all_taken text None None p = tt
all_taken text None (Some b) p = absurd p
all_taken text (Some a) None p = absurd p
all_taken text (Some a) (Some b) p = p.taken ∙ ap (λ (xs : List ℕ). a ++ xs) (sym (p.parts ∙ append-nil p.moved))

-- ---- two calls

pub then : {t1 t2 b0 b1 b2 : List ℕ} {s0 s1 s2 : SinkState} {r : Result (Unit {0}) Failed} → Puts t1 b0 b1 s0 s1 (Ok tt) → Puts t2 b1 b2 s1 s2 r → Puts (t1 ++ t2) b0 b2 s0 s2 r
then {t1 = t1} {t2 = t2} {b0 = b0} {b1 = b1} {b2 = b2} {s0 = s0} {s1 = s1} {s2 = s2} {r = Ok u} p q = record {
  done = moves_on t1 t2 b0 b1 b2 s0.written s1.written s2.written p.done q.done;
  failed = tt;
  faults = omega (arith, p.faults, q.faults);
  no_fault = q.no_fault ∙ p.no_fault;
  cause = tt;
}
then {t1 = t1} {t2 = t2} {b0 = b0} {b1 = b1} {b2 = b2} {s0 = s0} {s1 = s1} {s2 = s2} {r = Err e} p q = record {
  done = tt;
  failed = part_on t1 t2 b0 b1 s0.written s1.written s2.written p.done q.failed;
  faults = omega (arith, p.faults, q.faults);
  no_fault = tt;
  cause = omega (arith, p.faults, q.cause);
}

pub stop : {t1 b0 b1 : List ℕ} {s0 s1 : SinkState} {e : Failed} (t2 : List ℕ) → Puts t1 b0 b1 s0 s1 (Err e) → Puts (t1 ++ t2) b0 b1 s0 s1 (Err e)
stop {t1 = t1} {b0 = b0} {b1 = b1} {s0 = s0} {s1 = s1} {e = e} t2 p = record {
  done = tt;
  failed = shorter_part t1 t2 b0 s0.written s1.written p.failed;
  faults = p.faults;
  no_fault = tt;
  cause = p.cause;
}

-- the same for an equal text
pub same_text : {t u b0 b1 : List ℕ} {s0 s1 : SinkState} {r : Result (Unit {0}) Failed} → t ≡ u → Puts t b0 b1 s0 s1 r → Puts u b0 b1 s0 s1 r
same_text {b0 = b0} {b1 = b1} {s0 = s0} {s1 = s1} {r = r} e p = subst (λ (x : List ℕ). Puts x b0 b1 s0 s1 r) e p

-- ---- all texts, starting with an empty buffer

finished : (text after : List ℕ) (s0 s1 : SinkState) (r : Result (Unit {0}) Failed) → OnOk r (after ≡ []) → Puts text [] after s0 s1 r → TakesAll s0 s1 text r
finished text after s0 s1 (Ok u) e p = record { done = all_taken text s0.written s1.written (rw e at p.done); failed = tt; faults = p.faults; no_fault = p.no_fault; cause = tt }
finished text after s0 s1 (Err e) h p = record { done = tt; failed = p.failed; faults = p.faults; no_fault = tt; cause = p.cause }

pub whole_failed : {text before after : List ℕ} {s0 s1 : SinkState} {e : Failed} → before ≡ [] → Puts text before after s0 s1 (Err e) → TakesAll s0 s1 text (Err e)
whole_failed {text = text} {after = after} {s0 = s0} {s1 = s1} {e = e} none p = finished text after s0 s1 (Err e) tt (rw none at p)

pub whole : {text before waiting after : List ℕ} {s0 s1 s2 : SinkState} {r : Result (Unit {0}) Failed} → before ≡ [] → OnOk r (after ≡ [])
    → Puts text before waiting s0 s1 (Ok tt) → Puts [] waiting after s1 s2 r → TakesAll s0 s2 text r
whole {text = text} {after = after} {s0 = s0} {s2 = s2} {r = r} none empty p q = finished text after s0 s2 r empty (same_text (append-nil text) (then (rw none at p) q))
