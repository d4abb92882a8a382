-- Reading and writing in pieces, one after another.
use Rattle.std.proofs.Common.{◌≡◌, ℕ, ◌+◌, ◌-◌, ◌≤◌, min, List, ◌++◌, length, take, drop, Option, Some, None, append_assoc, arith, ap, sym, ◌∙◌, length-drop}
use Rattle.std.proofs.Math.ListN.{drop_of_length-le}
use Rattle.std.proofs.Math.Seq.{take-add, take-append_seam}
use Rattle.std.proofs.lemmas.List.{drop-drop, length-take-le, take-append-drop}
use Rattle.tree_face.specs.Follows.{IsFollowedBy}
use Rattle.tree_face.specs.Stream.{AreRead, Gives}
use Rattle.tree_face.specs.Known.{Relates}

-- the first bytes, and then the next ones
pub taken_on : (at n : ℕ) (bytes : List ℕ) (a b c : Option (List ℕ)) →
    Relates (IsFollowedBy (take at bytes)) a b → Relates (IsFollowedBy (take n (drop at bytes))) b c → Relates (IsFollowedBy (take (at + n) bytes)) a c
taken_on at n bytes None None None first next = tt
taken_on at n bytes None None (Some c) first next = absurd next
taken_on at n bytes None (Some b) c first next = absurd first
taken_on at n bytes (Some a) None c first next = absurd first
taken_on at n bytes (Some a) (Some b) None first next = absurd next
taken_on at n bytes (Some a) (Some b) (Some c) first next = rw (next, first, take-add at n bytes) (append_assoc a (take at bytes) (take n (drop at bytes)))

-- what was copied from an offset on is what a source gives
pub gives_part : (bytes : List ℕ) (at n : ℕ) (before after : List ℕ) → n ≡ min (length before) (length bytes - at) → at ≤ length bytes →
    after ≡ take n (drop at bytes) ++ drop n before → Gives (length before) n after (drop at bytes) (drop (at + n) bytes)
gives_part bytes at n before after count within copied =
    let rest = drop at bytes in
    let size = length-drop at bytes in
    let fits : n ≤ length rest = omega (arith, size) in
    let front : take n after ≡ take n rest =
    ap (take n) copied
    ∙ ap (λ (k : ℕ). take k (take n rest ++ drop n before)) (sym (length-take-le n rest fits))
    ∙ take-append_seam (take n rest) (drop n before) in
    record {
      taken = sym (rw (front, ← (drop-drop n at bytes)) (take-append-drop n rest));
      end = λ room. (
        λ none. drop_of_length-le bytes (omega arith),
        λ empty. let gone : length rest ≡ 0 = ap length empty in omega (arith, size, gone),
      );
    }

-- what a call gives follows what was read before
pub read_on : (xs : List ℕ) (room n : ℕ) (bytes : List ℕ) (a b c : Option (List ℕ)) →
    Relates (AreRead xs) a b → Relates (Gives room n bytes) b c → Relates (AreRead (xs ++ take n bytes)) a c
read_on xs room n bytes None None None first next = tt
read_on xs room n bytes None None (Some c) first next = absurd next
read_on xs room n bytes None (Some b) c first next = absurd first
read_on xs room n bytes (Some a) None c first next = absurd first
read_on xs room n bytes (Some a) (Some b) None first next = absurd next
read_on xs room n bytes (Some a) (Some b) (Some c) first next = first ∙ ap (λ l. xs ++ l) next.taken ∙ sym (append_assoc xs (take n bytes) c)
