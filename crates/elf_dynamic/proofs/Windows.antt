-- Windows of a file.
use Rattle.std.proofs.Common.{◌≡◌, ℕ, ◌+◌, ◌-◌, ◌≤◌, Bool, true, false, cond, nat_lt, List, take, drop, refl, ap, ◌∙◌, arith}
use Rattle.std.proofs.lemmas.Bool.Decides.{nat_tests}
use Rattle.tree_face.specs.Known.{IfKnown}
use Rattle.tree_face.specs.Store.{StoreState}
use Rattle.tree_face.specs.StoreUse.{Ending}
use Rattle.elf_headers.specs.declared.kinds.Head.{Head}
use Rattle.elf_headers.specs.Reading.{known_content, OnlyReads}
use Rattle.elf_dynamic.specs.declared.window.Window.{Window}
use Rattle.elf_dynamic.specs.Windows.{ready, part, IsWindowOf}
use Rattle.elf_dynamic.proofs.Known.{with, before, after}
use Rattle.elf_dynamic.proofs.Live.{window_on}

pub ready_on : (w : Window) (at n : ℕ) → n ≤ ready w at → ready w (at + n) ≡ ready w at - n
unfolding ready
ready_on w at n h = by (nat_lt at w.at) refl h (nat_lt (at + n) w.at) refl
  where
    by : (a : Bool) → nat_lt at w.at ≡ a → n ≤ cond a 0 (w.count - (at - w.at)) → (b : Bool) → nat_lt (at + n) w.at ≡ b → cond b 0 (w.count - (at + n - w.at)) ≡ cond a 0 (w.count - (at - w.at)) - n
    by true ea h true eb = omega arith
    by true ea h false eb = grind (arith, nat_tests)
    by false ea h true eb = grind (arith, nat_tests)
    by false ea h false eb = grind (arith, nat_tests)

-- reads elsewhere leave a window unchanged
pub window_after : {e : Ending} (s t : StoreState) (h : Head) (w : Window) → OnlyReads e s t → IsWindowOf s h w → IsWindowOf t h w
window_after s t h w r o = record {
  room = o.room;
  count = o.count;
  in_file = o.in_file;
  bytes = after (λ bytes. take w.count w.bytes ≡ take w.count (drop w.at bytes)) s t r o.bytes;
}

-- the bytes of the window are the bytes of the file
part_in : (w : Window) (gap : ℕ) (bytes : List ℕ) → take w.count w.bytes ≡ take w.count (drop w.at bytes) → take (w.count - gap) (drop gap w.bytes) ≡ take (w.count - gap) (drop (w.at + gap) bytes)
part_in w gap bytes h = by (nat_lt w.count gap) refl
  where
    by : (a : Bool) → nat_lt w.count gap ≡ a → take (w.count - gap) (drop gap w.bytes) ≡ take (w.count - gap) (drop (w.at + gap) bytes)
    by true e = let none : w.count - gap ≡ 0 = grind (arith, nat_tests) in rw none refl
    by false e = let some : gap ≤ w.count = grind (arith, nat_tests) in ap (λ k. take (w.count - gap) (drop k w.bytes)) (omega arith) ∙ window_on gap w.count 0 w.at w.bytes bytes some h

part_is : (w : Window) (at : ℕ) (bytes : List ℕ) → take w.count w.bytes ≡ take w.count (drop w.at bytes) → part w at ≡ take (ready w at) (drop at bytes)
unfolding ready
part_is w at bytes h = by (nat_lt at w.at) refl
  where
    by : (a : Bool) → nat_lt at w.at ≡ a → take (cond a 0 (w.count - (at - w.at))) (drop (at - w.at) w.bytes) ≡ take (cond a 0 (w.count - (at - w.at))) (drop at bytes)
    by true e = refl
    by false e =
        let here : w.at + (at - w.at) ≡ at = grind (arith, nat_tests) in
        part_in w (at - w.at) bytes h ∙ ap (λ k. take (w.count - (at - w.at)) (drop k bytes)) here

pub part_known : (s : StoreState) (h : Head) (w : Window) (at : ℕ) → IsWindowOf s h w → IfKnown (known_content s) (λ bytes. part w at ≡ take (ready w at) (drop at bytes))
part_known s h w at o =
    with {P = λ bytes. take w.count w.bytes ≡ take w.count (drop w.at bytes)} {Q = λ bytes. part w at ≡ take (ready w at) (drop at bytes)} (known_content s) o.bytes (λ bytes e. part_is w at bytes e)

-- the bytes taken from a window after a read, in the content before the read
pub next_part : {e : Ending} (s t : StoreState) (h : Head) (w : Window) (at : ℕ) (front : List ℕ) → OnlyReads e s t → IsWindowOf t h w → front ≡ part w at → IfKnown (known_content s) (λ bytes. front ≡ take (ready w at) (drop at bytes))
next_part s t h w at front r o e =
    before (λ bytes. front ≡ take (ready w at) (drop at bytes)) s t r
    (with {P = λ bytes. part w at ≡ take (ready w at) (drop at bytes)} {Q = λ bytes. front ≡ take (ready w at) (drop at bytes)} (known_content t) (part_known t h w at o) (λ bytes is. e ∙ is))
