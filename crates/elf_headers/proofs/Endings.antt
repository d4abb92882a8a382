-- The effect on a store of calls that read one file.
use Rattle.std.proofs.Common.{◌≡◌, ℕ, ◌≤◌, List, [], ◌∷◌, Option, Some, None, IfSome, inl, refl, sym, subst, ◌∙◌, append-nil, arith}
use Rattle.lib_types.specs.Counts.{raised}
use Rattle.tree_face.specs.Follows.{IsFollowedBy}
use Rattle.tree_face.specs.Known.{Relates}
use Rattle.tree_face.specs.Store.{StoreState}
use Rattle.tree_face.specs.StoreUse.{Ending, Complete, DeviceFailed, GaveUp, BeginsKeys, HasCause, ReadsFiles}
use Rattle.tree_face.proofs.Follows.{part_whole}
use Rattle.tree_face.proofs.Known.{relates_by}
use Rattle.elf_headers.specs.Reading.{TakesAtMost, ReadsFile, CountsFaults, OnlyReads}

none_begun : (e : Ending) (a : List (List ℕ)) → BeginsKeys e [] a a
none_begun Complete a = sym (append-nil a)
none_begun DeviceFailed a = (0, sym (append-nil a))
none_begun GaveUp a = (0, sym (append-nil a))

same_keys : (e : Ending) (keys : Option (List (List ℕ))) → Relates (BeginsKeys e []) keys keys
same_keys e None = tt
same_keys e (Some a) = none_begun e a

cause_of : (lacks : Type 0) (e : Ending) (a b c : ℕ) → b ≡ a → CountsFaults e b c → HasCause lacks e a c
cause_of lacks Complete a b c none same = same ∙ none
cause_of lacks DeviceFailed a b c none risen = inl (rw (← none) risen)
cause_of lacks GaveUp a b c none same = same ∙ none

counted : (e : Ending) (a b : ℕ) → CountsFaults e a b → a ≤ b
counted Complete a b same = omega (arith, same)
counted DeviceFailed a b risen = omega (arith, risen)
counted GaveUp a b same = omega (arith, same)

pub reads_nothing : {e : Ending} {n : ℕ} {old new : StoreState} → OnlyReads e old new → TakesAtMost n old new → ReadsFiles ⊥ (Some []) (Some n) e old new
reads_nothing {e = e} {n = n} {old = old} {new = new} reads taken = record {
  held = reads.held;
  begins = subst (λ keys. Relates (BeginsKeys e []) old.keys keys) (sym reads.keys) (same_keys e old.keys);
  begun = omega (arith, reads.begun);
  begun_before = omega (arith, reads.begun);
  taken = taken;
  taken_before = reads.taken;
  faults = counted e old.faults new.faults reads.faults;
  cause = cause_of _ e old.faults old.faults new.faults refl reads.faults;
}

begun_keys : (key : List ℕ) (e : Ending) (a b : List (List ℕ)) → IsFollowedBy (key ∷ []) a b → BeginsKeys e (key ∷ []) a b
begun_keys key Complete a b whole = whole
begun_keys key DeviceFailed a b whole = part_whole (key ∷ []) a b whole
begun_keys key GaveUp a b whole = part_whole (key ∷ []) a b whole

-- A call opens a file, and later calls only read from it.
pub begun_and_read : {key : List ℕ} {n : ℕ} {most : Option ℕ} {e : Ending} (s t u : StoreState) → ReadsFile key (Some n) Complete s t → OnlyReads e t u → IfSome most (λ n. u.taken ≤ raised s.taken n) → ReadsFile key most e s u
begun_and_read {key = key} {e = e} s t u first reads taken = record {
  held = reads.held ∙ first.held;
  begins = subst (λ keys. Relates (BeginsKeys e (key ∷ [])) s.keys keys) (sym reads.keys) (relates_by _ _ (begun_keys key e) s.keys t.keys first.begins);
  begun = omega (arith, first.begun, reads.begun);
  begun_before = omega (arith, first.begun_before, reads.begun);
  taken = taken;
  taken_before = omega (arith, first.taken_before, reads.taken);
  faults = let later = counted e t.faults u.faults reads.faults in omega (arith, first.faults, later);
  cause = cause_of _ e s.faults t.faults u.faults first.cause reads.faults;
}
