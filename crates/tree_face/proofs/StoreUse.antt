-- Calls that read files, one after another.
use Rattle.std.proofs.Common.{◌≡◌, ℕ, ◌+◌, ◌≤◌, List, [], ◌++◌, length, Option, Some, None, inl, inr, arith, refl, sym, ◌∙◌}
use Rattle.std.proofs.lemmas.List.{append-nil, length-append}
use Rattle.std.specs.Prelude.{IfSome}
use Rattle.lib_types.specs.Counts.{raised}
use Rattle.tree_face.specs.Follows.{IsFollowedBy}
use Rattle.tree_face.specs.Store.{StoreState}
use Rattle.tree_face.specs.StoreUse.{Ending, Complete, DeviceFailed, GaveUp, BeginsKeys, HasCause, ReadsFiles}
use Rattle.tree_face.proofs.Follows.{follow, follow_part, part_of, part_whole}
use Rattle.tree_face.proofs.Known.{relates_on, relates_by}
use Rattle.tree_face.specs.Known.{Relates}

pub raised-add : (a b c n m : ℕ) → b ≤ raised a n → c ≤ raised b m → c ≤ raised a (n + m)
raised-add a b c n m first next = omega (arith, first, next)

pub raised-mono : (a b n m : ℕ) → n ≤ m → b ≤ raised a n → b ≤ raised a m
raised-mono a b n m more first = omega (arith, more, first)

module _ (ks1 ks2 : List (List ℕ)) where
  keys_on : (e : Ending) (a b c : List (List ℕ)) → IsFollowedBy ks1 a b → BeginsKeys e ks2 b c → BeginsKeys e (ks1 ++ ks2) a c
  keys_on Complete a b c = follow ks1 ks2 a b c
  keys_on DeviceFailed a b c = follow_part ks1 ks2 a b c
  keys_on GaveUp a b c = follow_part ks1 ks2 a b c

  -- faults that a first call doesn't raise have their cause in the second call
  cause_on : (l1 l2 l : Type 0) (e : Ending) (a b c : ℕ) → (l2 → l) → b ≡ a → HasCause l2 e b c → HasCause l e a c
  cause_on l1 l2 l Complete a b c f none last = last ∙ none
  cause_on l1 l2 l DeviceFailed a b c f none (inl risen) = inl (rw (← none) risen)
  cause_on l1 l2 l DeviceFailed a b c f none (inr lacks) = inr (f lacks)
  cause_on l1 l2 l GaveUp a b c f none last = last ∙ none

  -- a call that reads all of its files, and then another one
  pub reads_on : (l1 l2 l : Type 0) (m1 m2 : ℕ) (e : Ending) (a b c : StoreState) → (l2 → l) →
      ReadsFiles l1 (Some ks1) (Some m1) Complete a b → ReadsFiles l2 (Some ks2) (Some m2) e b c → ReadsFiles l (Some (ks1 ++ ks2)) (Some (m1 + m2)) e a c
  reads_on l1 l2 l m1 m2 e a b c f first next = record {
    held = next.held ∙ first.held;
    begins = relates_on _ _ _ (keys_on e) _ _ _ first.begins next.begins;
    begun = rw (length-append ks1 ks2) (raised-add _ _ _ _ _ first.begun next.begun);
    begun_before = omega (arith, first.begun_before, next.begun_before);
    taken = raised-add _ _ _ _ _ first.taken next.taken;
    taken_before = omega (arith, first.taken_before, next.taken_before);
    faults = omega (arith, first.faults, next.faults);
    cause = cause_on l1 l2 l e _ _ _ f first.cause next.cause;
  }

-- the call doesn't read all of its files
abbrev pub IsPartial : Ending → Type 0
IsPartial Complete = ⊥
IsPartial DeviceFailed = Unit {0}
IsPartial GaveUp = Unit {0}

module _ (ks1 ks2 : List (List ℕ)) where
  keys_part : (e : Ending) (a b : List (List ℕ)) → IsPartial e → BeginsKeys e ks1 a b → BeginsKeys e (ks1 ++ ks2) a b
  keys_part Complete a b partial = absurd partial
  keys_part DeviceFailed a b partial = part_of ks1 ks2 a b
  keys_part GaveUp a b partial = part_of ks1 ks2 a b

  cause_part : (l1 l : Type 0) (e : Ending) (a b : ℕ) → (l1 → l) → HasCause l1 e a b → HasCause l e a b
  cause_part l1 l Complete a b f last = last
  cause_part l1 l DeviceFailed a b f (inl risen) = inl risen
  cause_part l1 l DeviceFailed a b f (inr lacks) = inr (f lacks)
  cause_part l1 l GaveUp a b f last = last

  -- a call that doesn't read all of the first files reads none of the following files
  pub reads_part : (l1 l : Type 0) (m1 m2 : ℕ) (e : Ending) (a b : StoreState) → (l1 → l) → IsPartial e →
      ReadsFiles l1 (Some ks1) (Some m1) e a b → ReadsFiles l (Some (ks1 ++ ks2)) (Some (m1 + m2)) e a b
  reads_part l1 l m1 m2 e a b f partial first = record {
    held = first.held;
    begins = relates_by _ _ (λ x y. keys_part e x y partial) _ _ first.begins;
    begun = rw (length-append ks1 ks2) (raised-mono _ _ _ _ (omega arith) first.begun);
    begun_before = first.begun_before;
    taken = raised-mono _ _ _ _ (omega arith) first.taken;
    taken_before = first.taken_before;
    faults = first.faults;
    cause = cause_part l1 l e _ _ f first.cause;
  }

-- ---- the same where keys or numbers may not be known

-- both lists, if both are known
abbrev pub joined : {A : Type 0} → Option (List A) → Option (List A) → Option (List A)
joined (Some xs) (Some ys) = Some (xs ++ ys)
joined (Some xs) None = None
joined None ys = None

abbrev pub summed : Option ℕ → Option ℕ → Option ℕ
summed (Some n) (Some m) = Some (n + m)
summed (Some n) None = None
summed None m = None

abbrev IfBegins : Ending → Option (List (List ℕ)) → StoreState → StoreState → Type 0
IfBegins e keys old new = IfSome keys (λ keys. Relates (BeginsKeys e keys) old.keys new.keys)

abbrev IfBegun : Option (List (List ℕ)) → StoreState → StoreState → Type 0
IfBegun keys old new = IfSome keys (λ keys. new.begun ≤ raised old.begun (length keys))

abbrev IfTaken : Option ℕ → StoreState → StoreState → Type 0
IfTaken most old new = IfSome most (λ n. new.taken ≤ raised old.taken n)

module _ (e : Ending) (a b c : StoreState) where
  begins_then : (k1 k2 : Option (List (List ℕ))) → IfBegins Complete k1 a b → IfBegins e k2 b c → IfBegins e (joined k1 k2) a c
  begins_then None k2 first next = tt
  begins_then (Some x) None first next = tt
  begins_then (Some x) (Some y) first next = relates_on _ _ _ (keys_on x y e) _ _ _ first next

  begun_then : (k1 k2 : Option (List (List ℕ))) → IfBegun k1 a b → IfBegun k2 b c → IfBegun (joined k1 k2) a c
  begun_then None k2 first next = tt
  begun_then (Some x) None first next = tt
  begun_then (Some x) (Some y) first next = rw (length-append x y) (raised-add _ _ _ _ _ first next)

  taken_then : (m1 m2 : Option ℕ) → IfTaken m1 a b → IfTaken m2 b c → IfTaken (summed m1 m2) a c
  taken_then None m2 first next = tt
  taken_then (Some x) None first next = tt
  taken_then (Some x) (Some y) first next = raised-add _ _ _ _ _ first next

  pub reads_then : (l1 l2 l : Type 0) (k1 k2 : Option (List (List ℕ))) (m1 m2 : Option ℕ) → (l2 → l) →
      ReadsFiles l1 k1 m1 Complete a b → ReadsFiles l2 k2 m2 e b c → ReadsFiles l (joined k1 k2) (summed m1 m2) e a c
  reads_then l1 l2 l k1 k2 m1 m2 f first next = record {
    held = next.held ∙ first.held;
    begins = begins_then k1 k2 first.begins next.begins;
    begun = begun_then k1 k2 first.begun next.begun;
    begun_before = omega (arith, first.begun_before, next.begun_before);
    taken = taken_then m1 m2 first.taken next.taken;
    taken_before = omega (arith, first.taken_before, next.taken_before);
    faults = omega (arith, first.faults, next.faults);
    cause = cause_on [] [] l1 l2 l e _ _ _ f first.cause next.cause;
  }

module _ (e : Ending) (a b : StoreState) (partial : IsPartial e) where
  begins_early : (k1 k2 : Option (List (List ℕ))) → IfBegins e k1 a b → IfBegins e (joined k1 k2) a b
  begins_early None k2 first = tt
  begins_early (Some x) None first = tt
  begins_early (Some x) (Some y) first = relates_by _ _ (λ u v. keys_part x y e u v partial) _ _ first

  begun_early : (k1 k2 : Option (List (List ℕ))) → IfBegun k1 a b → IfBegun (joined k1 k2) a b
  begun_early None k2 first = tt
  begun_early (Some x) None first = tt
  begun_early (Some x) (Some y) first = rw (length-append x y) (raised-mono _ _ _ _ (omega arith) first)

  taken_early : (m1 m2 : Option ℕ) → IfTaken m1 a b → IfTaken (summed m1 m2) a b
  taken_early None m2 first = tt
  taken_early (Some x) None first = tt
  taken_early (Some x) (Some y) first = raised-mono _ _ _ _ (omega arith) first

  pub reads_early : (l1 l : Type 0) (k1 k2 : Option (List (List ℕ))) (m1 m2 : Option ℕ) → (l1 → l) →
      ReadsFiles l1 k1 m1 e a b → ReadsFiles l (joined k1 k2) (summed m1 m2) e a b
  reads_early l1 l k1 k2 m1 m2 f first = record {
    held = first.held;
    begins = begins_early k1 k2 first.begins;
    begun = begun_early k1 k2 first.begun;
    begun_before = first.begun_before;
    taken = taken_early m1 m2 first.taken;
    taken_before = first.taken_before;
    faults = first.faults;
    cause = cause_part [] [] l1 l e _ _ f first.cause;
  }

-- a call that reads nothing
pub reads_none : (l : Type 0) (m : Option ℕ) (s : StoreState) → ReadsFiles l (Some []) m Complete s s
reads_none l m s = record {
  held = refl;
  begins = unchanged s.keys;
  begun = omega arith;
  begun_before = omega arith;
  taken = untaken m;
  taken_before = omega arith;
  faults = omega arith;
  cause = refl;
}
  where
    unchanged : (keys : Option (List (List ℕ))) → Relates (BeginsKeys Complete []) keys keys
    unchanged None = tt
    unchanged (Some keys) = sym (append-nil keys)

    untaken : (most : Option ℕ) → IfTaken most s s
    untaken None = tt
    untaken (Some n) = omega arith

module _ (k : Option (List (List ℕ))) (m : Option ℕ) (a b : StoreState) where
  -- another condition for a file that the store doesn't hold
  pub reads_as : (l1 l : Type 0) (e : Ending) → (l1 → l) → ReadsFiles l1 k m e a b → ReadsFiles l k m e a b
  reads_as l1 l e f reads = record {
    held = reads.held;
    begins = reads.begins;
    begun = reads.begun;
    begun_before = reads.begun_before;
    taken = reads.taken;
    taken_before = reads.taken_before;
    faults = reads.faults;
    cause = cause_part [] [] l1 l e _ _ f reads.cause;
  }

  parts : (keys : Option (List (List ℕ))) → IfBegins Complete keys a b → IfBegins GaveUp keys a b
  parts None begins = tt
  parts (Some keys) begins = relates_by _ _ (λ x y. part_whole keys x y) _ _ begins

  -- all files were read before the call gives up
  pub reads_all : (l : Type 0) → ReadsFiles l k m Complete a b → ReadsFiles l k m GaveUp a b
  reads_all l reads = record {
    held = reads.held;
    begins = parts k reads.begins;
    begun = reads.begun;
    begun_before = reads.begun_before;
    taken = reads.taken;
    taken_before = reads.taken_before;
    faults = reads.faults;
    cause = reads.cause;
  }

-- ---- keys that aren't known

-- a call that reads nothing
pub unread : (s : StoreState) → ReadsFiles ⊥ None None Complete s s
unread s = record {
  held = refl;
  begins = tt;
  begun = tt;
  begun_before = omega arith;
  taken = tt;
  taken_before = omega arith;
  faults = omega arith;
  cause = refl;
}

-- the keys and the number of bytes may be treated as unknown
pub reads_fewer : (l1 l : Type 0) (k : Option (List (List ℕ))) (m : Option ℕ) (e : Ending) (a b : StoreState) → (l1 → l) → ReadsFiles l1 k m e a b → ReadsFiles l None None e a b
reads_fewer l1 l k m e a b f reads = record {
  held = reads.held;
  begins = tt;
  begun = tt;
  begun_before = reads.begun_before;
  taken = tt;
  taken_before = reads.taken_before;
  faults = reads.faults;
  cause = cause_part [] [] l1 l e _ _ f reads.cause;
}
