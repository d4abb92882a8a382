-- What a crash leaves of a disk in memory, change by change.
use Rattle.std.proofs.Common.{◌≡◌, ◌≤◌, ◌+◌, ◌||◌, ◌++◌, ℕ, Bool, true, false, List, [], ◌∷◌, length, drop, refl, sym, ap, ◌∙◌, arith}
use Rattle.std.proofs.lemmas.Bool.{false≢true}
use Rattle.std.proofs.lemmas.List.{drop-append-le}
use Rattle.std.proofs.lemmas.List.Folds.{list_any-append}
use Rattle.std.specs.List.{list_any}
use Rattle.tree_face.specs.declared.disk.Slot.{Slot}
use Rattle.tree_face.specs.declared.memory.past.Change.{Change}
use Rattle.tree_face.specs.declared.memory.past.Past.{Past}
use Rattle.tree_face.specs.Crash.{HasMoments, KeepsSlots}
use Rattle.tree_face.specs.Disk.{Content, DiskState, content_eq}
use Rattle.tree_face.specs.Past.{Holding, IsChangedBy, KeepsPast, Moment, changes_of, clock_of, first_moment, first_of, holding_after, last_moment, may_leave, might_leave, moment_after, moment_in, moments}

-- ---- tests

pub absorbed : (x y : Bool) → (y ≡ true → x ≡ true) → (x || y) ≡ x
absorbed true y f = refl
absorbed false true f = sym (f refl)
absorbed false false f = refl

pub or_in : (x y z : Bool) → (y ≡ true → x ≡ true) → (x || (y || z)) ≡ (x || z)
or_in true y z f = refl
or_in false true z f = absurd (false≢true (f refl))
or_in false false z f = refl

-- ---- a call that writes no slot

module _ (old new : DiskState) (laws : HasMoments old) (time : new.time ≡ old.time) (may : (slot : Slot) (b : Content) → new.may slot b ≡ old.may slot b)
    (since : (t : ℕ) (slot : Slot) (b : Content) → new.since t slot b ≡ old.since t slot b) where
  pub still : KeepsSlots old new
  still = record {
    goes_on = record {
      later = omega (arith, time);
      moments = λ t slot b le. since t slot b ∙ sym (ap (λ x. old.since t slot b || x) (since old.time slot b) ∙ absorbed _ _ (laws.earlier t old.time slot b le (omega arith)));
    };
    slots = λ slot. record { now = may slot; during = λ t b le. since t slot b };
  }

-- ---- one more change

module _ (slot : Slot) where
  pub last_moment_more : (m : Moment) (cs : List Change) (c : Change) → last_moment slot m (cs ++ c ∷ []) ≡ moment_after slot (last_moment slot m cs) c
  last_moment_more m [] c = refl
  last_moment_more m (x ∷ cs) c = last_moment_more (moment_after slot m x) cs c

  moments_more : (m : Moment) (cs : List Change) (c : Change) → moments slot m (cs ++ c ∷ []) ≡ moments slot m cs ++ moment_after slot (last_moment slot m cs) c ∷ []
  moments_more m [] c = refl
  moments_more m (x ∷ cs) c = ap (λ l. m ∷ l) (moments_more (moment_after slot m x) cs c)

  count_moments : (m : Moment) (cs : List Change) → length (moments slot m cs) ≡ length cs + 1
  count_moments m [] = refl
  count_moments m (x ∷ cs) = let e = count_moments (moment_after slot m x) cs in omega (arith, e)

  since_more : (b : Content) (t : ℕ) (m : Moment) (cs : List Change) (c : Change) → t ≤ length cs
      → list_any (λ (m : Moment). m.may b) (drop t (moments slot m (cs ++ c ∷ []))) ≡
      (list_any (λ (m : Moment). m.may b) (drop t (moments slot m cs)) || (moment_after slot (last_moment slot m cs) c).may b)
  since_more b t m cs c le =
      let count = count_moments m cs in
      ap (λ l. list_any (λ (m : Moment). m.may b) (drop t l)) (moments_more m cs c)
      ∙ ap (list_any (λ (m : Moment). m.may b)) (drop-append-le t (moments slot m cs) (moment_after slot (last_moment slot m cs) c ∷ []) (omega (arith, le, count)))
      ∙ list_any-append (λ (m : Moment). m.may b) (drop t (moments slot m cs)) (moment_after slot (last_moment slot m cs) c ∷ [])
      ∙ ap (λ x. list_any (λ (m : Moment). m.may b) (drop t (moments slot m cs)) || x) (absorbed ((moment_after slot (last_moment slot m cs) c).may b) false (λ e. absurd (false≢true e)))

-- ---- the record of a disk

module _ (p q : Past) where
  same_first : (slot : Slot) → first_of q slot ≡ first_of p slot → first_moment q slot ≡ first_moment p slot
  same_first slot e = ap (λ (c : Content). record { holds = record { now = c; settled = c }; may = content_eq c }) e

  module _ (keeps : KeepsPast p q) where
    pub kept_moment : (slot : Slot) → moment_in q slot ≡ moment_in p slot
    kept_moment slot = ap (λ (m : Moment). last_moment slot m (changes_of q)) (same_first slot (keeps.first slot)) ∙ ap (last_moment slot (first_moment p slot)) keeps.same

    pub kept_may : (slot : Slot) (b : Content) → may_leave q slot b ≡ may_leave p slot b
    kept_may slot b = ap (λ (m : Moment). (last_moment slot m (changes_of q)).may b) (same_first slot (keeps.first slot)) ∙ ap (λ cs. (last_moment slot (first_moment p slot) cs).may b) keeps.same

    pub kept_since : (t : ℕ) (slot : Slot) (b : Content) → might_leave q t slot b ≡ might_leave p t slot b
    kept_since t slot b =
        ap (λ (m : Moment). list_any (λ (m : Moment). m.may b) (drop t (moments slot m (changes_of q)))) (same_first slot (keeps.first slot))
        ∙ ap (λ cs. list_any (λ (m : Moment). m.may b) (drop t (moments slot (first_moment p slot) cs))) keeps.same

    pub kept_time : clock_of q ≡ clock_of p
    kept_time = ap length keeps.same

  module _ (c : Change) (changed : IsChangedBy c p q) where
    pub moment_more : (slot : Slot) → moment_in q slot ≡ moment_after slot (moment_in p slot) c
    moment_more slot =
        ap (λ (m : Moment). last_moment slot m (changes_of q)) (same_first slot (changed.first slot))
        ∙ ap (last_moment slot (first_moment p slot)) changed.more
        ∙ last_moment_more slot (first_moment p slot) (changes_of p) c

    pub since_after : (t : ℕ) (slot : Slot) (b : Content) → t ≤ clock_of p → might_leave q t slot b ≡ (might_leave p t slot b || (moment_after slot (moment_in p slot) c).may b)
    since_after t slot b le =
        ap (λ (m : Moment). list_any (λ (m : Moment). m.may b) (drop t (moments slot m (changes_of q)))) (same_first slot (changed.first slot))
        ∙ ap (λ cs. list_any (λ (m : Moment). m.may b) (drop t (moments slot (first_moment p slot) cs))) changed.more
        ∙ since_more slot b t (first_moment p slot) (changes_of p) c le

-- ---- what a slot holds

abbrev pub holding_at_end : Slot → Holding → List Change → Holding
holding_at_end slot h [] = h
holding_at_end slot h (c ∷ cs) = holding_at_end slot (holding_after slot h c) cs

pub holds_at_end : (slot : Slot) (m : Moment) (cs : List Change) → (last_moment slot m cs).holds ≡ holding_at_end slot m.holds cs
holds_at_end slot m [] = refl
holds_at_end slot m (x ∷ cs) = holds_at_end slot (moment_after slot m x) cs
