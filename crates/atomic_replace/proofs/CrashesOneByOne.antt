-- The contents after a crash while slots are replaced one after another.
use Rattle.std.proofs.Common.{◌≡◌, ◌⊎◌, ◌≤◌, ◌||◌, Bool, true, false, List, [], ◌∷◌, ◌++◌, Option, Some, None, refl, sym, ap, subst, ◌∙◌, inl, inr, arith}
use Rattle.atomic_replace.specs.Replace.{IsWritten, Write}
use Rattle.tree_face.proofs.Crash.{content_is, slot_is}
use Rattle.tree_face.specs.Crash.{HasMoments, Leaves}
use Rattle.tree_face.specs.declared.disk.Slot.{Slot}
use Rattle.tree_face.specs.Disk.{Content, DiskContent, DiskState, content_eq, slot_eq}
use Rattle.tree_face.specs.Known.{IfKnown, Relates}
use Rattle.atomic_replace.specs.OneByOne.{LeavesOnlyWritten, IsOfWrites, SettlesBefore, SettlesInOrder, StopsInOrder, is_written}

-- ---- what is written

pub written_first : (xs ys : List Write) (slot : Slot) (b : Content) → IsOfWrites xs slot b → IsOfWrites (xs ++ ys) slot b
written_first [] ys slot b is = absurd is
written_first (x ∷ xs) ys slot b (inl is) = inl is
written_first (x ∷ xs) ys slot b (inr is) = inr (written_first xs ys slot b is)

written_second : (xs ys : List Write) (slot : Slot) (b : Content) → IsOfWrites ys slot b → IsOfWrites (xs ++ ys) slot b
written_second [] ys slot b is = is
written_second (x ∷ xs) ys slot b is = inr (written_second xs ys slot b is)

either_written : (xs ys : List Write) (slot : Slot) → is_written (xs ++ ys) slot ≡ true → (is_written xs slot ≡ true) ⊎ (is_written ys slot ≡ true)
either_written [] ys slot h = inr h
either_written (x ∷ xs) ys slot h = by (slot_eq slot x.0) (either_written xs ys slot) h
  where
    by : (first : Bool) → (is_written (xs ++ ys) slot ≡ true → (is_written xs slot ≡ true) ⊎ (is_written ys slot ≡ true))
        → (first || is_written (xs ++ ys) slot) ≡ true → ((first || is_written xs slot) ≡ true) ⊎ (is_written ys slot ≡ true)
    by true rest h = inl refl
    by false rest h = rest h

-- ---- at each moment

pub leaves_by : (P Q : Slot → Content → Type 0) (a b : DiskState) → ((slot : Slot) (c : Content) → P slot c → Q slot c) → Leaves P a b → Leaves Q a b
leaves_by P Q a b f l = record {
  later = l.later;
  during = λ t slot c at h. elim (l.during t slot c at h) [ inl was ↦ inl was | inr is ↦ inr (f slot c is) ];
  now = λ slot c h. elim (l.now slot c h) [ inl was ↦ inl was | inr is ↦ inr (f slot c is) ];
}

module _ (xs ys : List Write) (old middle new : DiskState) where
  pub leaves_on : Leaves (IsOfWrites xs) old middle → Leaves (IsOfWrites ys) middle new → Leaves (IsOfWrites (xs ++ ys)) old new
  leaves_on first next = record {
    later = omega (arith, first.later, next.later);
    during = λ t slot c at h. elim (next.during t slot c (omega (arith, at, first.later)) h) [
      | inl was ↦ elim (first.during t slot c at was) [ inl before ↦ inl before | inr is ↦ inr (written_first xs ys slot c is) ]
      | inr is ↦ inr (written_second xs ys slot c is)
    ];
    now = λ slot c h. elim (next.now slot c h) [
      | inl was ↦ elim (first.now slot c was) [ inl before ↦ inl before | inr is ↦ inr (written_first xs ys slot c is) ]
      | inr is ↦ inr (written_second xs ys slot c is)
    ];
  }

pub nothing_left : (s : DiskState) → Leaves (IsOfWrites []) s s
nothing_left s = record { later = omega arith; during = λ t slot c at h. inl h; now = λ slot c h. inl h }

-- ---- one slot after another

later_on : (xs : List Write) (a b : DiskState) → SettlesInOrder xs a b → a.time ≤ b.time
later_on [] a b same = let e : b.time ≡ a.time = ap (λ (s : DiskState). s.time) same in omega (arith, e)
later_on (x ∷ xs) a b (s, (before, rest)) = let last : s.time ≤ b.time = later_on xs s b rest in omega (arith, before.until.later, last)

module _ (ys : List Write) (middle new : DiskState) (next : Leaves (IsOfWrites ys) middle new) where
  before_on : (x : Write) (xs : List Write) (a settled : DiskState) → settled.time ≤ middle.time → SettlesBefore x xs a settled middle → SettlesBefore x (xs ++ ys) a settled new
  before_on x xs a settled at before = record {
    until = before.until;
    on = λ b h. elim (next.during settled.time x.0 b at h) [
      | inl was ↦ written_first (x ∷ xs) ys x.0 b (before.on b was)
      | inr is ↦ written_second (x ∷ xs) ys x.0 b is
    ];
  }

  in_order_on : (xs : List Write) (a : DiskState) → SettlesInOrder xs a middle → SettlesInOrder ys middle new → SettlesInOrder (xs ++ ys) a new
  in_order_on [] a same rest = subst (λ (s : DiskState). SettlesInOrder ys s new) same rest
  in_order_on (x ∷ xs) a (s, (before, first)) rest = (s, (before_on x xs a s (later_on xs s middle first) before, in_order_on xs s first rest))

  stops_on : (slot : Slot) (xs : List Write) (a : DiskState) → SettlesInOrder xs a middle → StopsInOrder slot ys middle new → StopsInOrder slot (xs ++ ys) a new
  stops_on slot [] a same rest = subst (λ (s : DiskState). StopsInOrder slot ys s new) same rest
  stops_on slot (x ∷ xs) a (s, (before, first)) rest = inr (s, (before_on x xs a s (later_on xs s middle first) before, stops_on slot xs s first rest))

stops_first : (slot : Slot) (xs ys : List Write) (a b : DiskState) → StopsInOrder slot xs a b → StopsInOrder slot (xs ++ ys) a b
stops_first slot [] ys a b stops = absurd stops
stops_first slot (x ∷ xs) ys a b (inl here) = inl here
stops_first slot (x ∷ xs) ys a b (inr (s, (before, rest))) =
    inr (s, (record { until = before.until; on = λ c h. written_first (x ∷ xs) ys x.0 c (before.on c h) }, stops_first slot xs ys s b rest))

settled_on : (xs ys : List Write) (middle new : DiskState) → Leaves (IsOfWrites ys) middle new → LeavesOnlyWritten xs middle → LeavesOnlyWritten ys new → LeavesOnlyWritten (xs ++ ys) new
settled_on xs ys middle new next first last slot b there h = elim (either_written xs ys slot there) [
  | inl is ↦ elim (next.now slot b h) [ inl was ↦ written_first xs ys slot b (first slot b is was) | inr new ↦ written_second xs ys slot b new ]
  | inr is ↦ written_second xs ys slot b (last slot b is h)
]

-- ---- if contents are known

module _ (R : DiskContent → DiskContent → Type 0) (xs ys : List Write) (old middle new : DiskState) (next : Leaves (IsOfWrites ys) middle new) where
  pub order_on : (a b : Option DiskContent) → Relates R a b → IfKnown a (λ _. SettlesInOrder xs old middle) → IfKnown b (λ _. SettlesInOrder ys middle new)
      → IfKnown a (λ _. SettlesInOrder (xs ++ ys) old new)
  order_on None b known first last = tt
  order_on (Some a) None known first last = absurd known
  order_on (Some a) (Some b) known first last = in_order_on ys middle new next xs old first last

  pub order_second : (slot : Slot) (a b : Option DiskContent) → Relates R a b → IfKnown a (λ _. SettlesInOrder xs old middle) → IfKnown b (λ _. StopsInOrder slot ys middle new)
      → IfKnown a (λ _. StopsInOrder slot (xs ++ ys) old new)
  order_second slot None b known first last = tt
  order_second slot (Some a) None known first last = absurd known
  order_second slot (Some a) (Some b) known first last = stops_on ys middle new next slot xs old first last

  pub all_settled : (b c : Option DiskContent) → Relates R b c → IfKnown b (λ _. LeavesOnlyWritten xs middle) → IfKnown c (λ _. LeavesOnlyWritten ys new) → IfKnown c (λ _. LeavesOnlyWritten (xs ++ ys) new)
  all_settled b None known first last = tt
  all_settled None (Some c) known first last = absurd known
  all_settled (Some b) (Some c) known first last = settled_on xs ys middle new next first last

pub order_first : (slot : Slot) (xs ys : List Write) (old new : DiskState) (a : Option DiskContent) → IfKnown a (λ _. StopsInOrder slot xs old new)
    → IfKnown a (λ _. StopsInOrder slot (xs ++ ys) old new)
order_first slot xs ys old new None stops = tt
order_first slot xs ys old new (Some a) stops = stops_first slot xs ys old new stops

-- ---- one slot

either_false : (a : Bool) → (a || false) ≡ true → a ≡ true
either_false true h = refl
either_false false h = absurd (cc)

module _ (write : Write) (old new : DiskState) where
  pub one_leaves : Leaves (IsWritten write) old new → Leaves (IsOfWrites (write ∷ [])) old new
  one_leaves leaves = leaves_by (IsWritten write) (IsOfWrites (write ∷ [])) old new (λ slot b is. inl is) leaves

  pub one_order : (c d : Option DiskContent) → Relates (λ a b. Unit {0}) c d → HasMoments new → Leaves (IsOfWrites (write ∷ [])) old new
      → IfKnown d (λ _. (b : Content) → new.may write.0 b ≡ content_eq (Some write.1) b) → IfKnown c (λ _. SettlesInOrder (write ∷ []) old new)
  one_order None d known laws leaves settled = tt
  one_order (Some c) None known laws leaves settled = absurd known
  one_order (Some c) (Some d) known laws leaves settled =
      (new, (record { until = leaves; on = λ b h. inl (refl, sym (content_is (Some write.1) b (sym (settled b) ∙ sym (laws.now write.0 b) ∙ h))) }, refl))

  pub one_settled : (c : Option DiskContent) → IfKnown c (λ _. (b : Content) → new.may write.0 b ≡ content_eq (Some write.1) b)
      → IfKnown c (λ _. LeavesOnlyWritten (write ∷ []) new)
  one_settled None settled = tt
  one_settled (Some c) settled = λ slot b there h.
      let is : slot ≡ write.0 = slot_is slot write.0 (either_false (slot_eq slot write.0) there) in
      inl (is, sym (content_is (Some write.1) b (sym (settled b) ∙ subst (λ (s : Slot). new.may s b ≡ true) is h)))
