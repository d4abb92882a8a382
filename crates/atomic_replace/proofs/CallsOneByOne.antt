-- Consecutive writing calls, and slots that are replaced one after another.
use Rattle.std.proofs.Common.{◌≡◌, ◌+◌, ◌==◌, ◌&&◌, ℕ, zero, suc, true, false, List, [], ◌∷◌, ◌++◌, length, take, Some, refl, sym, ap, subst, ◌∙◌, append_assoc, inl, inr, arith}
use Rattle.std.proofs.lemmas.List.{take-append-le}
use Rattle.std.proofs.lemmas.Option.{slice_get_within}
use Rattle.std.proofs.Math.Seq.{take-append-add}
use Rattle.std.specs.List.{list_any, slice_get}
use Rattle.atomic_replace.proofs.Calls.{get_later}
use Rattle.atomic_replace.specs.declared.fault.DiskFault.{DiskFault}
use Rattle.atomic_replace.specs.Replace.{ReplacesSlot, StopsAt, Write, WritesSlot, call_by}
use Rattle.tree_face.proofs.Follows.{follow}
use Rattle.tree_face.proofs.Known.{relates_by, relates_on}
use Rattle.tree_face.specs.Calls.{replacement}
use Rattle.tree_face.specs.Crash.{HasMoments}
use Rattle.tree_face.specs.declared.disk.DoneCall.{DoneCall}
use Rattle.tree_face.specs.declared.disk.Slot.{Slot}
use Rattle.tree_face.specs.declared.disk.Slot.TheVariants.{Manifest, Cache, Aux}
use Rattle.tree_face.specs.declared.disk.Tag.{Tag}
use Rattle.tree_face.specs.Disk.{DiskContent, DiskState, KeepsOthersMade, slot_eq}
use Rattle.tree_face.specs.Follows.{IsFollowedBy}
use Rattle.atomic_replace.proofs.CrashesOneByOne.{all_settled, leaves_by, leaves_on, one_leaves, one_order, one_settled, order_first, order_on, order_second, written_first}
use Rattle.atomic_replace.specs.OneByOne.{FailsToReplace, KeepsRestMade, Replaces, WritesAll, WritesPart, calls_of}

-- ---- items of a list

get_first : (xs ys : List DoneCall) (n : ℕ) (x : DoneCall) → slice_get xs n ≡ Some x → slice_get (xs ++ ys) n ≡ Some x
get_first [] ys n x e = absurd (cc)
get_first (y ∷ xs) ys zero x e = e
get_first (y ∷ xs) ys (suc n) x e = get_first xs ys n x e

-- ---- calls that are followed by others

module _ (xs ys : List DoneCall) (call : DoneCall) where
  stop_first : (a b : List DoneCall) → StopsAt call xs a b → StopsAt call (xs ++ ys) a b
  stop_first a b s =
      let within = slice_get_within xs s.number call s.at in
      record {
        number = s.number;
        at = get_first xs ys s.number call s.at;
        made = elim s.made [
          | inl e ↦ inl (e ∙ ap (λ l. a ++ l) (sym (take-append-le s.number xs ys (omega (arith, within)))))
          | inr e ↦ inr (e ∙ ap (λ l. a ++ l) (sym (take-append-le (s.number + 1) xs ys (omega (arith, within)))))
        ];
      }

  stop_second : (a b c : List DoneCall) → IsFollowedBy xs a b → StopsAt call ys b c → StopsAt call (xs ++ ys) a c
  stop_second a b c first s = record {
    number = length xs + s.number;
    at = get_later xs ys s.number (length xs + s.number) refl ∙ s.at;
    made = elim s.made [
      | inl e ↦ inl (e ∙ joined s.number)
      | inr e ↦ inr (e ∙ joined (s.number + 1) ∙ ap (λ n. a ++ take n (xs ++ ys)) (omega arith))
    ];
  }
    where
      joined : (n : ℕ) → b ++ take n ys ≡ a ++ take (length xs + n) (xs ++ ys)
      joined n = ap (λ l. l ++ take n ys) first ∙ append_assoc a xs (take n ys) ∙ ap (λ l. a ++ l) (sym (take-append-add xs ys n))

-- ---- slots that are replaced one after another

module _ (tag : ℕ) where
  both : (xs ys : List Write) (a b c : DiskContent) → Replaces tag xs a b → Replaces tag ys b c → Replaces tag (xs ++ ys) a c
  both [] ys a b c first next = subst (λ (d : DiskContent). Replaces tag ys d c) first next
  both (x ∷ xs) ys a b c (d, (one, rest)) next = (d, (one, both xs ys d b c rest next))

  fails_first : (slot : Slot) (xs ys : List Write) (a b : DiskContent) → FailsToReplace tag slot xs a b → FailsToReplace tag slot (xs ++ ys) a b
  fails_first slot [] ys a b fails = absurd fails
  fails_first slot (x ∷ xs) ys a b (inl here) = inl here
  fails_first slot (x ∷ xs) ys a b (inr (d, (one, rest))) = inr (d, (one, fails_first slot xs ys d b rest))

  fails_second : (slot : Slot) (xs ys : List Write) (a b c : DiskContent) → Replaces tag xs a b → FailsToReplace tag slot ys b c → FailsToReplace tag slot (xs ++ ys) a c
  fails_second slot [] ys a b c first next = subst (λ (d : DiskContent). FailsToReplace tag slot ys d c) first next
  fails_second slot (x ∷ xs) ys a b c (d, (one, rest)) next = inr (d, (one, fails_second slot xs ys d b c rest next))

calls_append : (tag : Tag) (xs ys : List Write) → calls_of tag (xs ++ ys) ≡ calls_of tag xs ++ calls_of tag ys
calls_append tag [] ys = refl
calls_append tag (x ∷ xs) ys = ap (λ l. replacement tag x.0 ++ l) (calls_append tag xs ys) ∙ sym (append_assoc (replacement tag x.0) (calls_of tag xs) (calls_of tag ys))

module _ (tag : Tag) (xs ys : List Write) (old middle new : DiskState) where
  pub writes_on : WritesAll tag xs old middle → WritesAll tag ys middle new → WritesAll tag (xs ++ ys) old new
  writes_on first next = record {
    contents = relates_on _ _ _ (both tag.0 xs ys) _ _ _ first.contents next.contents;
    calls = rw (calls_append tag xs ys) (relates_on _ _ _ (follow (calls_of tag xs) (calls_of tag ys)) _ _ _ first.calls next.calls);
    leaves = leaves_on xs ys old middle new first.leaves next.leaves;
    order = order_on _ xs ys old middle new next.leaves old.contents middle.contents first.contents first.order next.order;
    settled = all_settled _ xs ys old middle new next.leaves middle.contents new.contents next.contents first.settled next.settled;
    reads = next.reads ∙ first.reads;
    faults = next.faults ∙ first.faults;
    read_faults = next.read_faults ∙ first.read_faults;
  }

  pub part_first : (fault : DiskFault) → WritesPart tag xs fault old middle → WritesPart tag (xs ++ ys) fault old middle
  part_first fault part = record {
    contents = relates_by _ _ (fails_first tag.0 fault.slot xs ys) _ _ part.contents;
    calls = rw (calls_append tag xs ys) (relates_by _ _ (stop_first (calls_of tag xs) (calls_of tag ys) (call_by tag fault.slot fault.call)) _ _ part.calls);
    leaves = leaves_by _ _ old middle (λ slot b is. written_first xs ys slot b is) part.leaves;
    order = order_first fault.slot xs ys old middle old.contents part.order;
    reads = part.reads;
    faults = part.faults;
    read_faults = part.read_faults;
  }

  pub part_second : (fault : DiskFault) → WritesAll tag xs old middle → WritesPart tag ys fault middle new → WritesPart tag (xs ++ ys) fault old new
  part_second fault first part = record {
    contents = relates_on _ _ _ (fails_second tag.0 fault.slot xs ys) _ _ _ first.contents part.contents;
    calls = rw (calls_append tag xs ys) (relates_on _ _ _ (stop_second (calls_of tag xs) (calls_of tag ys) (call_by tag fault.slot fault.call)) _ _ _ first.calls part.calls);
    leaves = leaves_on xs ys old middle new first.leaves part.leaves;
    order = order_second _ xs ys old middle new part.leaves fault.slot old.contents middle.contents first.contents first.order part.order;
    reads = part.reads ∙ first.reads;
    faults = rw (← first.faults) part.faults;
    read_faults = part.read_faults ∙ first.read_faults;
  }

-- ---- one slot

module _ (tag : Tag) (write : Write) (old new : DiskState) where
  pub one_write : HasMoments new → WritesSlot tag write old new → WritesAll tag (write ∷ []) old new
  one_write laws w =
      let leaves = one_leaves write old new w.leaves in
      record {
        contents = relates_by (ReplacesSlot tag.0 write) (Replaces tag.0 (write ∷ [])) (λ a b one. (b, (one, refl))) _ _ w.contents;
        calls = w.calls;
        leaves = leaves;
        order = one_order write old new old.contents new.contents (relates_by (ReplacesSlot tag.0 write) (λ a b. Unit {0}) (λ a b one. tt) _ _ w.contents) laws leaves w.settled;
        settled = one_settled write old new new.contents w.settled;
        reads = w.reads;
        faults = w.faults;
        read_faults = w.read_faults;
      }

-- ---- temporary files

module _ (tag : ℕ) (slots : List Slot) where
  by_slot : (s slot : Slot) → list_any (slot_eq slot) slots ≡ true → list_any (slot_eq s) slots ≡ false → slot_eq s slot ≡ false
  by_slot Manifest Manifest u h = absurd (cc)
  by_slot Manifest Cache u h = refl
  by_slot Manifest Aux u h = refl
  by_slot Cache Manifest u h = refl
  by_slot Cache Cache u h = absurd (cc)
  by_slot Cache Aux u h = refl
  by_slot Aux Manifest u h = refl
  by_slot Aux Cache u h = refl
  by_slot Aux Aux u h = absurd (cc)

  other_slot : (t : ℕ) (s slot : Slot) → list_any (slot_eq slot) slots ≡ true → (t == tag) && list_any (slot_eq s) slots ≡ false → (t == tag) && slot_eq s slot ≡ false
  other_slot t s slot u h = elim (t == tag) as (λ b. b && list_any (slot_eq s) slots ≡ false → b && slot_eq s slot ≡ false) [ true ↦ λ e. by_slot s slot u e | false ↦ λ e. refl ] h

  pub rest_made : (slot : Slot) → list_any (slot_eq slot) slots ≡ true → (old new : DiskState) → KeepsOthersMade tag slot old new → KeepsRestMade tag slots old new
  rest_made slot u old new kept = λ t s h. kept t s (other_slot t s slot u h)

pub rest_on : (tag : ℕ) (slots : List Slot) (a b c : DiskState) → KeepsRestMade tag slots a b → KeepsRestMade tag slots b c → KeepsRestMade tag slots a c
rest_on tag slots a b c first next = λ t s h. next t s h ∙ first t s h

-- ---- results
