-- Facts about the content that a store reads from.
use Rattle.std.proofs.Common.{◌≡◌, ℕ, List, length, Option, Some, None, IfSome, Ok, refl, sym, subst, ◌∙◌, arith}
use Rattle.tree_face.specs.Known.{IfKnown}
use Rattle.tree_face.specs.Store.{StoreState}
use Rattle.tree_face.specs.StoreUse.{Ending, Complete, DeviceFailed, GaveUp}
use Rattle.elf_headers.specs.declared.kinds.Head.{Head}
use Rattle.elf_headers.specs.Header.{head}
use Rattle.elf_headers.proofs.Heads.{gives}
use Rattle.elf_headers.specs.Reading.{known_content, CountsFaults, OnlyReads, IsHeadOf}

pub same : {e : Ending} (s t : StoreState) → OnlyReads e s t → known_content t ≡ known_content s
same s t r = rw (r.held, r.content) refl

-- A fact about the content before a read is a fact about the content after it, and the reverse.
pub before : {e : Ending} (P : List ℕ → Type 0) (s t : StoreState) → OnlyReads e s t → IfKnown (known_content t) P → IfKnown (known_content s) P
before P s t r h = subst (λ o. IfKnown o P) (same s t r) h

pub after : {e : Ending} (P : List ℕ → Type 0) (s t : StoreState) → OnlyReads e s t → IfKnown (known_content s) P → IfKnown (known_content t) P
after P s t r h = subst (λ o. IfKnown o P) (sym (same s t r)) h

pub with : {P Q : List ℕ → Type 0} (known : Option (List ℕ)) → IfKnown known P → ((bytes : List ℕ) → P bytes → Q bytes) → IfKnown known Q
with None h f = tt
with (Some bytes) h f = f bytes h

pub both : {P Q R : List ℕ → Type 0} (known : Option (List ℕ)) → IfKnown known P → IfKnown known Q → ((bytes : List ℕ) → P bytes → Q bytes → R bytes) → IfKnown known R
both None h k f = tt
both (Some bytes) h k f = f bytes h k

-- a fact about an optional value that is Some
pub at_some : {X : Type 0} (P : X → Type 0) (o : Option X) (x : X) → o ≡ Some x → IfSome o P → P x
at_some P o x e h = subst (λ o. IfSome o P) e h

-- the length of the content is the length in the header
pub sized : (s : StoreState) (h : Head) → IsHeadOf s h → IfKnown (known_content s) (λ bytes. length bytes ≡ h.length)
sized s h i =
    with {P = λ bytes. head bytes ≡ Ok h} {Q = λ bytes. length bytes ≡ h.length} (known_content s) i.content
    (λ bytes e. let given = gives {size = length bytes} {bytes = bytes} {h = h} e in sym given.size_is)

counted_on : (e : Ending) (a b c : ℕ) → b ≡ a → CountsFaults e b c → CountsFaults e a c
counted_on Complete a b c same last = last ∙ same
counted_on DeviceFailed a b c same last = rw (← same) last
counted_on GaveUp a b c same last = last ∙ same

pub chain : {e : Ending} (a b c : StoreState) → OnlyReads Complete a b → OnlyReads e b c → OnlyReads e a c
chain {e = e} a b c r t = record {
  held = t.held ∙ r.held;
  key = t.key ∙ r.key;
  content = t.content ∙ r.content;
  size = t.size ∙ r.size;
  begun = t.begun ∙ r.begun;
  keys = t.keys ∙ r.keys;
  taken = omega arith;
  faults = counted_on e a.faults b.faults c.faults r.faults t.faults;
}

pub three : {P Q R X : List ℕ → Type 0} (known : Option (List ℕ)) → IfKnown known P → IfKnown known Q → IfKnown known R → ((bytes : List ℕ) → P bytes → Q bytes → R bytes → X bytes) → IfKnown known X
three None h k l f = tt
three (Some bytes) h k l f = f bytes h k l
