-- Progress of a listing, request by request.
use Rattle.std.proofs.Common.{◌≡◌, ◌+◌, ℕ, false, List, [], ◌++◌, append_assoc, Option, Some, None, refl, sym, ap, subst, ◌∙◌}
use Rattle.std.proofs.lemmas.List.{append-nil}
use Rattle.elf_dynamic.proofs.BegunKeys.{keys_then, none_lacks}
use Rattle.elf_dynamic.specs.Begun.{lacks_one}
use Rattle.tree_face.proofs.StoreUse.{reads_all, reads_none, reads_then, unread}
use Rattle.tree_face.specs.Store.{Contents, StoreState}
use Rattle.tree_face.specs.StoreUse.{Ending, Complete, DeviceFailed, GaveUp}
use Rattle.ldd_resolve.proofs.Records.{record_more, record_none}
use Rattle.ldd_resolve.specs.Listing.{Record, Inputs, record_after}
use Rattle.ldd_resolve.specs.Loading.{Advances, GoesBy}
use Rattle.rpath_search.specs.Searching.{AreHeld}
use Rattle.ldd_resolve.specs.Searching.{BeginsHeld}

-- ---- nothing is read

pub unread_held : (held : Contents) (s : StoreState) → BeginsHeld held [] Complete s s
unread_held held s = record { reads = reads_none _ _ s; none_lacks = refl }

-- ---- consecutive calls

held_on : (e : Ending) (held : Contents) (ks more : List (List ℕ)) → lacks_one held ks ≡ false → AreHeld held more e → AreHeld held (ks ++ more) e
held_on Complete held ks more first next = none_lacks held ks more first next
held_on DeviceFailed held ks more first next = tt
held_on GaveUp held ks more first next = tt

module _ (w : Inputs) (r : Record) (e : Ending) (P Q : Record → Type 0) (a b c : StoreState) where
  held_then : GoesBy w r Complete P a b → ((r2 : Record) → P r2 → GoesBy w r2 e Q b c) → GoesBy w r e Q a c
  held_then first f =
      let r2 = record_after w r first.requests in
      let next = f r2 first.holds in
      let whole = record_more w r first.requests next.requests in
      record {
        requests = next.requests + first.requests;
        keys = first.keys ++ next.keys;
        begun = ap (λ (x : Record). x.keys) (sym whole) ∙ next.begun ∙ ap (λ l. l ++ next.keys) first.begun ∙ append_assoc r.keys first.keys next.keys;
        begins = record {
          reads = keys_then (Some w.held) first.keys next.keys e a b c first.begins.none_lacks first.begins.reads next.begins.reads;
          none_lacks = held_on e w.held first.keys next.keys first.begins.none_lacks next.begins.none_lacks;
        };
        holds = subst Q whole next.holds;
      }

module _ (inputs : Contents → Inputs) (r : Record) (e : Ending) (P Q : Record → Type 0) (a b c : StoreState) where
  pub advances_then : (known : Option Contents) → Advances known inputs r Complete P a b → ((r2 : Record) → P r2 → Advances known inputs r2 e Q b c) → Advances known inputs r e Q a c
  advances_then None first f =
      let next = f first.some first.holds in
      record { reads = reads_then e a b c ⊥ ⊥ ⊥ None None None None (λ l. l) first.reads next.reads; some = next.some; holds = next.holds }
  advances_then (Some held) first f = held_then (inputs held) r e P Q a b c first f

-- a fact can be replaced by one that follows from it
module _ (inputs : Contents → Inputs) (r : Record) (e : Ending) (P Q : Record → Type 0) (a b : StoreState) (f : (r2 : Record) → P r2 → Q r2) where
  pub advances_as : (known : Option Contents) → Advances known inputs r e P a b → Advances known inputs r e Q a b
  advances_as None so_far = record { reads = so_far.reads; some = so_far.some; holds = f so_far.some so_far.holds }
  advances_as (Some held) so_far = record {
    requests = so_far.requests;
    keys = so_far.keys;
    begun = so_far.begun;
    begins = so_far.begins;
    holds = f (record_after (inputs held) r so_far.requests) so_far.holds;
  }

module _ (inputs : Contents → Inputs) (r : Record) (P : Record → Type 0) (s : StoreState) where
  -- no request is answered
  pub stays : (known : Option Contents) → P r → Advances known inputs r Complete P s s
  stays None p = record { reads = unread s; some = r; holds = p }
  stays (Some held) p = record {
    requests = 0;
    keys = [];
    begun = ap (λ (x : Record). x.keys) (record_none (inputs held) r) ∙ sym (append-nil r.keys);
    begins = unread_held (inputs held).held s;
    holds = subst P (sym (record_none (inputs held) r)) p;
  }

-- out of memory
module _ (inputs : Contents → Inputs) (r : Record) (s : StoreState) where
  pub gives_up : (known : Option Contents) → Advances known inputs r GaveUp (λ _. Unit {0}) s s
  gives_up None = record { reads = reads_all None None s s ⊥ (unread s); some = r; holds = tt }
  gives_up (Some held) = record {
    requests = 0;
    keys = [];
    begun = ap (λ (x : Record). x.keys) (record_none (inputs held) r) ∙ sym (append-nil r.keys);
    begins = record { reads = reads_all _ _ s s _ (reads_none _ _ s); none_lacks = tt };
    holds = tt;
  }

pub gives_up_then : (inputs : Contents → Inputs) (r : Record) (P : Record → Type 0) (a b : StoreState) (known : Option Contents) →
    Advances known inputs r Complete P a b → Advances known inputs r GaveUp (λ _. Unit {0}) a b
gives_up_then inputs r P a b known first = advances_then inputs r GaveUp P (λ _. Unit {0}) a b b known first (λ r2 p. gives_up inputs r2 b known)
