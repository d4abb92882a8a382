-- The entries of a file, by index.
use Rattle.std.proofs.Common.{◌≡◌, ◌<◌, ℕ, List, length, get_or, Some, None, true, false, Bool, cond, refl, sym, ap, ◌∙◌, subst, arith}
use Rattle.std.proofs.lemmas.Option.{slice_get-get_or}
use Rattle.std.specs.List.{slice_get}
use Rattle.std.specs.Option.{IfSome, is_some}
use Rattle.std.proofs.lemmas.List.FromFn.{length-map-range_with_len, get_or-map-range_with_len}
use Rattle.cache_reader.specs.Cache.{CachedEntry, read, nlibs, entry_at}
use Rattle.cache_lookup.specs.Searches.{IsEntryOf, IsNameAt, IsTied}

-- the entry with this index in the list of entries
pub entry_is : (bytes : List ℕ) (i : ℕ) (entry : CachedEntry) → i < length (read bytes) → entry ≡ entry_at bytes i → IsEntryOf (read bytes) i entry
entry_is bytes i entry h e d =
    let size = length-map-range_with_len (entry_at bytes) 0 (nlibs bytes) in
    get_or-map-range_with_len (entry_at bytes) 0 (nlibs bytes) i i d (omega arith) (omega arith) ∙ sym e

pub name_is : (bytes : List ℕ) (i : ℕ) (entry : CachedEntry) → i < length (read bytes) → entry ≡ entry_at bytes i → IsNameAt (read bytes) i entry.name
name_is bytes i entry h e d = ap (λ (x : CachedEntry). x.name) (entry_is bytes i entry h e d)

-- an entry has a hwcaps name exactly if its hwcap is the index of one
named : (b : Bool) (t : List ℕ) → is_some (cond b (Some t) None) ≡ b
named true t = refl
named false t = refl

tied_at : (bytes : List ℕ) (i : ℕ) → IsTied (entry_at bytes i)
unfolding entry_at
tied_at bytes i = named _ _

pub tied : (bytes : List ℕ) (i : ℕ) (entry : CachedEntry) → entry ≡ entry_at bytes i → IsTied entry
tied bytes i entry e = rw e (tied_at bytes i)

-- a fact about the entry at an index
pub at_entry : (P : CachedEntry → Type 0) (entries : List CachedEntry) (i : ℕ) (entry : CachedEntry) → i < length entries → IsEntryOf entries i entry → P entry → IfSome (slice_get entries i) P
at_entry P entries i entry h is p = rw (slice_get-get_or entries i entry h, is entry) p

from_entry : (P : CachedEntry → Type 0) (entries : List CachedEntry) (i : ℕ) → i < length entries → IfSome (slice_get entries i) P → (d : CachedEntry) → P (get_or entries i d)
from_entry P entries i h p d = subst (λ o. IfSome o P) (slice_get-get_or entries i d h) p

-- the same if the entries didn't change
pub probed : (P : CachedEntry → Type 0) (these those : List CachedEntry) (i : ℕ) → these ≡ those → i < length those → IfSome (slice_get these i) P → (d : CachedEntry) → P (get_or those i d)
probed P these those i e h p = from_entry P those i h (subst (λ es. IfSome (slice_get es i) P) e p)
