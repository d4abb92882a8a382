-- The ABIs of the entries from an index on, one entry after another.
use Rattle.std.proofs.Common.{◌≡◌, ◌<◌, ◌∙◌, ℕ, ◌+◌, Bool, true, false, ◌&&◌, List, [], ◌∷◌, Option, Some, None, if◌then◌else◌, ap, drop, get_or, length, pos, refl, rules, subst}
use Rattle.std.proofs.lemmas.List.{drop_more}
use Rattle.std.specs.List.{list_all}
use Rattle.lib_types.specs.declared.abi.Abi.{Abi}
use Rattle.cache_reader.specs.Cache.{CachedEntry}
use Rattle.cache_lookup.specs.Abis.{IsAbiAt, abis_of, common_with, has_candidate, is_same_abi, only_abi}
use Rattle.cache_lookup.specs.Scan.{is_candidate}
use Rattle.cache_lookup.specs.Searches.{IsEntryOf}

-- ---- one more ABI

none_by : (same all : Bool) (o : Abi) → (if same && true then Some o else None) ≡ None → (if same && all then Some o else None) ≡ None
none_by true all o e = absurd (cc)
none_by false all o e = refl

pub joined_none : (common : Option Abi) (abi : Abi) (abis : List Abi) → common_with common (abi ∷ []) ≡ None → common_with common (abi ∷ abis) ≡ None
joined_none None abi abis e = absurd (cc)
joined_none (Some o) abi abis e = none_by (is_same_abi o abi) (list_all (is_same_abi o) abis) o e

some_by : (same : Bool) (o b : Abi) (abis : List Abi) → (if same && true then Some o else None) ≡ Some b
    → (if same && list_all (is_same_abi o) abis then Some o else None) ≡ only_abi (b ∷ abis)
some_by true o b abis e = let same : o ≡ b = search rules in subst (λ (x : Abi). only_abi (o ∷ abis) ≡ only_abi (x ∷ abis)) same refl
some_by false o b abis e = absurd (cc)

pub joined_some : (common : Option Abi) (abi b : Abi) (abis : List Abi) → common_with common (abi ∷ []) ≡ Some b → common_with common (abi ∷ abis) ≡ common_with (Some b) abis
joined_some None abi b abis e = let same : abi ≡ b = search rules in subst (λ (x : Abi). only_abi (abi ∷ abis) ≡ only_abi (x ∷ abis)) same refl
joined_some (Some o) abi b abis e = some_by (is_same_abi o abi) o b abis e

-- ---- one more entry

-- any entry, where an index has one
pub no_entry : CachedEntry
no_entry = record { flags = pos 0; name = []; path = []; hwcap = 0; cap = None }

module _ (entries : List CachedEntry) (i : ℕ) (e : CachedEntry) (within : i < length entries) (is : IsEntryOf entries i e) where
  opened : drop i entries ≡ e ∷ drop (i + 1) entries
  opened = drop_more entries i e within ∙ ap (λ (x : CachedEntry). x ∷ drop (i + 1) entries) (is e)

  pub candidate : (name : List ℕ) (abi : Abi) → is_candidate name abi e ≡ true → has_candidate (drop i entries) name abi ≡ true
  candidate name abi has = rw (opened, has) refl

  pub no_candidate : (name : List ℕ) (abi : Abi) → is_candidate name abi e ≡ false → has_candidate (drop (i + 1) entries) name abi ≡ has_candidate (drop i entries) name abi
  no_candidate name abi other = rw (opened, other) refl

-- ---- one more entry with an ABI, or without one

module _ (entries : List CachedEntry) (i : ℕ) (within : i < length entries) where
  of_entry : (e : CachedEntry) → abis_of (drop i entries) ≡ abis_of (get_or entries i e ∷ drop (i + 1) entries)
  of_entry e = ap abis_of (drop_more entries i e within)

  pub of_no_abi : (common : Option Abi) → IsAbiAt entries i None → common_with common (abis_of (drop (i + 1) entries)) ≡ common_with common (abis_of (drop i entries))
  of_no_abi common none = let e = no_entry in rw (of_entry e, none e) refl

  pub of_abi : (abi : Abi) → IsAbiAt entries i (Some abi) → abis_of (drop i entries) ≡ abi ∷ abis_of (drop (i + 1) entries)
  of_abi abi some = let e = no_entry in rw (of_entry e, some e) refl
