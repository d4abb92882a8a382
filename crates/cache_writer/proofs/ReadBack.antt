-- Reading back a written cache gives the entries that were written.
use Rattle.std.proofs.Common.{◌≡◌, ℕ, suc, ◌+◌, ◌/◌, ◌^◌, ◌<◌, ◌==◌, ◌&&◌, true, false, not, List, [], ◌∷◌, length, map, get_or, slice_index, Option, Some, None, IfSome, refl, sym, ap, ◌∙◌, arith, bytes_eq}
use Rattle.std.proofs.lemmas.Bool.Decides.{nat_tests}
use Rattle.std.proofs.lemmas.List.FromFn.{get_or-map-range_with_len}
use Rattle.std.specs.List.{All, list_any, position_or_len, range_with_len}
use Rattle.std.specs.Str.{is_utf8}
use Rattle.lib_types.specs.Name.{is_name, have_no_slash, slash}
use Rattle.lib_types.proofs.Abis.{signed_flags}
use Rattle.lib_types.specs.declared.entry.Entry.{Entry}
use Rattle.cache_layout.specs.Layout.{is_named, name_index}
use Rattle.cache_reader.specs.Cache as read
use Rattle.cache_writer.specs.CacheText.{cache_text, hwcap_of, hwcaps_names, strings, place}
use Rattle.image_tree.specs.Node.{has_no_nul}
use Rattle.cache_writer.specs.ReadBack.{as_read}
use Rattle.cache_writer.proofs.Bounds.{both_hold, few_names}
use Rattle.cache_writer.proofs.TextsAt.{text_back}
use Rattle.cache_writer.proofs.Back.{IsLaidOut, nlibs_back, entry_back, string_back}
use Rattle.cache_writer.proofs.Sections.{count, names_are, offset_back, number_at}
use Rattle.cache_writer.proofs.Members.{cap_among, index_there}

-- the written strings have no NUL
pub record IsPlain (e : Entry) : Type 0 where
  pub soname : has_no_nul e.soname ≡ true
  pub path : has_no_nul e.path ≡ true
  pub cap : IfSome e.cap (λ cap. has_no_nul cap ≡ true)

without_slash : (t : List ℕ) → have_no_slash t ≡ true → has_no_nul t ≡ true
without_slash [] h = refl
without_slash (b ∷ t) h =
    let parts = both_hold (not (b == slash) && not (b == 0)) (have_no_slash t) h in
    let here = (both_hold (not (b == slash)) (not (b == 0)) parts.0).1 in
    rw (here, without_slash t parts.1) refl

pub name_plain : (t : List ℕ) → is_name t ≡ true → has_no_nul t ≡ true
name_plain t h = without_slash t (both_hold _ (have_no_slash t) (both_hold _ (is_utf8 t) h).0).1

-- ---- the hwcaps name

pub with_bit : (k : ℕ) → k < 2 ^ 32 → (is_named (2 ^ 62 + k) ≡ true) × (name_index (2 ^ 62 + k) ≡ k)
with_bit k h =
    let one : (2 ^ 62 + k) / 2 ^ 62 ≡ 1 = omega arith in
    (rw one refl, omega arith)

cap_back : (es : List Entry) → IsLaidOut es → (cap : Option (List ℕ)) → IfSome cap (λ c. has_no_nul c ≡ true) → IfSome cap (λ c. list_any (bytes_eq c) (hwcaps_names es) ≡ true)
    → read.cap_of (cache_text es) (hwcap_of (hwcaps_names es) cap) ≡ cap
cap_back es l None plain there = refl
cap_back es l (Some c) plain there =
    let names = hwcaps_names es in
    let k = position_or_len (bytes_eq c) names in
    let index = index_there c names [] there in
    let few = few_names es in
    let bit = with_bit k (omega (arith, index.0, few, l.few)) in
    let some : (count es == 0) ≡ false = grind (arith, nat_tests, index.0) in
    let number = number_at es in
    let offsets : read.name_offsets (cache_text es) ≡ map number (range_with_len 0 (count es)) = names_are es l some in
    let item : slice_index (map number (range_with_len 0 (count es))) k ≡ number k = get_or-map-range_with_len number 0 (count es) k k 0 (omega (arith, index.0)) (omega arith) in
    let spot : number k ≡ place es c = offset_back es l k [] index.0 ∙ ap (place es) index.1 in
    let among : list_any (bytes_eq c) (strings es) ≡ true = rw index.1 at (l.names k [] index.0) in
    rw (bit.0, bit.1, offsets, item, spot, text_back (cache_text es) (place es c) c plain (string_back es c among)) refl

-- ---- an entry

pub cap_known : (es : List Entry) (i : ℕ) (d : Entry) → i < length es → IfSome (get_or es i d).cap (λ c. list_any (bytes_eq c) (hwcaps_names es) ≡ true)
cap_known es i d h = by (get_or es i d).cap refl
  where
    by : (cap : Option (List ℕ)) → (get_or es i d).cap ≡ cap → IfSome cap (λ c. list_any (bytes_eq c) (hwcaps_names es) ≡ true)
    by None e = tt
    by (Some c) e = cap_among es i d c h e

entry_read : (es : List Entry) → IsLaidOut es → All IsPlain es → (i : ℕ) (d : Entry) → i < length es → read.entry_at (cache_text es) i ≡ as_read (hwcaps_names es) (get_or es i d)
unfolding read.entry_at
entry_read es l plain i d h =
    let e = get_or es i d in
    let text = cache_text es in
    let own = l.own i d h in
    let good = plain i d h in
    let flags = entry_back es l i d h 0 (omega arith) in
    let key : read.key text i ≡ place es e.soname = entry_back es l i d h 1 (omega arith) in
    let value : read.value text i ≡ place es e.path = entry_back es l i d h 2 (omega arith) in
    let hwcap : read.hwcap text i ≡ hwcap_of (hwcaps_names es) e.cap = entry_back es l i d h 4 (omega arith) in
    let name = text_back text (place es e.soname) e.soname good.soname (string_back es e.soname own.soname) in
    let path = text_back text (place es e.path) e.path good.path (string_back es e.path own.path) in
    let cap = cap_back es l e.cap good.cap (cap_known es i d h) in
    rw (flags, key, value, hwcap, signed_flags e.abi, name, path, cap) refl

by_items : {X Y : Type 0} (f : ℕ → Y) (g : X → Y) (xs : List X) (a : ℕ) → ((i : ℕ) (d : X) → i < length xs → f (a + i) ≡ g (get_or xs i d)) → map f (range_with_len a (length xs)) ≡ map g xs
by_items f g [] a h = refl
by_items f g (x ∷ xs) a h =
    let here : a + 0 ≡ a = omega arith in
    let first : f a ≡ g x = ap f (sym here) ∙ h 0 x (omega arith) in
    rw (first, by_items f g xs (a + 1) (λ i d less. let next : a + 1 + i ≡ a + suc i = omega arith in ap f next ∙ h (suc i) d (omega arith))) refl

pub all_read : (es : List Entry) → IsLaidOut es → All IsPlain es → read.read (cache_text es) ≡ map (as_read (hwcaps_names es)) es
all_read es l plain =
    ap (λ n. map (read.entry_at (cache_text es)) (range_with_len 0 n)) (nlibs_back es l)
    ∙ by_items (read.entry_at (cache_text es)) (as_read (hwcaps_names es)) es 0 (λ i d h. let e : 0 + i ≡ i = omega arith in rw e (entry_read es l plain i d h))

-- ---- what follows from the preconditions of writing

pub all_plain : (es : List Entry) → All (λ entry. is_name entry.soname ≡ true) es → All (λ entry. IfSome entry.cap (λ cap. is_name cap ≡ true)) es → All (λ entry. has_no_nul entry.path ≡ true) es → All IsPlain es
all_plain es sonames caps paths i d h = record {
  soname = name_plain (get_or es i d).soname (sonames i d h);
  path = paths i d h;
  cap = plain_cap (get_or es i d).cap (caps i d h);
}
  where
    plain_cap : (cap : Option (List ℕ)) → IfSome cap (λ cap. is_name cap ≡ true) → IfSome cap (λ cap. has_no_nul cap ≡ true)
    plain_cap None h = h
    plain_cap (Some cap) h = name_plain cap h
