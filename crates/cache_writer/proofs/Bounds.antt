-- The number of hwcaps names, and their lengths.
use Rattle.std.proofs.Common.{◌≡◌, ℕ, ◌+◌, ◌≤◌, Bool, true, false, ◌&&◌, nat_le, not, List, [], ◌∷◌, length, fold, Option, Some, None, IfSome, refl, Ordering, arith}
use Rattle.std.proofs.lemmas.Bool.Decides.{nat_tests}
use Rattle.std.proofs.lemmas.List.Elements.{All-head, All-nil, All-tail, All-weaker}
use Rattle.std.proofs.lemmas.Map.Views.{All-insert_key}
use Rattle.std.specs.BTreeSet.{insert_key}
use Rattle.std.specs.Cmp.Lexicographic.{slice_cmp}
use Rattle.std.specs.List.{All}
use Rattle.std.specs.Ordering.{nat_cmp, match_ordering}
use Rattle.std.specs.Option.{option_map_or}
use Rattle.std.specs.Str.{is_utf8}
use Rattle.std.specs.declared.cmp.Ordering.TheVariants.{Less, Equal, Greater}
use Rattle.lib_types.specs.declared.entry.Entry.{Entry}
use Rattle.lib_types.specs.declared.name.TheConstants.{NAME_MAX}
use Rattle.lib_types.specs.Name.{is_name, are_dots, have_no_slash}
use Rattle.cache_writer.specs.CacheText.{hwcaps_names, with_name}

-- ---- the number

one_more : (r : Ordering) (k x : List ℕ) (xs more : List (List ℕ)) → length more ≤ length xs + 1 → length (match_ordering r (k ∷ x ∷ xs) (x ∷ xs) (x ∷ more)) ≤ length xs + 2
one_more Less k x xs more h = omega arith
one_more Equal k x xs more h = omega arith
one_more Greater k x xs more h = omega (arith, h)

length_put : (xs : List (List ℕ)) (k : List ℕ) → length (insert_key (slice_cmp nat_cmp) xs k) ≤ length xs + 1
length_put [] k = omega arith
length_put (x ∷ xs) k =
    let rest = one_more (slice_cmp nat_cmp k x) k x xs (insert_key (slice_cmp nat_cmp) xs k) (length_put xs k) in
    omega (arith, rest)

length_with : (ns : List (List ℕ)) (e : Entry) → length (with_name ns e) ≤ length ns + 1
length_with ns e = by e.cap
  where
    by : (cap : Option (List ℕ)) → length (option_map_or (insert_key (slice_cmp nat_cmp) ns) cap ns) ≤ length ns + 1
    by None = omega arith
    by (Some cap) = length_put ns cap

few_with : (ns : List (List ℕ)) (es : List Entry) → length (fold with_name ns es) ≤ length ns + length es
few_with ns [] = omega arith
few_with ns (e ∷ es) = omega (arith, few_with (with_name ns e) es, length_with ns e)

pub few_names : (es : List Entry) → length (hwcaps_names es) ≤ length es
unfolding hwcaps_names
few_names es = omega (arith, few_with [] es)

-- ---- the lengths

pub both_hold : (a b : Bool) → (a && b) ≡ true → (a ≡ true) × (b ≡ true)
both_hold true b h = (refl, h)
both_hold false b h = absurd (cc)

pub short : (name : List ℕ) → is_name name ≡ true → length name ≤ NAME_MAX
short name h =
    let utf8 = both_hold (nat_le 1 (length name) && nat_le (length name) NAME_MAX && not (are_dots name) && have_no_slash name) (is_utf8 name) h in
    let slash = both_hold (nat_le 1 (length name) && nat_le (length name) NAME_MAX && not (are_dots name)) (have_no_slash name) utf8.0 in
    let dots = both_hold (nat_le 1 (length name) && nat_le (length name) NAME_MAX) (not (are_dots name)) slash.0 in
    let sizes = both_hold (nat_le 1 (length name)) (nat_le (length name) NAME_MAX) dots.0 in
    let most = sizes.1 in
    grind (arith, nat_tests, most)

-- each hwcaps name is a name
named_with : (ns : List (List ℕ)) (e : Entry) → All (λ n. is_name n ≡ true) ns → IfSome e.cap (λ cap. is_name cap ≡ true) → All (λ n. is_name n ≡ true) (with_name ns e)
named_with ns e all good = by e.cap good
  where
    by : (cap : Option (List ℕ)) → IfSome cap (λ cap. is_name cap ≡ true) → All (λ n. is_name n ≡ true) (option_map_or (insert_key (slice_cmp nat_cmp) ns) cap ns)
    by None h = all
    by (Some cap) h = All-insert_key (slice_cmp nat_cmp) cap (λ n. is_name n ≡ true) ns all h

all_with : (ns : List (List ℕ)) (es : List Entry) → All (λ n. is_name n ≡ true) ns → All (λ entry. IfSome entry.cap (λ cap. is_name cap ≡ true)) es → All (λ n. is_name n ≡ true) (fold with_name ns es)
all_with ns [] names caps = names
all_with ns (e ∷ es) names caps =
    let P : Entry → Type 0 = λ entry. IfSome entry.cap (λ cap. is_name cap ≡ true) in
    all_with (with_name ns e) es (named_with ns e names (All-head P e es caps)) (All-tail P e es caps)

pub are_names : (es : List Entry) → All (λ entry. IfSome entry.cap (λ cap. is_name cap ≡ true)) es → All (λ n. is_name n ≡ true) (hwcaps_names es)
unfolding hwcaps_names
are_names es caps = all_with [] es (All-nil (λ n. is_name n ≡ true)) caps

pub short_names : (es : List Entry) → All (λ entry. IfSome entry.cap (λ cap. is_name cap ≡ true)) es → All (λ n. length n ≤ NAME_MAX) (hwcaps_names es)
short_names es caps = All-weaker (λ n. is_name n ≡ true) (λ n. length n ≤ NAME_MAX) short (hwcaps_names es) (are_names es caps)

pub short_sonames : (es : List Entry) → All (λ entry. is_name entry.soname ≡ true) es → All (λ entry. length entry.soname ≤ NAME_MAX) es
short_sonames es names = All-weaker (λ (entry : Entry). is_name entry.soname ≡ true) (λ entry. length entry.soname ≤ NAME_MAX) (λ entry h. short entry.soname h) es names
