-- Reading a generated dynamic section back gives the section that it was generated from.
use Rattle.std.proofs.Common.{◌≡◌, ◌<◌, ◌^◌, ℕ, Bool, true, false, not, ◌==◌, List, [], ◌∷◌, ◌++◌, length, filter, Option, Some, None, option_and_then, refl, ap, sym, ◌∙◌, arith, append_assoc}
use Rattle.std.specs.List.{list_any, list_all, take_while}
use Rattle.std.specs.Option.{option_map_or}
use Rattle.lib_types.specs.Name.{is_name}
use Rattle.elf_dynamic.specs.declared.kinds.DynamicEntry.{DynamicEntry}
use Rattle.elf_dynamic.specs.declared.kinds.Dynamic.{Dynamic}
use Rattle.elf_dynamic.specs.Section.{needed, soname, rpath, runpath, strtab, strsz, flags_1, has_tag, has_text, value_of, counting_entries}
use Rattle.elf_dynamic.specs.Object.{lacks_table, has_table_outside, bad_entry, text_of, unless_empty, soname_of, needed_of, has_nodeflib, nodeflib_of, dynamic_of}
use Rattle.elf_maker.specs.declared.kinds.Spec.{Spec}
use Rattle.elf_maker.specs.Texts.{Tagged, is_text, tagged_if, tagged, strings, text_entries}
use Rattle.elf_maker.specs.Made.{is_spec, flag_entries, entries}
use Rattle.elf_maker.specs.Parts.{needed_texts}
use Rattle.elf_maker.proofs.Makeable.{Fits, fits, of_text, of_name, and_is}
use Rattle.elf_maker.proofs.Reading.{AreSmall}
use Rattle.elf_maker.proofs.Named.{Reads, AreTexts, reads, AreLabelled, found, needed_texts_of, value_after, text_found, needed_found, none_bad, live_texts, small_texts}
use Rattle.elf_maker.proofs.Steps.{strings_size}
use Rattle.lib_types.proofs.Bools.{and_false}

-- ---- the texts

-- the texts of the tags other than DT_NEEDED
abbrev others_of : Option (List ℕ) → Option (List ℕ) → Option (List ℕ) → List Tagged
others_of s r u = tagged_if soname s ++ tagged_if rpath r ++ tagged_if runpath u

tagged_is : (d : Dynamic) → tagged d ≡ needed_texts d.needed ++ others_of d.soname d.rpath d.runpath
unfolding tagged
tagged_is d =
    append_assoc (needed_texts d.needed ++ tagged_if soname d.soname) (tagged_if rpath d.rpath) (tagged_if runpath d.runpath)
    ∙ append_assoc (needed_texts d.needed) (tagged_if soname d.soname) (tagged_if rpath d.rpath ++ tagged_if runpath d.runpath)
    ∙ ap (λ r. needed_texts d.needed ++ r) (sym (append_assoc (tagged_if soname d.soname) (tagged_if rpath d.rpath) (tagged_if runpath d.runpath)))

record Finds (texts : List Tagged) (s r u : Option (List ℕ)) (n : List (List ℕ)) : Type 0 where
  pub soname_is : found 14 texts ≡ s
  pub rpath_is : found 15 texts ≡ r
  pub runpath_is : found 29 texts ≡ u
  pub needed_is : needed_texts_of texts ≡ n
  pub labels : AreLabelled texts

finds_others : (s r u : Option (List ℕ)) → Finds (others_of s r u) s r u []
unfolding found needed_texts_of
finds_others (Some s) (Some r) (Some u) = record { soname_is = refl; rpath_is = refl; runpath_is = refl; needed_is = refl; labels = (refl, (refl, (refl, tt))) }
finds_others (Some s) (Some r) None = record { soname_is = refl; rpath_is = refl; runpath_is = refl; needed_is = refl; labels = (refl, (refl, tt)) }
finds_others (Some s) None (Some u) = record { soname_is = refl; rpath_is = refl; runpath_is = refl; needed_is = refl; labels = (refl, (refl, tt)) }
finds_others (Some s) None None = record { soname_is = refl; rpath_is = refl; runpath_is = refl; needed_is = refl; labels = (refl, tt) }
finds_others None (Some r) (Some u) = record { soname_is = refl; rpath_is = refl; runpath_is = refl; needed_is = refl; labels = (refl, (refl, tt)) }
finds_others None (Some r) None = record { soname_is = refl; rpath_is = refl; runpath_is = refl; needed_is = refl; labels = (refl, tt) }
finds_others None None (Some u) = record { soname_is = refl; rpath_is = refl; runpath_is = refl; needed_is = refl; labels = (refl, tt) }
finds_others None None None = record { soname_is = refl; rpath_is = refl; runpath_is = refl; needed_is = refl; labels = tt }

finds_all : (n : List (List ℕ)) (s r u : Option (List ℕ)) → Finds (needed_texts n ++ others_of s r u) s r u n
unfolding found needed_texts_of
finds_all [] s r u = finds_others s r u
finds_all (text ∷ n) s r u =
    let ih = finds_all n s r u in
    record { soname_is = ih.soname_is; rpath_is = ih.rpath_is; runpath_is = ih.runpath_is; needed_is = ap (λ xs. text ∷ xs) ih.needed_is; labels = (refl, ih.labels) }

finds : (d : Dynamic) → Finds (tagged d) d.soname d.rpath d.runpath d.needed
finds d = rw (tagged_is d) (finds_all d.needed d.soname d.rpath d.runpath)

-- ---- the texts have no NUL

texts_append : (xs ys : List Tagged) → AreTexts xs → AreTexts ys → AreTexts (xs ++ ys)
texts_append [] ys hx hy = hy
texts_append (x ∷ xs) ys hx hy = (hx.0, texts_append xs ys hx.1 hy)

needed_are : (n : List (List ℕ)) → list_all is_text n ≡ true → AreTexts (needed_texts n)
needed_are [] h = tt
needed_are (text ∷ n) h = let (a, b) = and_is (is_text text) (list_all is_text n) h in (of_text text a, needed_are n b)

text_is : (tag : ℕ) (o : Option (List ℕ)) → option_map_or is_text o true ≡ true → AreTexts (tagged_if tag o)
text_is tag None h = tt
text_is tag (Some text) h = (of_text text h, tt)

name_is : (tag : ℕ) (o : Option (List ℕ)) → option_map_or is_name o true ≡ true → AreTexts (tagged_if tag o)
name_is tag None h = tt
name_is tag (Some name) h = (of_name name h, tt)

are_texts : (spec : Spec) → is_spec spec ≡ true → AreTexts (tagged spec.dynamic)
unfolding tagged
are_texts spec h =
    let f = fits spec h in
    let d = spec.dynamic in
    texts_append (needed_texts d.needed ++ tagged_if soname d.soname ++ tagged_if rpath d.rpath) (tagged_if runpath d.runpath)
    (texts_append (needed_texts d.needed ++ tagged_if soname d.soname) (tagged_if rpath d.rpath)
    (texts_append (needed_texts d.needed) (tagged_if soname d.soname) (needed_are d.needed f.needed) (name_is soname d.soname f.soname))
    (text_is rpath d.rpath f.rpath))
    (text_is runpath d.runpath f.runpath)

table_reads : (spec : Spec) → is_spec spec ≡ true → Reads (strings spec.dynamic) 1 (tagged spec.dynamic)
unfolding strings
table_reads spec h = reads (tagged spec.dynamic) (0 ∷ []) (strings spec.dynamic) 1 (are_texts spec h) refl refl

-- ---- the entries after those of the texts

abbrev last_of : ℕ → ℕ → Bool → List DynamicEntry → List DynamicEntry
last_of address size nodeflib more = flag_entries nodeflib ++ record { tag = 5; value = address } ∷ record { tag = 10; value = size } ∷ more

null : DynamicEntry
null = record { tag = 0; value = 0 }

record Ends (address size : ℕ) (nodeflib : Bool) (others : List DynamicEntry) : Type 0 where
  pub soname_none : value_of soname others ≡ None
  pub rpath_none : value_of rpath others ≡ None
  pub runpath_none : value_of runpath others ≡ None
  pub needed_none : filter (has_tag needed) others ≡ []
  pub text_none : list_any has_text others ≡ false
  pub strtab_is : value_of strtab others ≡ Some address
  pub strsz_is : value_of strsz others ≡ Some size
  pub nodeflib_is : nodeflib_of others ≡ nodeflib

ends : (address size : ℕ) (nodeflib : Bool) → Ends address size nodeflib (last_of address size nodeflib [])
ends address size true =
    record { soname_none = refl; rpath_none = refl; runpath_none = refl; needed_none = refl; text_none = refl; strtab_is = refl; strsz_is = refl; nodeflib_is = refl }
ends address size false =
    record { soname_none = refl; rpath_none = refl; runpath_none = refl; needed_none = refl; text_none = refl; strtab_is = refl; strsz_is = refl; nodeflib_is = refl }

live_last : (address size : ℕ) (nodeflib : Bool) → take_while (λ e. not (e.tag == 0)) (last_of address size nodeflib (null ∷ [])) ≡ last_of address size nodeflib []
unfolding null
live_last address size true = refl
live_last address size false = refl

small_last : (address size : ℕ) (nodeflib : Bool) → address < 2 ^ 32 → size < 2 ^ 32 → AreSmall (last_of address size nodeflib (null ∷ []))
unfolding null
small_last address size true a s = (omega arith, omega arith, (omega arith, a, (omega arith, s, (omega arith, omega arith, tt))))
small_last address size false a s = (omega arith, a, (omega arith, s, (omega arith, omega arith, tt)))

-- ---- the whole section

all_is : (address : ℕ) (d : Dynamic) → entries address d ≡ text_entries 1 (tagged d) ++ last_of address (length (strings d)) d.nodeflib (null ∷ [])
unfolding entries null
all_is address d =
    append_assoc (text_entries 1 (tagged d)) (flag_entries d.nodeflib) (record { tag = 5; value = address } ∷ record { tag = 10; value = length (strings d) } ∷ record { tag = 0; value = 0 } ∷ [])

-- the entries before the DT_NULL
abbrev pub live_of : ℕ → Dynamic → List DynamicEntry
live_of address d = text_entries 1 (tagged d) ++ last_of address (length (strings d)) d.nodeflib []

pub live_is : (address : ℕ) (d : Dynamic) → take_while (λ e. not (e.tag == 0)) (entries address d) ≡ live_of address d
live_is address d =
    ap (take_while (λ e. not (e.tag == 0))) (all_is address d)
    ∙ live_texts 1 (tagged d) (last_of address (length (strings d)) d.nodeflib (null ∷ [])) (Finds.labels (finds d))
    ∙ ap (λ r. text_entries 1 (tagged d) ++ r) (live_last address (length (strings d)) d.nodeflib)

pub small_is : (address : ℕ) (d : Dynamic) → address < 2 ^ 32 → length (strings d) < 2 ^ 32 → AreSmall (entries address d)
small_is address d a s =
    rw (all_is address d) (small_texts 1 (tagged d) (last_of address (length (strings d)) d.nodeflib (null ∷ [])) (Finds.labels (finds d)) (omega (arith, strings_size d)) (small_last address (length (strings d)) d.nodeflib a s))

-- an empty soname isn't a name
kept : (o : Option (List ℕ)) → option_map_or is_name o true ≡ true → option_and_then unless_empty o ≡ o
kept None h = refl
kept (Some []) h = absurd (cc)
kept (Some (b ∷ name)) h = refl

pub record Says (address : ℕ) (d : Dynamic) : Type 0 where
  pub strtab_there : value_of strtab (live_of address d) ≡ Some address
  pub strsz_there : value_of strsz (live_of address d) ≡ Some (length (strings d))
  pub no_lack : lacks_table (live_of address d) ≡ false
  pub not_outside : has_table_outside (Some (strings d)) (live_of address d) ≡ false
  pub none_bad_there : bad_entry (Some (strings d)) (live_of address d) ≡ None
  pub good_soname : option_map_or is_name (soname_of (Some (strings d)) (live_of address d)) true ≡ true
  pub all_there : dynamic_of (Some (strings d)) (live_of address d) ≡ d

pub says : (address : ℕ) (spec : Spec) → is_spec spec ≡ true → Says address spec.dynamic
unfolding counting_entries
says address spec h =
    let d = spec.dynamic in
    let table = strings d in
    let size = length table in
    let texts = tagged d in
    let others = last_of address size d.nodeflib [] in
    let f = finds d in
    let r = table_reads spec h in
    let e = ends address size d.nodeflib in
    let strtab_is : value_of strtab (live_of address d) ≡ Some address = value_after strtab 1 texts others refl f.labels ∙ e.strtab_is in
    let strsz_is : value_of strsz (live_of address d) ≡ Some size = value_after strsz 1 texts others refl f.labels ∙ e.strsz_is in
    let flags_is : value_of flags_1 (live_of address d) ≡ value_of flags_1 others = value_after flags_1 1 texts others refl f.labels in
    let soname_text : text_of soname (Some table) (live_of address d) ≡ d.soname = text_found soname 1 texts table others e.soname_none r ∙ f.soname_is in
    let rpath_text : text_of rpath (Some table) (live_of address d) ≡ d.rpath = text_found rpath 1 texts table others e.rpath_none r ∙ f.rpath_is in
    let runpath_text : text_of runpath (Some table) (live_of address d) ≡ d.runpath = text_found runpath 1 texts table others e.runpath_none r ∙ f.runpath_is in
    let needed_there : needed_of (Some table) (live_of address d) ≡ d.needed = needed_found 1 texts table others e.needed_none r ∙ f.needed_is in
    let name = Fits.soname (fits spec h) in
    let soname_is : soname_of (Some table) (live_of address d) ≡ d.soname = ap (option_and_then unless_empty) soname_text ∙ kept d.soname name in
    let nodeflib_is : nodeflib_of (live_of address d) ≡ d.nodeflib = ap (λ v. option_map_or has_nodeflib v false) flags_is ∙ e.nodeflib_is in
    record {
      strtab_there = strtab_is;
      strsz_there = strsz_is;
      no_lack = rw (strtab_is, strsz_is) (and_false (list_any has_text (live_of address d)));
      not_outside = and_false (list_any has_text (live_of address d));
      none_bad_there = none_bad 1 texts table [] others e.text_none r;
      good_soname = ap (λ o. option_map_or is_name o true) soname_is ∙ name;
      all_there = rw (soname_is, needed_there, rpath_text, runpath_text, nodeflib_is) refl;
    }
