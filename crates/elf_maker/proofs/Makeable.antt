-- The specs that a file can be generated from.
use Rattle.std.proofs.Common.{◌≡◌, ◌<◌, ℕ, ◌==◌, Bool, true, false, not, ◌&&◌, ◌||◌, nat_le, nat_lt, List, [], ◌∷◌, length, IfSome, Option, Some, None, refl, arith}
use Rattle.std.proofs.lemmas.Bool.Decides.{nat_tests}
use Rattle.std.proofs.lemmas.List.Sums.{AllPass-from_list_all}
use Rattle.std.specs.List.{list_any, list_all}
use Rattle.std.specs.Option.{option_map_or}
use Rattle.lib_types.specs.Name.{is_name, are_dots, have_no_slash}
use Rattle.std.specs.Str.{is_utf8}
use Rattle.lib_types.specs.declared.name.TheConstants.{NAME_MAX}
use Rattle.elf_dynamic.specs.Section.{is_nul}
use Rattle.elf_dynamic.specs.declared.text.TheConstants.{TEXT_LIMIT}
use Rattle.elf_maker.specs.declared.kinds.Spec.{Spec}
use Rattle.elf_maker.specs.Texts.{is_text}
use Rattle.elf_maker.specs.Made.{is_spec}
use Rattle.elf_maker.specs.Parts.{IsShort, AreShort}

pub and_is : (a b : Bool) → (a && b) ≡ true → (a ≡ true) × (b ≡ true)
and_is true true h = (refl, refl)
and_is true false h = absurd (cc)
and_is false b h = absurd (cc)

pub record Fits (spec : Spec) : Type 0 where
  pub etype : ((spec.etype == 2) || (spec.etype == 3)) ≡ true
  pub needed : list_all is_text spec.dynamic.needed ≡ true
  pub soname : option_map_or is_name spec.dynamic.soname true ≡ true
  pub rpath : option_map_or is_text spec.dynamic.rpath true ≡ true
  pub runpath : option_map_or is_text spec.dynamic.runpath true ≡ true

pub fits : (spec : Spec) → is_spec spec ≡ true → Fits spec
unfolding is_spec
fits spec h =
    let (h4, e) = and_is _ _ h in
    let (h3, d) = and_is _ _ h4 in
    let (h2, c) = and_is _ _ h3 in
    let (a, b) = and_is _ _ h2 in
    record { etype = a; needed = b; soname = c; rpath = d; runpath = e }

pub record HasText (text : List ℕ) : Type 0 where
  pub no_nul : list_any is_nul text ≡ false
  pub short : length text < TEXT_LIMIT

pub of_text : (text : List ℕ) → is_text text ≡ true → HasText text
of_text text h = let (a, b) = and_is (not (list_any is_nul text)) (nat_lt (length text) TEXT_LIMIT) h in record { no_nul = grind (arith, nat_tests); short = grind (arith, nat_tests) }

-- no byte of a name is a NUL
no_nul_in : (name : List ℕ) → list_all (λ b. not (b == 47) && not (b == 0)) name ≡ true → list_any is_nul name ≡ false
no_nul_in [] h = refl
no_nul_in (b ∷ name) h =
    let (here, rest) = and_is (not (b == 47) && not (b == 0)) (list_all (λ b. not (b == 47) && not (b == 0)) name) h in
    let ih = no_nul_in name rest in
    grind (arith, nat_tests)

second_and_fourth : (a b c d e : Bool) → (a && b && c && d && e) ≡ true → (b ≡ true) × (d ≡ true)
second_and_fourth true true true true true h = (refl, refl)
second_and_fourth false b c d e h = absurd (cc)
second_and_fourth true false c d e h = absurd (cc)
second_and_fourth true true false d e h = absurd (cc)
second_and_fourth true true true false e h = absurd (cc)
second_and_fourth true true true true false h = absurd (cc)

pub of_name : (name : List ℕ) → is_name name ≡ true → HasText name
of_name name h =
    let (size, bytes) = second_and_fourth (nat_le 1 (length name)) (nat_le (length name) NAME_MAX) (not (are_dots name)) (have_no_slash name) (is_utf8 name) h in
    record { no_nul = no_nul_in name bytes; short = grind (arith, nat_tests) }

if_some : (P : List ℕ → Type 0) (p : List ℕ → Bool) → ((text : List ℕ) → p text ≡ true → P text) → (o : Option (List ℕ)) → option_map_or p o true ≡ true → IfSome o P
if_some P p each None h = tt
if_some P p each (Some text) h = each text h

pub are_short : (spec : Spec) → is_spec spec ≡ true → AreShort spec.dynamic
are_short spec h =
    let f = fits spec h in
    record {
      needed = λ k d l. HasText.short (of_text _ (AllPass-from_list_all is_text spec.dynamic.needed f.needed k d l));
      soname = if_some IsShort is_name (λ name h. HasText.short (of_name name h)) spec.dynamic.soname f.soname;
      rpath = if_some IsShort is_text (λ text h. HasText.short (of_text text h)) spec.dynamic.rpath f.rpath;
      runpath = if_some IsShort is_text (λ text h. HasText.short (of_text text h)) spec.dynamic.runpath f.runpath;
    }
