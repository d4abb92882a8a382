-- Stamps that were loaded, stamps that were made before, and the stamp of a file.
use Rattle.std.proofs.Common.{◌≡◌, ◌++◌, ◌||◌, Bool, true, false, cond, List, [], ◌∷◌, Option, Some, None, refl, ap, sym, subst, ◌∙◌}
use Rattle.std.proofs.lemmas.List.{append-nil}
use Rattle.std.specs.List.{cons_option}
use Rattle.std.specs.Option.{is_some, option_map}
use Rattle.std.specs.Prelude.{IfSome}
use Rattle.aux_cache.proofs.Found.{first_of, found_holds, is_same, same_is, some_of_both, stamp_of_both, stamp_of_put}
use Rattle.aux_cache.specs.Stamps.{AreRecordable, IsRecordable, put, stamp_of}
use Rattle.aux_cache.specs.declared.stamps.Stamp.{Stamp}
use Rattle.elf_dynamic.specs.Analysis.{HasName, IsDefectInRange}
use Rattle.file_table.specs.Analyses.{has_name}
use Rattle.image_tree.specs.declared.node.Id.{Id}
use Rattle.lib_types.proofs.SortedPairs.{by_test}
use Rattle.lib_types.specs.declared.analysis.Analysis.{Analysis}
use Rattle.lib_types.specs.declared.analysis.Analysis.TheVariants.{Lib, Not}
use Rattle.file_stamps.specs.Opened.{has_id, ids_of}
use Rattle.file_stamps.specs.Reading.{is_stamped}
use Rattle.file_stamps.specs.Stamped.{StampTheSame, of_stamp, stamp_by}

-- ---- lookup of a stamp

pub found_first : (xs ys : List Stamp) (id : Id) (s : Stamp) → Some s ≡ stamp_of xs id → Some s ≡ stamp_of (xs ++ ys) id
found_first xs ys id s e = sym (stamp_of_both xs ys id ∙ ap (λ o. first_of o (stamp_of ys id)) (sym e))

pub found_second : (xs ys : List Stamp) (id : Id) → None ≡ stamp_of xs id → stamp_of ys id ≡ stamp_of (xs ++ ys) id
found_second xs ys id e = sym (stamp_of_both xs ys id ∙ ap (λ o. first_of o (stamp_of ys id)) (sym e))

pub recordable_found : (xs : List Stamp) (id : Id) (s : Stamp) → AreRecordable xs → Some s ≡ stamp_of xs id → IsRecordable s.analysis
recordable_found xs id s are e =
    subst (λ o. IfSome o (λ s. IsRecordable s.analysis)) (sym e) (found_holds (λ s. IsRecordable s.analysis) xs id are)

-- ---- analyses that can be recorded

-- what a reading returns can be recorded
pub recordable_read : (a : Analysis) → HasName a → IsDefectInRange a → IsRecordable a
recordable_read (Lib abi soname) name range = name
recordable_read (Not defect) name range = range

pub recordable_named : (a : Analysis) → IsRecordable a → has_name a ≡ true
recordable_named (Lib abi (Some soname)) name = name
recordable_named (Lib abi None) name = refl
recordable_named (Not defect) range = refl

-- ---- the stamp of a file

abbrev given : Stamp → Option Stamp → Stamp
given s None = s
given s (Some x) = x

-- the stamp of a file has the file's identity and its analysis
pub stamp_by_id : (id : Option Id) (what : Analysis) (s : Stamp) → stamp_by id (Some what) ≡ Some s → id ≡ Some s.id
stamp_by_id None what s e = absurd (cc)
stamp_by_id (Some id) what s e = ap (λ o. option_map (λ (x : Stamp). x.id) o) e

pub stamp_by_says : (id : Option Id) (what : Analysis) (s : Stamp) → stamp_by id (Some what) ≡ Some s → what ≡ of_stamp s
stamp_by_says None what s e = absurd (cc)
stamp_by_says (Some id) what s e = ap (λ o. of_stamp (given s o)) e

-- ---- the identities that have stamps

pub stamped_both : (xs ys : List Stamp) (id : Id) → is_stamped (xs ++ ys) id ≡ (is_stamped xs id || is_stamped ys id)
stamped_both xs ys id = some_of_both xs ys id

pub stamped_put : (xs : List Stamp) (s : Stamp) (id : Id) → is_stamped (put xs s) id ≡ (is_same id s.id || is_stamped xs id)
stamped_put xs s id = ap is_some (stamp_of_put xs s id) ∙ by (is_same id s.id) (stamp_of xs id)
  where
    by : (b : Bool) (o : Option Stamp) → is_some (cond b (Some s) o) ≡ (b || is_some o)
    by true o = refl
    by false o = refl

-- an identity has a stamp exactly if it is the identity of one of the stamps
pub ids_stamped : (xs : List Stamp) (id : Id) → has_id (ids_of xs) id ≡ is_stamped xs id
ids_stamped [] id = refl
ids_stamped (x ∷ xs) id = by (is_same id x.id) (ids_stamped xs id)
  where
    by : (b : Bool) → has_id (ids_of xs) id ≡ is_stamped xs id → (b || has_id (ids_of xs) id) ≡ is_some (cond b (Some x) (stamp_of xs id))
    by true e = refl
    by false e = e

-- the lookup of an identity finds a stamp with this identity
pub found_id : (xs : List Stamp) (id : Id) (s : Stamp) → stamp_of xs id ≡ Some s → id ≡ s.id
found_id [] id s e = absurd (cc)
found_id (x ∷ xs) id s e = by_test (is_same id x.id)
    (λ here.
    let first : Some x ≡ Some s = sym (ap (λ b. cond b (Some x) (stamp_of xs id)) here) ∙ e in
    same_is id x.id here ∙ ap (λ o. (given s o).id) first)
    (λ other. found_id xs id s (sym (ap (λ b. cond b (Some x) (stamp_of xs id)) other) ∙ e))

-- inserting a stamp of a new identity into the made stamps has the same lookups as appending it to all stamps
pub stamped_more : (loaded made : List Stamp) (s : Stamp) → stamp_of (loaded ++ made) s.id ≡ None → StampTheSame (loaded ++ put made s) ((loaded ++ made) ++ s ∷ [])
stamped_more loaded made s new id =
    stamp_of_both loaded (put made s) id
    ∙ ap (λ o. first_of (stamp_of loaded id) o) (stamp_of_put made s id)
    ∙ by (stamp_of loaded id) (stamp_of made id) (is_same id s.id) (λ same. sym (stamp_of_both loaded made id) ∙ ap (λ i. stamp_of (loaded ++ made) i) (same_is id s.id same) ∙ new)
    ∙ ap (λ o. first_of o (stamp_of (s ∷ []) id)) (sym (stamp_of_both loaded made id))
    ∙ sym (stamp_of_both (loaded ++ made) (s ∷ []) id)
  where
    by : (a b : Option Stamp) (c : Bool) → (c ≡ true → first_of a b ≡ None) → first_of a (cond c (Some s) b) ≡ first_of (first_of a b) (cond c (Some s) None)
    by (Some u) b c none = refl
    by None None true none = refl
    by None None false none = refl
    by None (Some u) true none = let z : Some u ≡ None = none refl in absurd (cc)
    by None (Some u) false none = refl

-- inserting an equal stamp of an identity that has one changes no lookup
pub stamped_again : (loaded made : List Stamp) (s : Stamp) → stamp_of (loaded ++ made) s.id ≡ Some s → StampTheSame (loaded ++ put made s) (loaded ++ made)
stamped_again loaded made s there id =
    stamp_of_both loaded (put made s) id
    ∙ ap (λ o. first_of (stamp_of loaded id) o) (stamp_of_put made s id)
    ∙ by (stamp_of loaded id) (stamp_of made id) (is_same id s.id) (λ same. sym (stamp_of_both loaded made id) ∙ ap (λ i. stamp_of (loaded ++ made) i) (same_is id s.id same) ∙ there)
    ∙ sym (stamp_of_both loaded made id)
  where
    by : (a b : Option Stamp) (c : Bool) → (c ≡ true → first_of a b ≡ Some s) → first_of a (cond c (Some s) b) ≡ first_of a b
    by (Some u) b c is = refl
    by None b true is = sym (is refl)
    by None b false is = refl

-- a stamp of an identity that has one changes no lookup if it is appended
pub stamped_late : (stamps : List Stamp) (i : Id) (o : Option Stamp) → is_stamped stamps i ≡ true → IfSome o (λ s. s.id ≡ i) → StampTheSame (stamps ++ cons_option o []) stamps
stamped_late stamps i None there of_it id = ap (λ l. stamp_of l id) (append-nil stamps)
stamped_late stamps i (Some s) there of_it id =
    stamp_of_both stamps (s ∷ []) id ∙ by (stamp_of stamps id) (is_same id s.id) (λ same. ap (λ k. is_stamped stamps k) (same_is id s.id same ∙ of_it) ∙ there)
  where
    by : (a : Option Stamp) (c : Bool) → (c ≡ true → is_some a ≡ true) → first_of a (cond c (Some s) None) ≡ a
    by (Some u) c is = refl
    by None true is = let z : false ≡ true = is refl in absurd (cc)
    by None false is = refl
