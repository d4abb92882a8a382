-- The files of programs are opened one after another.
use Rattle.std.proofs.Common.{◌≡◌, ◌≤◌, ◌++◌, ◌∷◌, [], ℕ, zero, true, false, List, Option, Some, None, IfSome, Err, refl, sym, ap, subst, ◌∙◌, arith}
use Rattle.elf_dynamic.proofs.BegunKeys.{keys_early, keys_then}
use Rattle.elf_dynamic.specs.Begun.{LacksOne, ReadsBy, is_lacking, lacks_one, most_known_of, until_known}
use Rattle.elf_headers.specs.Reading.{ReadsFile}
use Rattle.elf_interpreter.specs.Faults.{interpreter_ending}
use Rattle.elf_interpreter.specs.declared.fault.InterpreterFault.{InterpreterFault}
use Rattle.elf_interpreter.specs.declared.fault.InterpreterFault.TheVariants.{StoreFault, NoMemory}
use Rattle.lib_types.proofs.SortedPairs.{by_test}
use Rattle.lib_types.specs.Counts.{raised}
use Rattle.needed_files.specs.Interpreters.{ReadsPrograms}
use Rattle.tree_face.proofs.StoreUse.{IsPartial, reads_all, reads_as, reads_none}
use Rattle.tree_face.specs.Known.{IfKnown}
use Rattle.tree_face.specs.Store.{Contents, Lacks, StoreState}
use Rattle.tree_face.specs.StoreUse.{Complete, Ending, GaveUp}

-- ---- the same reads, where the bytes aren't counted

abbrev uncounted : StoreState → StoreState
uncounted s = record s { taken = zero }

module _ (known : Option Contents) (keys : List (List ℕ)) (e : Ending) (a b : StoreState) where
  few : (most : Option ℕ) → IfSome most (λ n. 0 ≤ raised 0 n)
  few None = tt
  few (Some n) = omega arith

  to_uncounted : ReadsPrograms known keys e a b → ReadsBy known keys e (uncounted a) (uncounted b)
  to_uncounted reads = record {
    held = reads.held;
    begins = reads.begins;
    begun = reads.begun;
    begun_before = reads.begun_before;
    taken = few (most_known_of known (until_known known keys));
    taken_before = omega arith;
    faults = reads.faults;
    cause = reads.cause;
  }

  of_uncounted : ReadsBy known keys e (uncounted a) (uncounted b) → a.taken ≤ b.taken → ReadsPrograms known keys e a b
  of_uncounted reads more = record {
    held = reads.held;
    begins = reads.begins;
    begun = reads.begun;
    begun_before = reads.begun_before;
    taken = tt;
    taken_before = more;
    faults = reads.faults;
    cause = reads.cause;
  }

-- ---- several files

module _ (known : Option Contents) (ks more : List (List ℕ)) (e : Ending) (a b c : StoreState) where
  pub programs_then : IfKnown known (λ held. lacks_one held ks ≡ false) → ReadsPrograms known ks Complete a b → ReadsPrograms known more e b c → ReadsPrograms known (ks ++ more) e a c
  programs_then none first next =
      of_uncounted known (ks ++ more) e a c
      (keys_then known ks more e (uncounted a) (uncounted b) (uncounted c) none (to_uncounted known ks Complete a b first) (to_uncounted known more e b c next))
      (let before = first.taken_before in let after = next.taken_before in omega (arith, before, after))

pub programs_early : (known : Option Contents) (ks more : List (List ℕ)) (e : Ending) (a b : StoreState) → IsPartial e → ReadsPrograms known ks e a b → ReadsPrograms known (ks ++ more) e a b
programs_early known ks more e a b partial first =
    of_uncounted known (ks ++ more) e a b (keys_early known ks more e (uncounted a) (uncounted b) partial (to_uncounted known ks e a b first)) first.taken_before

-- ---- one file

module _ (key : List ℕ) (e : Ending) (a b : StoreState) where
  until_one : (known : Option Contents) → until_known known (key ∷ []) ≡ key ∷ []
  until_one None = refl
  until_one (Some held) = by_test (is_lacking held key) (λ h. rw h refl) (λ h. rw h refl)

  lacks_it : (known : Option Contents) → Lacks known key → LacksOne known (key ∷ [])
  lacks_it None lacks = lacks
  lacks_it (Some held) lacks = rw lacks refl

  pub one_program : ReadsFile key None e a b → ReadsPrograms a.held (key ∷ []) e a b
  one_program reads = rw (until_one a.held) (reads_as _ _ _ _ (Lacks a.held key) (LacksOne a.held (key ∷ [])) e (lacks_it a.held) reads)

-- ---- no file

pub none_opened : (known : Option Contents) (keys : List (List ℕ)) (s : StoreState) → ReadsPrograms known keys GaveUp s s
none_opened known keys s = programs_early known [] keys GaveUp s s tt (by known)
  where
    by : (known : Option Contents) → ReadsPrograms known [] GaveUp s s
    by None = reads_all _ _ s s _ (reads_none _ _ s)
    by (Some held) = reads_all _ _ s s _ (reads_none _ _ s)

pub no_key : (known : Option Contents) (keys : List (List ℕ)) (s : StoreState) → keys ≡ [] → ReadsPrograms known keys Complete s s
no_key known keys s none = subst (λ (ks : List (List ℕ)). ReadsPrograms known ks Complete s s) (sym none) (by known)
  where
    by : (known : Option Contents) → ReadsPrograms known [] Complete s s
    by None = reads_none _ _ s
    by (Some held) = reads_none _ _ s

-- a fault ends the call
pub partial : (fault : InterpreterFault) → IsPartial (interpreter_ending {A = Unit {0}} (Err fault))
partial StoreFault = tt
partial NoMemory = tt
