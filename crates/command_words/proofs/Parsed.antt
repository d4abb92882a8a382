-- What `clap` promises of a parse, for the arguments of a command.
use Rattle.std.proofs.Common.{◌≡◌, ℕ, true, List, [], Option, None, Err, inl, inr, subst}
use Rattle.clap.specs.Words.{App, HasKind, HasMatchesOf, fault_of, found_of, is_simple_and_free, kind_of, matches_of, rows_of, takes}
use Rattle.clap.specs.declared.error.Error.{Error}
use Rattle.clap.specs.declared.error.kind.ErrorKind.{ErrorKind}
use Rattle.clap.specs.declared.error.kind.ErrorKind.TheVariants.{OutOfMemory}
use Rattle.clap.specs.declared.parser.matches.ArgMatches.{ArgMatches}
use Rattle.command_words.proofs.Apps.{is_free_app, is_simple_app}
use Rattle.command_words.specs.Language.{app}
use Rattle.command_words.specs.Words.{FitsKind, Gives, Rejects}
use Rattle.command_words.specs.declared.fault.WordsFault.{WordsFault}
use Rattle.command_words.specs.declared.fault.WordsFault.TheVariants as faults
use Rattle.command_words.specs.declared.verb.Verb.{Verb}

module _ (verb : Verb) (a : App) (words : List (List ℕ)) (is : a ≡ app verb) where
  pub found : (m : ArgMatches) → HasMatchesOf a words m → rows_of (found_of m) ≡ matches_of (app verb) words
  found m has = (subst (λ (p : App). HasMatchesOf p words m) is has (is_simple_app verb)).0

  pub accepted : (is_simple_and_free a ≡ true → fault_of a words ≡ []) → fault_of (app verb) words ≡ []
  accepted none = subst (λ (p : App). is_simple_and_free p ≡ true → fault_of p words ≡ []) is none (is_free_app verb)

  kinds : (e : Error) → (is_simple_and_free a ≡ true → HasKind (fault_of a words) e) → HasKind (fault_of (app verb) words) e
  kinds e has = subst (λ (p : App). is_simple_and_free p ≡ true → HasKind (fault_of p words) e) is has (is_free_app verb)

  memory_alone : (e : Error) → HasKind [] e → kind_of e ≡ OutOfMemory
  memory_alone e (inl memory) = memory
  memory_alone e (inr among) = absurd among

  -- if the arguments have no error, parsing can only run out of memory
  pub refused : (e : Error) → (is_simple_and_free a ≡ true → HasKind (fault_of a words) e) → fault_of (app verb) words ≡ [] → kind_of e ≡ OutOfMemory
  refused e has none = memory_alone e (subst (λ ks. HasKind ks e) none (kinds e has))

  pub only : (e : Error) → (takes a words ≡ true → kind_of e ≡ OutOfMemory) → takes (app verb) words ≡ true → kind_of e ≡ OutOfMemory
  only e passes = subst (λ (p : App). takes p words ≡ true → kind_of e ≡ OutOfMemory) is passes

-- out of memory isn't a rejection
pub no_rejection : (kind : ErrorKind) (fault : WordsFault) → FitsKind kind fault → kind ≡ OutOfMemory → Rejects fault → ⊥
no_rejection kind (faults.Refused line) fits memory rejected = fits memory
no_rejection kind faults.NoMemory fits memory rejected = rejected
no_rejection kind faults.NoCommand fits memory rejected = fits
no_rejection kind (faults.Value text) fits memory rejected = fits

-- a value that is rejected is none
pub rejected_none : {T : Type 0} (expected : Option T) (fault : WordsFault) → Gives expected (Err fault) → Rejects fault → expected ≡ None
rejected_none expected (faults.Refused line) gives rejected = gives
rejected_none expected faults.NoMemory gives rejected = absurd rejected
rejected_none expected faults.NoCommand gives rejected = gives
rejected_none expected (faults.Value text) gives rejected = gives
