-- What `clap` promises of a parse, for these options.
use Rattle.std.proofs.Common.{◌≡◌, ℕ, true, List, [], ◌∷◌, Result, Err, inl, inr, refl, subst, sym}
use Rattle.clap.specs.Words.{App, HasKind, HasMatchesOf, Kinds, Row, fault_of, found_of, is_simple_and_free, kind_of, matches_of, rows_of}
use Rattle.clap.specs.declared.error.Error.{Error}
use Rattle.clap.specs.declared.error.kind.ErrorKind.TheVariants.{OutOfMemory}
use Rattle.clap.specs.declared.parser.matches.ArgMatches.{ArgMatches}
use Rattle.root_words.proofs.Apps.{is_free_app, is_simple_app}
use Rattle.root_words.specs.Faults.{FitsKind, FitsRefusal, Gives}
use Rattle.root_words.specs.Language.{root_app}
use Rattle.root_words.specs.Words.{judged, parsed_by}
use Rattle.root_words.specs.declared.command.RootCommand.{RootCommand}
use Rattle.root_words.specs.declared.fault.RootWordsFault.{RootWordsFault}
use Rattle.root_words.specs.declared.fault.RootWordsFault.TheVariants as faults

module _ (a : App) (words : List (List ℕ)) (is : a ≡ root_app) where
  pub found : (m : ArgMatches) → HasMatchesOf a words m → rows_of (found_of m) ≡ matches_of root_app words
  found m has = (subst (λ (p : App). HasMatchesOf p words m) is has is_simple_app).0

  pub accepted : (is_simple_and_free a ≡ true → fault_of a words ≡ []) → fault_of root_app words ≡ []
  accepted none = subst (λ (p : App). is_simple_and_free p ≡ true → fault_of p words ≡ []) is none is_free_app

  kinds : (e : Error) → (is_simple_and_free a ≡ true → HasKind (fault_of a words) e) → HasKind (fault_of root_app words) e
  kinds e has = subst (λ (p : App). is_simple_and_free p ≡ true → HasKind (fault_of p words) e) is has is_free_app

  memory_alone : (e : Error) → HasKind [] e → kind_of e ≡ OutOfMemory
  memory_alone e (inl memory) = memory
  memory_alone e (inr among) = absurd among

  -- if the options have no error, parsing can only run out of memory
  pub refused : (e : Error) → (is_simple_and_free a ≡ true → HasKind (fault_of a words) e) → fault_of root_app words ≡ [] → kind_of e ≡ OutOfMemory
  refused e has none = memory_alone e (subst (λ ks. HasKind ks e) none (kinds e has))

  -- the error's fault says whether the arguments are wrong or memory ran out
  pub fits : (e : Error) (f : RootWordsFault) → (is_simple_and_free a ≡ true → HasKind (fault_of a words) e) → FitsKind (kind_of e) f → FitsRefusal (fault_of root_app words) f
  fits e (faults.Refused line) has fit = λ none. fit (refused e has none)
  fits e (faults.Rejected rejection) has fit = fit
  fits e faults.NoMemory has fit = tt

pub gives_refused : (kinds : Kinds) (found : List Row) (f : RootWordsFault) → FitsRefusal kinds f → Gives (parsed_by kinds found) (Err f)
gives_refused [] found (faults.Refused line) fit = absurd (fit refl)
gives_refused (kind ∷ kinds) found (faults.Refused line) fit = refl
gives_refused kinds found (faults.Rejected rejection) fit = absurd fit
gives_refused kinds found faults.NoMemory fit = tt

pub gives_judged : (kinds : Kinds) (rows found : List Row) (r : Result RootCommand RootWordsFault) → kinds ≡ [] → rows ≡ found → Gives (judged rows) r → Gives (parsed_by kinds found) r
gives_judged kinds rows found r none same given = subst (λ ks. Gives (parsed_by ks found) r) (sym none) (subst (λ fs. Gives (judged fs) r) same given)
