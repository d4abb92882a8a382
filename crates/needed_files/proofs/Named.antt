-- The interpreter that a program names.
use Rattle.std.proofs.Common.{◌≡◌, ◌∷◌, [], ℕ, false, List, Option, Some, None, Result, Ok, Err, refl}
use Rattle.std.specs.Prelude.{IfOk, IsSomeAnd}
use Rattle.elf_dynamic.specs.Begun.{key_in, lacks_one}
use Rattle.elf_headers.specs.Reading.{OfContent}
use Rattle.elf_interpreter.specs.Interpreter.{interpreter}
use Rattle.elf_interpreter.specs.declared.fault.InterpreterFault.{InterpreterFault}
use Rattle.image_tree.specs.Tree.{Nodes, node_at}
use Rattle.ldd_resolve.specs.Resolving.{program_at}
use Rattle.needed_files.specs.Interpreters.{interpreter_at, key_at, key_there}
use Rattle.tree_face.specs.Known.{IfKnown}
use Rattle.tree_face.specs.Store.{Contents}

module _ (t : Nodes) (path : List ℕ) where
  pub no_file : program_at t path ≡ None → key_there t path ≡ None
  no_file none = rw none refl

  pub no_key_there : (real : List ℕ) → program_at t path ≡ Some real → key_in (node_at t real) ≡ None → key_there t path ≡ None
  no_key_there real leads none = rw (leads, none) refl

  pub key_is : (real key : List ℕ) → program_at t path ≡ Some real → key_in (node_at t real) ≡ Some key → key_there t path ≡ Some key
  key_is real key leads some = rw (leads, some) refl

  -- ---- without a file

  module _ (none : key_there t path ≡ None) where
    pub no_keys : key_at t path ≡ []
    no_keys = rw none refl

    pub none_named : (known : Option Contents) → IfKnown known (λ held. None ≡ interpreter_at held t path)
    none_named None = tt
    none_named (Some held) = rw none refl

    pub none_lacking : (known : Option Contents) → IfKnown known (λ held. lacks_one held (key_at t path) ≡ false)
    none_lacking None = tt
    none_lacking (Some held) = rw none refl

  -- ---- with a file

  module _ (key : List ℕ) (there : key_there t path ≡ Some key) (named : Option (List ℕ)) where
    pub one_key : key_at t path ≡ key ∷ []
    one_key = rw there refl

    pub named_is : (known : Option Contents) → OfContent known key (λ bytes. named ≡ interpreter bytes) → IfKnown known (λ held. named ≡ interpreter_at held t path)
    named_is None is = tt
    named_is (Some held) is = by (held key) refl is
      where
        by : (content : Option (List ℕ)) → held key ≡ content → IsSomeAnd content (λ bytes. named ≡ interpreter bytes) → named ≡ interpreter_at held t path
        by None e is = absurd is
        by (Some bytes) e is = rw (there, e) is

    pub held_there : (known : Option Contents) → OfContent known key (λ bytes. named ≡ interpreter bytes) → IfKnown known (λ held. lacks_one held (key_at t path) ≡ false)
    held_there None is = tt
    held_there (Some held) is = by (held key) refl is
      where
        by : (content : Option (List ℕ)) → held key ≡ content → IsSomeAnd content (λ bytes. named ≡ interpreter bytes) → lacks_one held (key_at t path) ≡ false
        by None e is = absurd is
        by (Some bytes) e is = rw (there, e) refl

-- ---- the result of the reading

module _ (t : Nodes) (path key : List ℕ) (there : key_there t path ≡ Some key) (known : Option Contents) where
  abbrev Names : Option (List ℕ) → Type 0
  Names named = OfContent known key (λ bytes. named ≡ interpreter bytes)

  pub result_named : (r : Result (Option (List ℕ)) InterpreterFault) → IfOk r Names → IfOk r (λ named. IfKnown known (λ held. named ≡ interpreter_at held t path))
  result_named (Ok named) is = named_is t path key there named known is
  result_named (Err fault) is = tt

  pub result_held : (r : Result (Option (List ℕ)) InterpreterFault) → IfOk r Names → IfOk r (λ _. IfKnown known (λ held. lacks_one held (key_at t path) ≡ false))
  result_held (Ok named) is = held_there t path key there named known is
  result_held (Err fault) is = tt
