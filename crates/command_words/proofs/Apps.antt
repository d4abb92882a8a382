-- The arguments of each command are those of a simple one, of which `clap` promises all.
use Rattle.std.proofs.Common.{◌≡◌, true, refl}
use Rattle.clap.specs.Words.{is_simple, is_simple_and_free}
use Rattle.command_words.specs.Language.{app}
use Rattle.command_words.specs.declared.verb.Verb.{Verb}
use Rattle.command_words.specs.declared.verb.Verb.TheVariants.{Update, Batch, Layers, Sample, Print, Lookup, Resolve}

pub is_simple_app : (verb : Verb) → is_simple (app verb) ≡ true
unfolding app
is_simple_app Update = refl
is_simple_app Batch = refl
is_simple_app Layers = refl
is_simple_app Sample = refl
is_simple_app Print = refl
is_simple_app Lookup = refl
is_simple_app Resolve = refl

pub is_free_app : (verb : Verb) → is_simple_and_free (app verb) ≡ true
unfolding app
is_free_app Update = refl
is_free_app Batch = refl
is_free_app Layers = refl
is_free_app Sample = refl
is_free_app Print = refl
is_free_app Lookup = refl
is_free_app Resolve = refl
