-- The options are those of a simple command, of which `clap` promises all.
use Rattle.std.proofs.Common.{◌≡◌, true, refl}
use Rattle.clap.specs.Words.{is_simple, is_simple_and_free}
use Rattle.root_words.specs.Language.{root_app}

pub is_simple_app : is_simple root_app ≡ true
unfolding root_app
is_simple_app = refl

pub is_free_app : is_simple_and_free root_app ≡ true
unfolding root_app
is_free_app = refl
