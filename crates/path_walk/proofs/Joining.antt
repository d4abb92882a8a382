-- The names of two texts that are joined by a slash.
use Rattle.std.proofs.Common.{◌≡◌, ℕ, List, [], ◌∷◌, ◌++◌, filter, ap, sym, ◌∙◌}
use Rattle.std.proofs.lemmas.List.{append-nil}
use Rattle.std.proofs.lemmas.List.Elements.{filter-append}
use Rattle.std.specs.List.{slice_split}
use Rattle.lib_types.specs.Name.{slash}
use Rattle.image_tree.proofs.Prefixes.{parts_joined}
use Rattle.image_tree.specs.Paths.{is_slash, is_kept, components}

pub names_joined : (first rest : List ℕ) → components (first ++ slash ∷ rest) ≡ components first ++ components rest
names_joined first rest = ap (filter is_kept) (parts_joined first rest) ∙ filter-append is_kept (slice_split is_slash first) (slice_split is_slash rest)

pub names_alone : (first : List ℕ) → components first ≡ components first ++ []
names_alone first = sym (append-nil (components first))
