-- What private functions know about the paths that were tried so far.
use Rattle.std.specs.Prelude.{◌≡◌, ◌+◌, ℕ, false, List, take, drop, find, Option}
use Rattle.std.specs.List.{position_or_len}
use Rattle.lib_types.specs.declared.abi.Abi.{Abi}
use Rattle.tree_face.specs.Known.{IfKnown}
use Rattle.tree_face.specs.Store.{Contents, StoreState}
use Rattle.tree_face.specs.StoreUse.{Complete}
use Rattle.image_tree.specs.Tree.{Nodes}
use Rattle.elf_dynamic.specs.Begun.{ReadsBy, lacks_one}
use Rattle.rpath_search.specs.Search.{is_good}
use Rattle.rpath_search.specs.Searching.{keys_next_to}

-- none of the first i paths is good
pub record IsAfter (held : Contents) (t : Nodes) (abi : Abi) (paths : List (List ℕ)) (i : ℕ) : Type 0 where
  pub place : position_or_len (is_good held t abi) paths ≡ i + position_or_len (is_good held t abi) (drop i paths)
  pub first : find (is_good held t abi) paths ≡ find (is_good held t abi) (drop i paths)

-- the first `count` paths were tried, none of them is good, and `rest` remains
pub record HasTried (known : Option Contents) (t : Nodes) (abi : Abi) (places paths rest : List (List ℕ)) (before here : StoreState) : Type 0 where
  pub count : ℕ
  pub left : drop count paths ≡ rest
  pub reads : ReadsBy known (keys_next_to t places (take count paths)) Complete before here
  pub held : IfKnown known (λ held. lacks_one held (keys_next_to t places (take count paths)) ≡ false)
  pub following : IfKnown known (λ held. IsAfter held t abi paths count)
