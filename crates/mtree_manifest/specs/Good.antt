-- Values that were checked, so that a node can be made of them.
use Rattle.std.specs.Prelude.{◌≡◌, Bool, true, List, ℕ, ◌&&◌, Option, Some, None, is_none}
use Rattle.manifest_words.specs.Keys.{Values, Given, value_fault}
use Rattle.mtree_manifest.specs.Progress.{Open}
use Rattle.manifest_words.specs.declared.keys.Keyword.TheVariants as keyword
use Rattle.mtree_manifest.specs.declared.line.Head.{Head}
use Rattle.mtree_manifest.specs.declared.line.Head.TheVariants as head

abbrev pub is_good_link : List ℕ → Bool
is_good_link link = is_none (value_fault keyword.Link link)

abbrev pub is_good_contents : Option (List ℕ) → Bool
is_good_contents None = true
is_good_contents (Some value) = is_none (value_fault keyword.Contents value)

abbrev pub are_good : Values → Bool
are_good v = is_good_link v.link && is_good_contents v.contents

-- if the words so far have no error, the values are good
abbrev pub IsGood : Given → Type 0
IsGood g = g.fault ≡ None → are_good g.values ≡ true

abbrev pub IsGoodAt : Head → Given → Type 0
IsGoodAt head.Set g = IsGood g
IsGoodAt head.Entry g = IsGood g
IsGoodAt head.Comment g = IsGood g
IsGoodAt head.Close g = IsGood g
IsGoodAt head.Unset g = are_good g.values ≡ true

abbrev pub IsGoodAfter : Option (Head × List ℕ) → Given → Type 0
IsGoodAfter None g = are_good g.values ≡ true
IsGoodAfter (Some first) g = IsGoodAt first.0 g

abbrev pub IsGoodOpen : Open → Type 0
IsGoodOpen o = IsGoodAfter o.first o.given
