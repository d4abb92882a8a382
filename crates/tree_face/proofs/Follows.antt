-- What is added at the end of a list, part by part.
use Rattle.std.proofs.Common.{◌+◌, min, List, ◌++◌, length, take, append_assoc, ap, sym, ◌∙◌}
use Rattle.std.proofs.Math.Nat.{min-le_right}
use Rattle.std.proofs.Math.Seq.{take-append-add, take-length}
use Rattle.std.proofs.lemmas.List.{take-append-le, take_min}
use Rattle.tree_face.specs.Follows.{IsFollowedBy, IsFollowedByPart}

module _ {A : Type 0} where
  pub follow : (xs ys a b c : List A) → IsFollowedBy xs a b → IsFollowedBy ys b c → IsFollowedBy (xs ++ ys) a c
  follow xs ys a b c first next = next ∙ ap (λ l. l ++ ys) first ∙ append_assoc a xs ys

  pub follow_part : (xs ys a b c : List A) → IsFollowedBy xs a b → IsFollowedByPart ys b c → IsFollowedByPart (xs ++ ys) a c
  follow_part xs ys a b c first (n, next) =
      (length xs + n, next ∙ ap (λ l. l ++ take n ys) first ∙ append_assoc a xs (take n ys) ∙ ap (λ l. a ++ l) (sym (take-append-add xs ys n)))

  -- all of the items are a part of them
  pub part_whole : (xs a b : List A) → IsFollowedBy xs a b → IsFollowedByPart xs a b
  part_whole xs a b whole = (length xs, whole ∙ ap (λ l. a ++ l) (sym (take-length xs)))

  -- a part of the first items is a part of all
  pub part_of : (xs ys a b : List A) → IsFollowedByPart xs a b → IsFollowedByPart (xs ++ ys) a b
  part_of xs ys a b (n, part) =
      let k = min n (length xs) in
      (k, part ∙ ap (λ l. a ++ l) (sym (take_min n xs) ∙ sym (take-append-le k xs ys (min-le_right n (length xs)))))
