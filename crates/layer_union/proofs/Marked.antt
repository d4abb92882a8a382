-- What the special paths of a layer hide.
use Rattle.std.proofs.Common.{◌≡◌, ℕ, Bool, true, false, ◌&&◌, ◌||◌, not, nat_eq, List, filter, refl, sym, ap, ◌∙◌}
use Rattle.std.specs.List.{starts_with}
use Rattle.std.specs.Str.{bytes_eq}
use Rattle.image_tree.specs.Paths.{is_below, join}
use Rattle.image_tree.specs.Tree.{Nodes}
use Rattle.image_tree.specs.declared.node.Node.{Node}
use Rattle.layer_union.proofs.Lists.{always, keeps_all}
use Rattle.layer_union.proofs.Trees.{same_is}
use Rattle.layer_union.specs.Steps.{is_from}
use Rattle.layer_union.specs.Whiteouts.{is_special, makes_opaque, marked_name, opaque_name, reserved, whites_out}
use Rattle.path_walk.specs.Names.{last, parent}

abbrev pub unmarked : List ℕ → Nodes → Nodes
unmarked path t = filter (λ e. not (whites_out path e.0 || makes_opaque path e.0)) t

module _ (path : List ℕ) (special : is_special path ≡ true) (t : Nodes) where
  abbrev opq : Bool
  opq = bytes_eq (last path) opaque_name

  abbrev rsv : Bool
  rsv = starts_with nat_eq (last path) reserved

  -- with the tests of the names known
  by_tests : (f o r : Bool) → is_special (parent path) ≡ f → opq ≡ o → rsv ≡ r → (e : List ℕ × Node)
      → (whites_out path e.0 || makes_opaque path e.0) ≡ (((not f && not r) && is_from (join (parent path) (marked_name path)) e.0) || ((not f && o) && is_below (parent path) e.0))
  by_tests f o r hf ho hr e =
      ap (λ s. (((s && not (is_special (parent path))) && not rsv) && is_from (join (parent path) (marked_name path)) e.0) || (((s && not (is_special (parent path))) && opq) && is_below (parent path) e.0)) special
      ∙ ap (λ f. ((not f && not rsv) && is_from (join (parent path) (marked_name path)) e.0) || ((not f && opq) && is_below (parent path) e.0)) hf
      ∙ ap (λ o. ((not f && not rsv) && is_from (join (parent path) (marked_name path)) e.0) || ((not f && o) && is_below (parent path) e.0)) ho
      ∙ ap (λ r. ((not f && not r) && is_from (join (parent path) (marked_name path)) e.0) || ((not f && o) && is_below (parent path) e.0)) hr

  -- a component before the last one is special
  pub of_inner : is_special (parent path) ≡ true → t ≡ unmarked path t
  of_inner hf = sym (keeps_all (λ (e : List ℕ × Node). not (whites_out path e.0 || makes_opaque path e.0)) (λ e. ap not (by_tests true opq rsv hf refl refl e)) t)

  module _ (outer : is_special (parent path) ≡ false) where
    pub of_opaque : opq ≡ true → filter (λ e. not (is_below (parent path) e.0)) t ≡ unmarked path t
    of_opaque ho =
        let hr : rsv ≡ true = ap (λ z. starts_with nat_eq z reserved) (same_is (last path) opaque_name ho) in
        sym (always (λ (e : List ℕ × Node). not (whites_out path e.0 || makes_opaque path e.0)) (λ (e : List ℕ × Node). not (is_below (parent path) e.0))
        (λ e. ap not (by_tests false true true outer ho hr e)) t)

    pub of_reserved : opq ≡ false → rsv ≡ true → t ≡ unmarked path t
    of_reserved ho hr = sym (keeps_all (λ (e : List ℕ × Node). not (whites_out path e.0 || makes_opaque path e.0)) (λ e. ap not (by_tests false false true outer ho hr e)) t)

    pub of_whiteout : opq ≡ false → rsv ≡ false → filter (λ e. not (is_from (join (parent path) (marked_name path)) e.0)) t ≡ unmarked path t
    of_whiteout ho hr =
        sym (always (λ (e : List ℕ × Node). not (whites_out path e.0 || makes_opaque path e.0)) (λ (e : List ℕ × Node). not (is_from (join (parent path) (marked_name path)) e.0))
        (λ e. ap not (by_tests false false false outer ho hr e ∙ or_false (is_from (join (parent path) (marked_name path)) e.0))) t)
      where
        or_false : (b : Bool) → (b || false) ≡ b
        or_false true = refl
        or_false false = refl
