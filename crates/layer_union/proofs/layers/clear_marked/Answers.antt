use Rattle.std.proofs.Common.{◌≡◌, ◌∙◌, ℕ, List, OnOk, true, false, ap, drop, filter, nat_eq, not, subst, sym}
use Rattle.std.specs.List.{starts_with}
use Rattle.std.specs.Str.{bytes_eq}
use Rattle.image_tree.specs.Paths.{is_below, join}
use Rattle.image_tree.specs.Tree.{Nodes}
use Rattle.layer_union.proofs.Marked.{of_inner, of_opaque, of_reserved, of_whiteout}
use Rattle.layer_union.proofs.layers.clear_marked.Goals as goal
use Rattle.layer_union.specs.Steps.{is_from}
use Rattle.layer_union.specs.Whiteouts.{is_special, marked_name, opaque_name, reserved}
use Rattle.path_walk.specs.Names.{last, parent}

pub returns-then-is_special : goal.returns-then-is_special
returns-then-is_special c =
    of_inner c.args.path.now c.requires c.args.tree.now (ap is_special (sym c.parted.ensures.folder) ∙ sym c.is_special.ensures ∙ c.if-is_special.true)

pub returns-then-is_opaque_name : goal.returns-then-is_opaque_name
returns-then-is_opaque_name c =
    let path = c.args.path.now in
    let t = c.args.tree.now in
    let outer : is_special (parent path) ≡ false = ap is_special (sym c.parted.ensures.folder) ∙ sym c.is_special.ensures ∙ c.if-is_special.false in
    let ho : bytes_eq (last path) opaque_name ≡ true = ap (λ (z : List ℕ). bytes_eq z opaque_name) (sym c.parted.ensures.name) ∙ sym c.is_opaque_name.ensures ∙ c.if-is_opaque_name.true in
    subst (λ (z : Nodes). OnOk c.clear_below.result (c.clear_below.new.tree ≡ z))
    (ap (λ (z : List ℕ). filter (λ e. not (is_below z e.0)) t) c.parted.ensures.folder ∙ of_opaque path c.requires t outer ho)
    c.clear_below.ensures

pub returns-then-is_reserved : goal.returns-then-is_reserved
returns-then-is_reserved c =
    let path = c.args.path.now in
    let outer : is_special (parent path) ≡ false = ap is_special (sym c.parted.ensures.folder) ∙ sym c.is_special.ensures ∙ c.if-is_special.false in
    let ho : bytes_eq (last path) opaque_name ≡ false = ap (λ (z : List ℕ). bytes_eq z opaque_name) (sym c.parted.ensures.name) ∙ sym c.is_opaque_name.ensures ∙ c.if-is_opaque_name.false in
    let hr : starts_with nat_eq (last path) reserved ≡ true = ap (λ (z : List ℕ). starts_with nat_eq z reserved) (sym c.parted.ensures.name) ∙ sym c.is_reserved.ensures ∙ c.if-is_reserved.true in
    of_reserved path c.requires c.args.tree.now outer ho hr

pub returns : goal.returns
returns c =
    let path = c.args.path.now in
    let t = c.args.tree.now in
    let outer : is_special (parent path) ≡ false = ap is_special (sym c.parted.ensures.folder) ∙ sym c.is_special.ensures ∙ c.if-is_special.false in
    let ho : bytes_eq (last path) opaque_name ≡ false = ap (λ (z : List ℕ). bytes_eq z opaque_name) (sym c.parted.ensures.name) ∙ sym c.is_opaque_name.ensures ∙ c.if-is_opaque_name.false in
    let hr : starts_with nat_eq (last path) reserved ≡ false = ap (λ (z : List ℕ). starts_with nat_eq z reserved) (sym c.parted.ensures.name) ∙ sym c.is_reserved.ensures ∙ c.if-is_reserved.false in
    let target : c.as_bytes.result.now ≡ join (parent path) (marked_name path) =
    c.as_bytes.ensures ∙ c.in_ok-marked.ensures
    ∙ ap (λ (z : List ℕ). join z c.marked_name.result.now) c.parted.ensures.folder
    ∙ ap (join (parent path)) (c.marked_name.ensures ∙ ap (drop 4) c.parted.ensures.name) in
    subst (λ (z : Nodes). OnOk c.clear_from.result (c.clear_from.new.tree ≡ z))
    (ap (λ (z : List ℕ). filter (λ e. not (is_from z e.0)) t) target ∙ of_whiteout path c.requires t outer ho hr)
    c.clear_from.ensures
