use Rattle.std.proofs.Common.{◌≤◌, length, ap, sym, subst, ◌∙◌, arith, Result, Ok, Err, OnOk, OnErr}
use Rattle.std.specs.List.{insert}
use Rattle.image_tree.proofs.OneText.{added_entry, added_entry_within, entries_kept, kept_within, rows_count}
use Rattle.image_tree.specs.OneText.{entries_in, parts_in_rows, AreWithin}
use Rattle.image_tree.proofs.tree.run.Run.add.Goals as goal

on_err : {T E : Type 0} {P : Type 0} (r : Result T E) → P → OnErr r P
on_err (Ok x) p = tt
on_err (Err e) p = p

module _ {T E : Type 0} (P Q : Type 0) where
  ok_from : (r : Result T E) → OnOk r P → (P → Q) → OnOk r Q
  ok_from (Ok x) p f = f p
  ok_from (Err e) p f = tt

  err_from : (r : Result T E) → OnErr r P → (P → Q) → OnErr r Q
  err_from (Ok x) p f = tt
  err_from (Err e) p f = f p

  either : (R : Type 0) (r : Result T E) → OnOk r P → OnErr r Q → (P → R) → (Q → R) → R
  either R (Ok x) p q f g = f p
  either R (Err e) p q f g = g q

pub returns-in_err-part-clause-refused : goal.returns-in_err-part-clause-refused
returns-in_err-part-clause-refused c =
    on_err c.from_residual.result
    (entries_kept c.self.inside.text.items c.add.new.text.items c.in_err-part.ensures.longer c.self.inside.rows.items c.self.invariant ∙ c.self.view_is)

pub invariant_of-self-2 : goal.invariant_of-self-2
invariant_of-self-2 c =
    let old = c.self.inside.text.items in
    let new = c.add.new.text.items in
    let rows = c.self.inside.rows.items in
    let longer = c.in_ok-part.ensures.longer in
    let at = c.requires in
    let count = rows_count old rows c.args.self.now c.self.view_is in
    let within : c.args.index ≤ length rows = omega arith in
    either _ _ _ c.insert_row.result c.insert_row.ensures.done c.insert_row.ensures.refused
    (λ e. subst (λ rs. AreWithin (length new) (parts_in_rows rs)) (sym e)
    (added_entry_within old new longer rows c.self.invariant c.args.index (record { part = c.in_ok-part.part; node = c.args.node }) within c.in_ok-part.ensures.within))
    (λ e. subst (λ rs. AreWithin (length new) (parts_in_rows rs)) (sym e) (kept_within old new longer (parts_in_rows rows) c.self.invariant))

pub returns-clause-done : goal.returns-clause-done
returns-clause-done c =
    let old = c.self.inside.text.items in
    let new = c.add.new.text.items in
    let rows = c.self.inside.rows.items in
    let at = c.requires in
    let count = rows_count old rows c.args.self.now c.self.view_is in
    let within : c.args.index ≤ length rows = omega arith in
    ok_from _ _ c.insert_row.result c.insert_row.ensures.done (λ e.
    ap (entries_in new) e
    ∙ added_entry old new c.in_ok-part.ensures.longer rows c.self.invariant c.args.index (record { part = c.in_ok-part.part; node = c.args.node }) c.args.path.now within c.in_ok-part.ensures.part
    ∙ ap (λ t. insert t c.args.index (c.args.path.now, c.args.node)) c.self.view_is)

pub returns-clause-refused : goal.returns-clause-refused
returns-clause-refused c =
    err_from _ _ c.insert_row.result c.insert_row.ensures.refused (λ e.
    ap (entries_in c.add.new.text.items) e
    ∙ entries_kept c.self.inside.text.items c.add.new.text.items c.in_ok-part.ensures.longer c.self.inside.rows.items c.self.invariant ∙ c.self.view_is)
