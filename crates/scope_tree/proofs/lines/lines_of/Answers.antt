use Rattle.std.proofs.Common.{◌≡◌, ◌++◌, ◌∷◌, ◌∙◌, [], map, sym, ap, rules}
use Rattle.scope_tree.specs.Rows.{below, deeper, subtree}
use Rattle.scope_tree.specs.Stack.{IsFirst, Puts, frame_asked, groups_now, row_of, rows_left}
use Rattle.scope_tree.proofs.Left.{begins, emptied, emptied_smaller, lines_more, taken_smaller}
use Rattle.scope_tree.proofs.lines.lines_of.Goals as goal

pub loop-frame-init : goal.loop-frame-init
loop-frame-init c =
    let scope = c.args.scope.now in
    let groups = groups_now c.in_ok-groups.groups.items in
    let none : c.new-lines.result.items ≡ [] = search rules in
    let empty : c.new-stack.result.items ≡ [] = search rules in
    ap (λ l. map row_of l ++ rows_left groups c.put_group.new.stack.items) none
    ∙ begins groups scope.members scope.replies c.put_group.new.stack.items (rw (c.as_slice.ensures, c.as_slice-2.ensures) at c.in_ok-groups.ensures)
    (rw (empty, c.deref.ensures.value, c.len.ensures) at c.in_ok-put_group.ensures)

pub loop-frame-smaller-in-Continue-branch-5 : goal.loop-frame-smaller-in-Continue-branch-5
loop-frame-smaller-in-Continue-branch-5 c =
    let groups = groups_now c.in_ok-groups.groups.items in
    let stack = c.loop-frame.stack.items in
    let popped = c.pop.new.self.items in
    let f = c.in-Some.frame in
    let line = c.in-Some-split_first.line in
    let rest = c.in-Some-split_first.rest in
    let is : stack ≡ popped ++ f ∷ [] = search rules in
    let first : IsFirst f line rest = c.in-Some-split_first.ensures in
    let pushed : c.push-in-Some-split_first.new.self.items ≡ popped ++ rest ∷ [] = search rules in
    let puts : Puts groups (below (λ j. subtree groups f.levels (deeper f.depth) j) line.reply) (popped ++ rest ∷ []) c.put_below.new.stack.items =
    rw (pushed, c.deref-in-Some-split_first.ensures.value, c.deeper.ensures) at c.in_ok-put_below.ensures in
    taken_smaller groups stack popped f is line rest first c.put_below.new.stack.items puts

pub loop-frame-preserved-in-Continue-branch-5 : goal.loop-frame-preserved-in-Continue-branch-5
loop-frame-preserved-in-Continue-branch-5 c =
    let groups = groups_now c.in_ok-groups.groups.items in
    let stack = c.loop-frame.stack.items in
    let popped = c.pop.new.self.items in
    let f = c.in-Some.frame in
    let line = c.in-Some-split_first.line in
    let rest = c.in-Some-split_first.rest in
    let is : stack ≡ popped ++ f ∷ [] = search rules in
    let first : IsFirst f line rest = c.in-Some-split_first.ensures in
    let pushed : c.push-in-Some-split_first.new.self.items ≡ popped ++ rest ∷ [] = search rules in
    let added : c.push.new.self.items ≡ c.loop-frame.lines.items ++ line ∷ [] = search rules in
    let puts : Puts groups (below (λ j. subtree groups f.levels (deeper f.depth) j) line.reply) (popped ++ rest ∷ []) c.put_below.new.stack.items =
    rw (pushed, c.deref-in-Some-split_first.ensures.value, c.deeper.ensures) at c.in_ok-put_below.ensures in
    ap (λ l. map row_of l ++ rows_left groups c.put_below.new.stack.items) added
    ∙ lines_more groups stack popped f is line rest first c.put_below.new.stack.items puts c.loop-frame.lines.items
    ∙ c.loop-frame.invariant

pub loop-frame-smaller : goal.loop-frame-smaller
loop-frame-smaller c =
    let groups = groups_now c.in_ok-groups.groups.items in
    let f = c.in-Some.frame in
    let is : c.loop-frame.stack.items ≡ c.pop.new.self.items ++ f ∷ [] = search rules in
    let none : frame_asked f ≡ [] = search rules in
    emptied_smaller groups c.loop-frame.stack.items c.pop.new.self.items f is none

pub loop-frame-preserved : goal.loop-frame-preserved
loop-frame-preserved c =
    let groups = groups_now c.in_ok-groups.groups.items in
    let f = c.in-Some.frame in
    let is : c.loop-frame.stack.items ≡ c.pop.new.self.items ++ f ∷ [] = search rules in
    let none : frame_asked f ≡ [] = search rules in
    ap (λ l. map row_of c.loop-frame.lines.items ++ l) (sym (emptied groups c.loop-frame.stack.items c.pop.new.self.items f is none))
    ∙ c.loop-frame.invariant
