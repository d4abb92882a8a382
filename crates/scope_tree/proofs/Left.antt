-- The lines that remain while the code goes through a tree.
use Rattle.std.proofs.Common.{◌≡◌, ◌<◌, ◌+◌, ◌-◌, ◌*◌, ◌≤◌, ℕ, zero, suc, List, [], ◌∷◌, ◌++◌, append_assoc, flat_map, length, map, refl, sym, ap, ◌∙◌, arith}
use Rattle.std.proofs.lemmas.List.{append-nil, length-append, map-append}
use Rattle.ldd_resolve.specs.declared.kinds.Member.{Member}
use Rattle.ldd_resolve.specs.declared.kinds.Reply.{Reply}
use Rattle.scope_tree.specs.Rows.{Group, Row, asked, below, deeper, group_at, groups_of, row, subtree, tree_rows}
use Rattle.scope_tree.specs.Stack.{IsFirst, Puts, frame_asked, frame_rows, group_now, row_of, rows_left}
use Rattle.scope_tree.specs.declared.lines.Frame.{Frame}
use Rattle.scope_tree.specs.declared.lines.Line.{Line}

module _ (groups : List Group) where
  -- the last group on the stack is the next one
  left_last : (stack : List Frame) (f : Frame) → rows_left groups (stack ++ f ∷ []) ≡ frame_rows groups f ++ rows_left groups stack
  left_last [] f = sym (append-nil (frame_rows groups f))
  left_last (g ∷ stack) f =
      ap (λ l. l ++ frame_rows groups g) (left_last stack f)
      ∙ append_assoc (frame_rows groups f) (rows_left groups stack) (frame_rows groups g)

  -- ---- one more group

  -- the lines of a member's requests, and those below them
  abbrev rows_at : ℕ → ℕ → Group → List Row
  rows_at levels depth g = flat_map (λ q. row depth q ∷ below (λ j. subtree groups levels (deeper depth) j) q.1) (asked g.0 g.1)

  subtree_at : (levels depth index : ℕ) → 0 < levels → rows_at (levels - 1) depth (group_at groups index) ≡ subtree groups levels depth index
  subtree_at zero depth index some = absurd (omega (arith, some))
  subtree_at (suc levels) depth index some = let same : suc levels - 1 ≡ levels = omega arith in rw same refl

  pub puts_group : (old new : List Frame) (f : Frame) (levels depth index : ℕ) → 0 < levels → f.levels ≡ levels - 1 → f.depth ≡ depth → group_now f.group ≡ group_at groups index →
      new ≡ old ++ f ∷ [] → Puts groups (subtree groups levels depth index) old new
  puts_group old new f levels depth index some fewer here group more =
      let rows : frame_rows groups f ≡ subtree groups levels depth index =
      ap (λ g. rows_at f.levels f.depth g) group
      ∙ ap (λ n. rows_at n f.depth (group_at groups index)) fewer
      ∙ ap (λ n. rows_at (levels - 1) n (group_at groups index)) here
      ∙ subtree_at levels depth index some in
      let count : length new ≡ length old + 1 = ap length more ∙ length-append old (f ∷ []) in
      record {
        left = ap (rows_left groups) more ∙ left_last old f ∙ ap (λ l. l ++ rows_left groups old) rows;
        few = omega (arith, count);
      }

  pub begins : (members : List Member) (replies : List Reply) (stack : List Frame) → groups ≡ groups_of members replies → Puts groups (subtree groups (length members) 1 0) [] stack →
      rows_left groups stack ≡ tree_rows members replies
  unfolding tree_rows
  begins members replies stack same puts =
      puts.left ∙ append-nil (subtree groups (length members) 1 0) ∙ ap (λ gs. subtree gs (length members) 1 0) same

  -- ---- one step

  module _ (stack popped : List Frame) (f : Frame) (is : stack ≡ popped ++ f ∷ []) where
    abbrev inside : Line → List Row
    inside line = below (λ j. subtree groups f.levels (deeper f.depth) j) line.reply

    all_left : rows_left groups stack ≡ frame_rows groups f ++ rows_left groups popped
    all_left = ap (rows_left groups) is ∙ left_last popped f

    -- the group has no lines
    pub emptied : frame_asked f ≡ [] → rows_left groups stack ≡ rows_left groups popped
    emptied none = all_left ∙ ap (λ qs. flat_map (λ q. row f.depth q ∷ below (λ j. subtree groups f.levels (deeper f.depth) j) q.1) qs ++ rows_left groups popped) none

    pub emptied_smaller : frame_asked f ≡ [] → 2 * length (rows_left groups popped) + length popped < 2 * length (rows_left groups stack) + length stack
    emptied_smaller none =
        let same : length (rows_left groups stack) ≡ length (rows_left groups popped) = ap length (emptied none) in
        let count : length stack ≡ length popped + 1 = ap length is ∙ length-append popped (f ∷ []) in
        omega (arith, same, count)

    module _ (line : Line) (rest : Frame) (first : IsFirst f line rest) (next : List Frame) (puts : Puts groups (inside line) (popped ++ rest ∷ []) next) where
      first_rows : frame_rows groups f ≡ row_of line ∷ (inside line ++ frame_rows groups rest)
      first_rows =
          ap (λ qs. flat_map (λ q. row f.depth q ∷ below (λ j. subtree groups f.levels (deeper f.depth) j) q.1) qs) first.asked
          ∙ ap (λ d. record { depth = d; name = line.name.now; reply = line.reply } ∷ (inside line ++ rows_at f.levels f.depth (group_now rest.group))) (sym first.line_depth)
          ∙ ap (λ n. row_of line ∷ (inside line ++ rows_at n f.depth (group_now rest.group))) (sym first.levels)
          ∙ ap (λ d. row_of line ∷ (inside line ++ rows_at rest.levels d (group_now rest.group))) (sym first.depth)

      -- a line is taken
      pub taken : rows_left groups stack ≡ row_of line ∷ rows_left groups next
      taken =
          all_left
          ∙ ap (λ l. l ++ rows_left groups popped) first_rows
          ∙ ap (λ l. row_of line ∷ l) (append_assoc (inside line) (frame_rows groups rest) (rows_left groups popped) ∙ ap (λ l. inside line ++ l) (sym (left_last popped rest)) ∙ sym puts.left)

      pub taken_smaller : 2 * length (rows_left groups next) + length next < 2 * length (rows_left groups stack) + length stack
      taken_smaller =
          let rows : length (rows_left groups stack) ≡ suc (length (rows_left groups next)) = ap length taken in
          let count : length stack ≡ length popped + 1 = ap length is ∙ length-append popped (f ∷ []) in
          let again : length (popped ++ rest ∷ []) ≡ length popped + 1 = length-append popped (rest ∷ []) in
          let few = puts.few in
          omega (arith, rows, count, again, few)

      pub lines_more : (lines : List Line) → map row_of (lines ++ line ∷ []) ++ rows_left groups next ≡ map row_of lines ++ rows_left groups stack
      lines_more lines =
          ap (λ l. l ++ rows_left groups next) (map-append row_of lines (line ∷ []))
          ∙ append_assoc (map row_of lines) (row_of line ∷ []) (rows_left groups next)
          ∙ ap (λ l. map row_of lines ++ l) (sym taken)
