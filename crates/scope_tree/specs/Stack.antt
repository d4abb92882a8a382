-- How the code goes through a tree: a stack of the requests that remain, those of the deepest object last.
use Rattle.std.specs.Prelude.{◌≡◌, ◌++◌, ◌+◌, ◌≤◌, ℕ, List, [], ◌∷◌, flat_map, length, map}
use Rattle.ldd_resolve.specs.declared.kinds.Reply.{Reply}
use Rattle.scope_tree.specs.Rows.{Group, Row, asked, below, deeper, row, subtree}
use Rattle.scope_tree.specs.declared.lines.Frame.{Frame}
use Rattle.scope_tree.specs.declared.lines.Line.{Line}
use Rattle.scope_tree.specs.declared.lines.Names.{Names}

abbrev pub group_now : Names → Group
group_now g = (g.names.now, g.replies.now)

abbrev pub groups_now : List Names → List Group
groups_now gs = map group_now gs

abbrev pub row_of : Line → Row
row_of l = record { depth = l.depth; name = l.name.now; reply = l.reply }

abbrev pub frame_asked : Frame → List (List ℕ × Reply)
frame_asked f = asked f.group.names.now f.group.replies.now

-- the lines of a frame, and those below them
abbrev pub frame_rows : List Group → Frame → List Row
frame_rows groups f = flat_map (λ q. row f.depth q ∷ below (λ j. subtree groups f.levels (deeper f.depth) j) q.1) (frame_asked f)

-- the lines that remain
abbrev pub rows_left : List Group → List Frame → List Row
rows_left groups [] = []
rows_left groups (f ∷ stack) = rows_left groups stack ++ frame_rows groups f

-- the first line of a frame, and the rest
pub record IsFirst (f : Frame) (line : Line) (rest : Frame) : Type 0 where
  pub asked : frame_asked f ≡ (line.name.now, line.reply) ∷ frame_asked rest
  pub line_depth : line.depth ≡ f.depth
  pub depth : rest.depth ≡ f.depth
  pub levels : rest.levels ≡ f.levels

-- these lines are put before those that remain, by at most one frame
pub record Puts (groups : List Group) (rows : List Row) (old new : List Frame) : Type 0 where
  pub left : rows_left groups new ≡ rows ++ rows_left groups old
  pub few : length new ≤ length old + 1
