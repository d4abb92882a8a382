-- The lines of a program's tree, from top to bottom. An object is below the object that first needed it.
use Rattle.std.specs.Prelude.{◌+◌, ℕ, zero, suc, nat_lt, List, [], ◌∷◌, drop, flat_map, if◌then◌else◌, length, slice_index_or}
use Rattle.ldd_resolve.specs.declared.kinds.Member.{Member}
use Rattle.ldd_resolve.specs.declared.kinds.Reply.{Reply}
use Rattle.ldd_resolve.specs.declared.kinds.Reply.TheVariants.{Known, Loads, Missing}

pub record Row : Type 0 where
  pub depth : ℕ
  pub name : List ℕ
  pub reply : Reply

-- ---- the requests of each object

-- needed names, and the replies to them with those that follow
abbrev pub Group : Type 0
Group = List (List ℕ) × List Reply

-- the requests of the members, in order; the replies to a member's names follow those to the names of the members before it
abbrev pub groups_of : List Member → List Reply → List Group
groups_of [] replies = []
groups_of (m ∷ members) replies = (m.needed, replies) ∷ groups_of members (drop (length m.needed) replies)

abbrev pub group_at : List Group → ℕ → Group
group_at groups k = slice_index_or groups k ([], [])

-- each name with its reply
abbrev pub asked : List (List ℕ) → List Reply → List (List ℕ × Reply)
asked [] replies = []
asked (name ∷ names) [] = []
asked (name ∷ names) (reply ∷ replies) = (name, reply) ∷ asked names replies

-- ---- the tree

-- one level deeper; lines below level 64 are indented as those at it
abbrev pub deeper : ℕ → ℕ
deeper depth = if nat_lt depth 64 then depth + 1 else depth

abbrev pub row : ℕ → List ℕ × Reply → Row
row depth q = record { depth = depth; name = q.0; reply = q.1 }

-- the lines below a needed name: those of the member that was loaded for it
abbrev pub below : (ℕ → List Row) → Reply → List Row
below f (Loads k part) = f k
below f Known = []
below f Missing = []

-- the lines of the requests of the member with this index, each followed by the lines below it, if there may be this many levels
abbrev pub subtree : List Group → ℕ → ℕ → ℕ → List Row
subtree groups zero depth k = []
subtree groups (suc levels) depth k =
    flat_map (λ q. row depth q ∷ below (λ j. subtree groups levels (deeper depth) j) q.1) (asked (group_at groups k).0 (group_at groups k).1)

-- The lines below the program. Each member loads only later ones, so the tree has fewer levels than members.
unfoldable pub tree_rows : List Member → List Reply → List Row
tree_rows members replies = subtree (groups_of members replies) (length members) 1 0
