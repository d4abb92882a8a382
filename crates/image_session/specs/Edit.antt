-- Edits of a loaded image.
use Rattle.std.specs.Prelude.{ℕ, true, List, Option, Some, None, Result, Ok, Err, if◌then◌else◌}
use Rattle.std.specs.Option.{is_some}
use Rattle.image_tree.specs.Tree.{put, remove, node_at, clashes, has_no_room}
use Rattle.image_tree.specs.declared.node.Node.{Node}
use Rattle.manifest_words.specs.declared.fault.LineKind.{LineKind}
use Rattle.manifest_words.specs.declared.fault.LineKind.TheVariants.{BadLine}
use Rattle.script_lines.specs.Script.{line_of}
use Rattle.script_lines.specs.declared.line.ScriptLine.{ScriptLine}
use Rattle.script_lines.specs.declared.line.ScriptLine.TheVariants as asking
use Rattle.image_session.specs.Session.{Loaded}
use Rattle.image_session.specs.declared.fault.EditFault.{EditFault}
use Rattle.image_session.specs.declared.fault.EditFault.TheVariants.{Bad, Clash, Full, NotThere}

-- puts the node at the path and marks the image as edited
abbrev pub with_node : Loaded → List ℕ → Node → Loaded
with_node image path node = record image { tree = put image.tree path node; edited = true }

-- removes the node at the path and marks the image as edited
abbrev pub without_node : Loaded → List ℕ → Loaded
without_node image path = record image { tree = remove image.tree path; edited = true }

-- the image after putting a node, or an error
abbrev pub put_result : Loaded → List ℕ → Node → Result Loaded EditFault
put_result image path node =
    if clashes image.tree path node then Err Clash
    else if has_no_room image.tree path then Err Full
    else Ok (with_node image path node)

-- the image after removing a node, or an error
abbrev pub drop_result : Loaded → List ℕ → Result Loaded EditFault
drop_result image path = if is_some (node_at image.tree path) then Ok (without_node image path) else Err NotThere

-- An entry whose type gives no node leaves the image unedited.
abbrev pub put_entry_result : Loaded → Option (List ℕ × Node) → Result Loaded EditFault
put_entry_result image None = Ok image
put_entry_result image (Some entry) = put_result image entry.0 entry.1

-- the image after the edit of a line, or an error; ignored lines and updates are rejected
abbrev pub edit_by : Loaded → Result ScriptLine LineKind → Result Loaded EditFault
edit_by image (Err kind) = Err (Bad kind)
edit_by image (Ok asking.Ignored) = Err (Bad BadLine)
edit_by image (Ok asking.Update) = Err (Bad BadLine)
edit_by image (Ok (asking.Put entry)) = put_entry_result image entry
edit_by image (Ok (asking.Drop path)) = drop_result image path

-- the image after the edit of a text line, or the first error
abbrev pub edit_result : Loaded → List ℕ → Result Loaded EditFault
edit_result image line = edit_by image (line_of line)
