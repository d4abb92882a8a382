-- No call.
use Rattle.std.proofs.Common.{ℕ, List, [], append-nil, sym}
use Rattle.root_folder.specs.Folder.{FolderState}
use Rattle.seen_tree.proofs.Calls.{no_calls}
use Rattle.seen_tree.specs.Seen.{ListsMore}

pub no_lists : (looked dirs : List (List ℕ)) (s : FolderState) → ListsMore looked looked dirs dirs s s
no_lists looked dirs s = record { made = []; looked = sym (append-nil looked); listed = sym (append-nil dirs); calls = no_calls s }
