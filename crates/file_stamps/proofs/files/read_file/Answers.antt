use Rattle.std.proofs.Common.{rules, ◌≡◌, ◌∙◌, ◌++◌, List, None, Err, ap, sym}
use Rattle.std.specs.Option.{option_and_then}
use Rattle.aux_cache.specs.Stamps.{stamp_of}
use Rattle.aux_cache.specs.declared.stamps.Stamp.{Stamp}
use Rattle.library_files.specs.FoundFile.{FoundFile, IsFileOf, path_of}
use Rattle.file_table.specs.Table.{analysis_at}
use Rattle.image_tree.specs.Tree.{Nodes}
use Rattle.tree_face.proofs.StoreUse.{reads_all}
use Rattle.file_stamps.proofs.KeptAnalyses.{file_id, file_unread}
use Rattle.file_stamps.proofs.ReadOne.{one_key, reads_one}
use Rattle.file_stamps.proofs.files.read_file.Goals as goal
use Rattle.file_stamps.specs.Reading.{key_opened, keys_opened}
use Rattle.file_stamps.specs.Stamped.{id_at}
use Rattle.file_stamps.specs.State.{ids_there}
use Rattle.file_stamps.specs.declared.files.Files.{Files}

pub returns-in-Ok-clause-one : goal.returns-in-Ok-clause-one
returns-in-Ok-clause-one g c =
    let t = c.args._tree.now in
    let file = c.args.file in
    let old = c.args.files.now in
    let none : analysis_at c.args.files.now.table c.args.file.path ≡ None = search rules in
    let path : c.file.inside.path ≡ c.args.file.path = ap path_of c.file.view_is in
    let is : c.args.file.id ≡ id_at c.args._tree.now c.args.file.path = sym (file_id t file c.requires.file) in
    let id : c.copied.result ≡ id_at c.args._tree.now c.args.file.path = c.copied.ensures ∙ ap (λ (f : FoundFile). f.id) c.file.view_is ∙ is in
    reads_one t c.args.loaded.now file.path file.key old (file_unread t (analysis_at old.table) file c.requires.file none) c.in_ok-analysis.analysis c.add.new.files
    (rw path at c.in-Ok.ensures.table) (rw id at c.in-Ok.ensures.stamps) _ (rw (is, ← c.in-Ok.ensures.begun) at c.in_ok-analysis.ensures.found)

-- the key that is opened, by the file's stamp
keys : (t : Nodes) (loaded : List Stamp) (old : Files) (file : FoundFile) → IsFileOf t file → analysis_at old.table file.path ≡ None
    → key_opened (option_and_then (stamp_of (loaded ++ old.stamps)) file.id) file.key ≡ keys_opened t (ids_there loaded old) (analysis_at old.table) file.path
keys t loaded old file is none =
    ap (λ id. key_opened (option_and_then (stamp_of (loaded ++ old.stamps)) id) file.key) (sym (file_id t file is))
    ∙ sym (one_key t loaded file.path file.key old (file_unread t (analysis_at old.table) file is none))

pub returns-in_err-analysis-clause-reads : goal.returns-in_err-analysis-clause-reads
returns-in_err-analysis-clause-reads g c =
    let none : analysis_at c.args.files.now.table c.args.file.path ≡ None = search rules in
    let reads : c.from_residual.result ≡ Err c.in_err-analysis.field-0.0 = search rules in
    rw (← keys c.args._tree.now c.args.loaded.now c.args.files.now c.args.file c.requires.file none, reads) (rw c.in_err-analysis.was at c.analysis_of.ensures.reads)

pub returns-in-Ok-clause-reads : goal.returns-in-Ok-clause-reads
returns-in-Ok-clause-reads g c =
    let none : analysis_at c.args.files.now.table c.args.file.path ≡ None = search rules in
    rw (← keys c.args._tree.now c.args.loaded.now c.args.files.now c.args.file c.requires.file none) c.in_ok-analysis.ensures.reads

pub returns-in-Err-clause-reads : goal.returns-in-Err-clause-reads
returns-in-Err-clause-reads g c =
    let none : analysis_at c.args.files.now.table c.args.file.path ≡ None = search rules in
    rw (← keys c.args._tree.now c.args.loaded.now c.args.files.now c.args.file c.requires.file none) (reads_all _ _ _ _ _ c.in_ok-analysis.ensures.reads)
