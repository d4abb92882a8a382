-- The files that an update in stages opens are those of an update of the larger part.
use Rattle.std.proofs.Common.{◌≡◌, false, List, ℕ}
use Rattle.aux_cache.specs.declared.stamps.Stamp.{Stamp}
use Rattle.elf_dynamic.specs.Begun.{ReadsBy}
use Rattle.file_table.specs.Analyses.{HaveNames}
use Rattle.file_table.specs.Table.{analysis_at}
use Rattle.hwcap_dirs.specs.declared.kinds.Scope.{Scope}
use Rattle.image_tree.specs.Tree.{IsTree, Nodes}
use Rattle.ldso_conf.specs.Reading.{ReadsConf, conf_lacks}
use Rattle.library_search.proofs.Endings.{found_reads}
use Rattle.library_search.proofs.KeysBegun.{search_all}
use Rattle.library_search.proofs.KnownParts.{none_lacks, planned_are, planned_only, same_files}
use Rattle.library_search.specs.Begun.{wanted_keys}
use Rattle.library_search.specs.Found.{IsSearched, ReadsFinding}
use Rattle.library_search.specs.Ldconfig.{conf_of}
use Rattle.library_search.specs.Stages.{IsSearchOf, opened_planned}
use Rattle.library_search.specs.declared.search.Search.{Search}
use Rattle.tree_face.proofs.Known.{known_then}
use Rattle.tree_face.specs.Known.{IfKnown}
use Rattle.tree_face.specs.Store.{StoreState}
use Rattle.tree_face.specs.StoreUse.{Ending, Complete}

-- the conf files, then the files with library names, then the files that links lead to
pub stages_read : (scope : Scope) (t : Nodes) (loaded : List Stamp) (search : Search) (keys : List (List ℕ)) (a b c d : StoreState) (e : Ending)
    → IsTree t → HaveNames (analysis_at search.files.table) → IsSearchOf scope t search → IfKnown a.held (λ held. IsSearched scope held t loaded search)
    → IfKnown a.held (λ held. keys ≡ wanted_keys scope held t loaded)
    → ReadsConf (conf_of scope) t Complete a b → ReadsBy a.held keys Complete b c → ReadsBy a.held (opened_planned loaded search t) e c d → ReadsFinding scope t loaded e a d
stages_read scope t loaded search keys a b c d e tree named is found are first next last =
    let files = same_files t search tree named is.dirs in
    let all = known_then a.held (λ held. IsSearched scope held t loaded search) (λ held. conf_lacks (conf_of scope) held t ≡ false) (λ held (s : IsSearched scope held t loaded search). s.conf.all_held) found in
    found_reads scope t loaded a c e (opened_planned loaded search t) d (none_lacks scope t loaded search a.held found) (planned_are scope t loaded search a.held found is files)
    (planned_only scope t loaded search a.held found files) (search_all scope t loaded Complete a.held keys a b c all are first next) last
