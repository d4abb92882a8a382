use Rattle.std.proofs.Common.{◌≡◌, rules, [], Err}
use Rattle.std.proofs.lemmas.List.{nil_from_length}
use Rattle.elf_dynamic.specs.declared.fault.AnalyseFault.{AnalyseFault}
use Rattle.elf_dynamic.specs.declared.fault.AnalyseFault.TheVariants.{StoreFault, NoMemory}
use Rattle.elf_dynamic.specs.Faults.{analyse_ending}
use Rattle.library_files.specs.FoundFile.{paths_of}
use Rattle.tree_face.proofs.StoreUse.{IsPartial}
use Rattle.file_stamps.proofs.ReadOn.{all_begun, all_few, all_ids, all_most, all_opens, all_reads, all_rows, all_info, all_stamped, all_stamps, most_last, none_lacking, none_read, read_last, read_on}
use Rattle.file_stamps.specs.Reading.{HasRead}
use Rattle.file_stamps.proofs.files.read_files.Goals.{In-None}
use Rattle.file_stamps.proofs.files.read_files.Goals as goal

is_partial : (fault : AnalyseFault) → IsPartial (analyse_ending {X = Unit {0}} (Err fault))
is_partial StoreFault = tt
is_partial NoMemory = tt

pub loop-file-init : goal.loop-file-init
loop-file-init g c =
    let left : c.into_iter-file-iterator.result.rest.items ≡ c.args.found.items = search rules in
    rw left (record {
      rest = c.requires.files;
      read = none_read c.args.tree.now c.args.loaded.now _ (paths_of c.args.found.items) c.args.files.now (g.S.Store.state c.args.store.now) c.requires.sorted;
    })

pub returns-in_err-read_file-clause-reads : goal.returns-in_err-read_file-clause-reads
returns-in_err-read_file-clause-reads g c =
    let failed : c.read_file.result ≡ Err c.in_err-read_file.field-0.0 = c.in_err-read_file.was in
    let same : c.from_residual.result ≡ Err c.in_err-read_file.field-0.0 = search rules in
    rw same (read_last c.args.tree.now c.args.loaded.now _ (paths_of c.args.found.items) c.args.files.now c.loop-file.files _ _ c.in-Some.file.path _ (rw c.in-Some.ensures.steps.0 at c.loop-file.invariant.read) c.requires.sorted (analyse_ending {X = Unit {0}} (Err c.in_err-read_file.field-0.0)) _
    (is_partial c.in_err-read_file.field-0.0)
    (rw (c.loop-file.invariant.read.reads.held, failed) at c.read_file.ensures.reads))

pub returns-in_err-read_file-clause-most : goal.returns-in_err-read_file-clause-most
returns-in_err-read_file-clause-most g c =
    let failed : c.read_file.result ≡ Err c.in_err-read_file.field-0.0 = c.in_err-read_file.was in
    most_last c.args.tree.now c.args.loaded.now _ (paths_of c.args.found.items) c.args.files.now c.loop-file.files _ _ c.in-Some.file.path _ (rw c.in-Some.ensures.steps.0 at c.loop-file.invariant.read) c.requires.sorted (analyse_ending {X = Unit {0}} (Err c.in_err-read_file.field-0.0)) _
    (is_partial c.in_err-read_file.field-0.0)
    (rw (c.loop-file.invariant.read.reads.held, failed) at c.read_file.ensures.reads)

pub loop-file-preserved : goal.loop-file-preserved
loop-file-preserved g c = record {
  rest = (rw c.in-Some.ensures.steps.0 at c.loop-file.invariant.rest).1;
  read = read_on c.args.tree.now c.args.loaded.now _ (paths_of c.args.found.items) c.args.files.now c.loop-file.files _ _ c.in-Some.file.path _ (rw c.in-Some.ensures.steps.0 at c.loop-file.invariant.read) c.read_file.new.files _
      (rw c.loop-file.invariant.read.reads.held at c.in_ok-read_file.ensures.one)
      (rw c.loop-file.invariant.read.reads.held at c.in_ok-read_file.ensures.reads);
}

-- all files were read
all_read : (g : _) (c : In-None g) → HasRead c.args.tree.now c.args.loaded.now (g.S.Store.state c.args.store.now).held (paths_of c.args.found.items) [] c.args.files.now c.loop-file.files
    (g.S.Store.state c.args.store.now) (g.S.Store.state c.loop-file.store)
all_read g c =
    let left : c.loop-file.file-iterator.rest.items ≡ [] = nil_from_length _ (search rules) in
    rw left at c.loop-file.invariant.read

pub returns-clause-begun : goal.returns-clause-begun
returns-clause-begun g c = all_begun _ _ _ _ c.requires.sorted _ _ _ _ (all_read g (goal.at.returns-clause-begun g c).In-None)

pub returns-clause-ids : goal.returns-clause-ids
returns-clause-ids g c = all_ids _ _ _ _ c.requires.sorted _ _ _ _ (all_read g (goal.at.returns-clause-ids g c).In-None)

pub returns-clause-opens : goal.returns-clause-opens
returns-clause-opens g c = all_opens _ _ _ _ c.requires.sorted _ _ _ _ (all_read g (goal.at.returns-clause-opens g c).In-None)

pub returns-clause-none_lacks : goal.returns-clause-none_lacks
returns-clause-none_lacks g c = none_lacking _ _ _ _ c.requires.sorted _ _ _ _ (all_read g (goal.at.returns-clause-none_lacks g c).In-None)

pub returns-clause-reads : goal.returns-clause-reads
returns-clause-reads g c = all_reads _ _ _ _ c.requires.sorted _ _ _ _ (all_read g (goal.at.returns-clause-reads g c).In-None)

pub returns-clause-few : goal.returns-clause-few
returns-clause-few g c = all_few _ _ _ _ c.requires.sorted _ _ _ _ (all_read g (goal.at.returns-clause-few g c).In-None)

pub returns-clause-most : goal.returns-clause-most
returns-clause-most g c = all_most _ _ _ _ c.requires.sorted _ _ _ _ (all_read g (goal.at.returns-clause-most g c).In-None)

pub returns-clause-info : goal.returns-clause-info
returns-clause-info g c = all_info _ _ _ _ c.requires.sorted _ _ _ _ (all_read g (goal.at.returns-clause-info g c).In-None)

pub returns-clause-stamps : goal.returns-clause-stamps
returns-clause-stamps g c = all_stamps _ _ _ _ c.requires.sorted _ _ _ _ (all_read g (goal.at.returns-clause-stamps g c).In-None)

pub returns-clause-stamped : goal.returns-clause-stamped
returns-clause-stamped g c = all_stamped _ _ _ _ c.requires.sorted _ _ _ _ (all_read g (goal.at.returns-clause-stamped g c).In-None)

pub returns-clause-rows : goal.returns-clause-rows
returns-clause-rows g c = all_rows _ _ _ _ c.requires.sorted _ _ _ _ (all_read g (goal.at.returns-clause-rows g c).In-None)
