use Rattle.std.proofs.Common.{rules, ◌≡◌, Ok, Err, ap, inl, inr, refl}
use Rattle.asking_runs.specs.Faults.{of_interpreter}
use Rattle.rpath_search.specs.declared.fault.SearchFault.TheVariants as searches
use Rattle.asking_runs.specs.declared.fault.ListFault.TheVariants as faults
use Rattle.asking_runs.proofs.resolve.answer_files.Goals as goal

pub returns-in_err-needed : goal.returns-in_err-needed
returns-in_err-needed g c =
    let fault = c.in_err-needed.field-0.0 in
    let same : c.from_residual.result ≡ Err (faults.Search (of_interpreter fault)) = search rules in
    rw same (record { needed = Err fault; files = tt; missing = tt; reads = rw c.in_err-needed.was at c.needed_files.ensures.reads; answer_is = refl })

pub returns-in_err-files_for : goal.returns-in_err-files_for
returns-in_err-files_for g c =
    let same : c.from_residual-in_err-files_for.result ≡ Err (faults.Search searches.NoMemory) = search rules in
    rw same (record {
      needed = Ok c.in_ok-needed.needed;
      files = c.in_ok-needed.ensures.files;
      missing = c.in_ok-needed.ensures.missing;
      reads = rw c.in_ok-needed.was at c.needed_files.ensures.reads;
      answer_is = inr refl;
    })

pub returns : goal.returns
returns g c = record {
  needed = Ok c.in_ok-needed.needed;
  files = c.in_ok-needed.ensures.files;
  missing = c.in_ok-needed.ensures.missing;
  reads = rw c.in_ok-needed.was at c.needed_files.ensures.reads;
  answer_is = inl (ap Ok c.in_ok-files_for.ensures);
}
