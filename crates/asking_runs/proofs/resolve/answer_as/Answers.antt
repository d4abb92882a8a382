use Rattle.std.proofs.Common.{rules, ◌≡◌, Ok, Err, ap, inl, inr, refl}
use Rattle.rpath_search.specs.declared.fault.SearchFault.TheVariants as searches
use Rattle.asking_runs.specs.declared.fault.ListFault.TheVariants as faults
use Rattle.asking_runs.proofs.resolve.answer_as.Goals as goal

pub returns-in_err-listings_for-in-Listing : goal.returns-in_err-listings_for-in-Listing
returns-in_err-listings_for-in-Listing g c =
    let same : c.from_residual.result ≡ Err (faults.Search searches.NoMemory) = search rules in
    rw (same, c.in-Listing.is) (inr refl, refl)

pub returns-in_ok-listings_for-in-Listing : goal.returns-in_ok-listings_for-in-Listing
returns-in_ok-listings_for-in-Listing g c = rw c.in-Listing.is (inl (ap Ok c.in_ok-listings_for-in-Listing.ensures), refl)
