-- The record of a listing, request by request.
use Rattle.std.proofs.Common.{◌≡◌, ◌+◌, ℕ, zero, suc, false, true, List, ◌∷◌, refl, sym, ap, ◌∙◌, arith}
use Rattle.std.specs.List.{list_any}
use Rattle.ldd_resolve.specs.Listing.{Record, Request, Inputs, is_called, left, paths_of, record_after, replied, with_answer, with_next, with_search}
use Rattle.ldd_resolve.specs.declared.kinds.Reply.TheVariants.{Known}

module _ (w : Inputs) (r : Record) where
  -- no request
  pub record_none : record_after w r 0 ≡ r
  unfolding record_after
  record_none = refl

  module _ (q : Request) (rest : List Request) (next : left r ≡ q ∷ rest) where
    -- one request
    pub record_one : record_after w r 1 ≡ with_answer w (record r { answered = r.answered + 1 }) q
    unfolding record_after
    record_one = ap (with_next w r) next

    -- a request for the name of an existing object
    pub record_known : list_any (is_called q.name) r.objects ≡ true → record_after w r 1 ≡ replied (record r { answered = r.answered + 1 }) Known
    record_known known = record_one ∙ rw known refl

    -- a request for a name that is searched
    pub record_searched : list_any (is_called q.name) r.objects ≡ false → record_after w r 1 ≡ with_search w (record r { answered = r.answered + 1 }) q (paths_of w q)
    record_searched unknown = record_one ∙ rw unknown refl

  -- a number of requests and then further ones
  pub record_more : (n m : ℕ) → record_after w (record_after w r n) m ≡ record_after w r (m + n)
  unfolding record_after
  record_more n zero = let e : n ≡ 0 + n = omega arith in ap (record_after w r) e
  record_more n (suc m) =
      let e : suc m + n ≡ suc (m + n) = omega arith in
      ap (λ (x : Record). with_next w x (left x)) (record_more n m) ∙ sym (ap (record_after w r) e)
