use Rattle.std.proofs.Common.{◌≡◌, ◌∙◌, ◌||◌, ap, refl, rules}
use Rattle.std.specs.Str.{bytes_eq}
use Rattle.rpath_search.specs.Searching.{is_among}
use Rattle.ldd_resolve.proofs.MatchesKept.{among_inserted, on_ok}
use Rattle.ldd_resolve.proofs.loading.Loading.add_name.Goals as goal

pub returns : goal.returns
returns c =
    let copy : c.in_ok-copy_of.field-0 ≡ c.args.name = search rules in
    on_ok c.add_name_at.result (λ named. record {
      found = c.in_ok-push.ensures.done;
      names = λ x.
          ap (λ l. is_among l x) c.in_ok-insert.ensures.done
          ∙ among_inserted c.args.self.now.names c.in_ok-copy_of.field-0 x
          ∙ ap (λ n. is_among c.args.self.now.names x || bytes_eq x n) copy;
      members = named;
      loaders = refl;
      places = refl;
      missing = refl;
      items = refl;
      replies = refl;
      pending = refl;
    }) c.add_name_at.ensures
