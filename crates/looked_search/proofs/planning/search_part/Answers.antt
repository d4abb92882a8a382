use Rattle.std.proofs.Common.{rules, ◌≡◌, inl, inr, Err, sym, subst}
use Rattle.std.specs.Bool.{IsTrue}
use Rattle.hwcap_dirs.specs.Places.{are_dirs, are_spelled}
use Rattle.hwcap_dirs.specs.declared.kinds.Dirs.{Dirs}
use Rattle.looked_search.specs.Opened.{OpensPart}
use Rattle.library_search.specs.declared.finding.Found.{Found}
use Rattle.library_search.specs.declared.search.Search.{Search}
use Rattle.looked_search.proofs.planning.search_part.Goals as goal
use Rattle.library_search.proofs.Opened.{same_ending}

pub returns-clause-searches : goal.returns-clause-searches
returns-clause-searches g c =
    let searched = c.in_ok-search.ensures in
    let planned = c.in_ok-found.ensures in
    record {
      search = c.in_ok-search.search;
      conf_is = searched.conf;
      places_are = searched.places;
      absent_is = searched.absent;
      of = searched.looked;
      is_part = c.know.ensures;
      named = c.know-3.ensures;
      read = searched.read;
      planned = planned.planned;
      followed = rw searched.reads.held at planned.followed;
      is_tree = planned.is_tree;
      spelled = subst (λ (d : Dirs). IsTrue (are_spelled d.places)) (sym planned.planned.dirs) searched.spelled;
    }

pub returns-clause-dirs : goal.returns-clause-dirs
returns-clause-dirs g c =
    let planned = c.in_ok-found.ensures.planned in
    subst (λ (d : Dirs). IsTrue (are_dirs c.plan_found.new.tree d.places)) (sym planned.dirs) planned.settled.dirs

pub returns-in_err-search-clause-opens : goal.returns-in_err-search-clause-opens
returns-in_err-search-clause-opens g c =
    let same : c.from_residual.result ≡ Err c.in_err-search.field-0.0 = search rules in
    rw same
    (inl (record {
      tree = c.know.ensures;
      others = c.in_err-search.ensures.others;
      reads = rw (same_ending (Unit {0}) Search c.in_err-search.field-0.0) (rw c.in_err-search.was at c.search_places.ensures.reads);
    }))

pub returns-in_err-found-clause-opens : goal.returns-in_err-found-clause-opens
returns-in_err-found-clause-opens g c =
    let searched = c.in_ok-search.ensures in
    let same : c.from_residual-in_err-found.result ≡ Err c.in_err-found.field-0.0 = search rules in
    rw same
    (inr (record {
      search = c.in_ok-search.search;
      is = record {
        conf_is = searched.conf;
        places_are = searched.places;
        absent_is = searched.absent;
        tree = c.know.ensures;
        of = searched.looked;
        named = c.know-2.ensures;
        read = searched.read;
      };
      middle = g.S.Store.state c.search_places.new.store;
      first = searched.reads;
      next = rw (same_ending (Unit {0}) Found c.in_err-found.field-0.0) (rw c.in_err-found.was at c.plan_found.ensures.reads);
    }))

pub returns-in_err-found-clause-too_large : goal.returns-in_err-found-clause-too_large
returns-in_err-found-clause-too_large g c nodes is =
    let searched = c.in_ok-search.ensures in
    let large = c.in_err-found.ensures.too_large nodes (search rules) in
    record {
      search = c.in_ok-search.search;
      is = record {
        conf_is = searched.conf;
        places_are = searched.places;
        absent_is = searched.absent;
        tree = c.know.ensures;
        of = searched.looked;
        named = c.know-2.ensures;
        read = searched.read;
      };
      nodes_are = large.0;
      many = large.1;
    }

pub returns-clause-opens : goal.returns-clause-opens
returns-clause-opens g c =
    let searched = c.in_ok-search.ensures in
    record {
      search = c.in_ok-search.search;
      is = record {
        conf_is = searched.conf;
        places_are = searched.places;
        absent_is = searched.absent;
        tree = c.know.ensures;
        of = searched.looked;
        named = c.know-2.ensures;
        read = searched.read;
      };
      middle = g.S.Store.state c.search_places.new.store;
      first = searched.reads;
      next = c.in_ok-found.ensures.reads;
    }
