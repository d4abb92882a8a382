use Rattle.std.proofs.Common.{◌≡◌, List}
use Rattle.rpath_search.specs.declared.kinds.Owner.{Owner}
use Rattle.tree_face.specs.StoreUse.{Complete}
use Rattle.ldd_resolve.specs.Loading.{Grows, IsSound}
use Rattle.ldd_resolve.specs.Requests.{Answers}
use Rattle.ldd_resolve.proofs.requests.answer_names.Given as goal

-- the requests so far are answered
abbrev pub invariant-loop-name : goal.invariant-loop-name
invariant-loop-name g l = record {
  held : (g.S.Store.state l.store).held ≡ (g.S.Store.state l.fn.store).held;
  sound : IsSound (g.S.Store.state l.fn.store).held l.given.tree.now l.given.env.now.abi l.loading;
  grows : Grows l.fn.loading l.loading;
  answers : (chain : List Owner) → Answers (g.S.Store.state l.fn.store).held l.given l.number chain l.fn.needed l.name-iterator.rest.items Complete l.fn.loading l.loading
      (g.S.Store.state l.fn.store) (g.S.Store.state l.store);
}
