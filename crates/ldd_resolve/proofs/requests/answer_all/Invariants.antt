use Rattle.std.proofs.Common.{◌≡◌, ◌-◌, length}
use Rattle.tree_face.specs.StoreUse.{Complete}
use Rattle.ldd_resolve.specs.Loading.{IsSound}
use Rattle.ldd_resolve.specs.Requests.{AnswersObjects, IsEven}
use Rattle.ldd_resolve.proofs.requests.answer_all.Given as goal

-- the requests of the objects so far are answered
abbrev pub invariant-loop-needed : goal.invariant-loop-needed
invariant-loop-needed g l = record {
  held : (g.S.Store.state l.store).held ≡ (g.S.Store.state l.fn.store).held;
  sound : IsSound (g.S.Store.state l.fn.store).held l.given.tree.now l.given.env.now.abi l.loading;
  even : IsEven l.loading l.number;
  answers : AnswersObjects (g.S.Store.state l.fn.store).held l.given 0 l.number Complete l.fn.loading l.loading
      (g.S.Store.state l.fn.store) (g.S.Store.state l.store);
}

-- each object is a different file of the tree, so their number is bounded
abbrev pub decreases-loop-needed : goal.decreases-loop-needed
decreases-loop-needed g l = length l.given.tree.now - l.number
