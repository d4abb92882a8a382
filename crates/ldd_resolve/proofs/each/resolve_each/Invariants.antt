use Rattle.std.proofs.Common.{◌≡◌, ◌++◌, List}
use Rattle.std.specs.Option.{option_copied}
use Rattle.rpath_search.specs.declared.fault.SearchFault.{SearchFault}
use Rattle.tree_face.specs.Store.{StoreState}
use Rattle.ldd_resolve.specs.Each.{AreResolved, IsStopped, ResolvesOne}
use Rattle.ldd_resolve.specs.declared.kinds.ProgramScope.{ProgramScope}
use Rattle.ldd_resolve.proofs.each.resolve_each.Given as goal

-- the scopes so far and those of the other paths are the scopes of all paths
abbrev pub invariant-loop-path : goal.invariant-loop-path
invariant-loop-path g l = record {
  held : (g.S.Store.state l.store).held ≡ (g.S.Store.state l.fn.store).held;
  listed : (ls : List ProgramScope) (new : StoreState) → AreResolved (ResolvesOne (g.S.Store.state l.fn.store).held l.tree (option_copied l.cache) l.env) l.path-iterator.rest.items ls (g.S.Store.state l.store) new
      → AreResolved (ResolvesOne (g.S.Store.state l.fn.store).held l.tree (option_copied l.cache) l.env) l.fn.paths (l.scopes ++ ls) (g.S.Store.state l.fn.store) new;
  stopped : (fault : SearchFault) (new : StoreState) → IsStopped (ResolvesOne (g.S.Store.state l.fn.store).held l.tree (option_copied l.cache) l.env) fault l.path-iterator.rest.items (g.S.Store.state l.store) new
      → IsStopped (ResolvesOne (g.S.Store.state l.fn.store).held l.tree (option_copied l.cache) l.env) fault l.fn.paths (g.S.Store.state l.fn.store) new;
}
