use Rattle.std.proofs.Common.{rules, ◌≡◌, ◌+◌, subst, drop}
use Rattle.root_tree.proofs.Listing.{listing_full, listing_on, next_name}
use Rattle.root_tree.proofs.Readings.{read_ok}
use Rattle.root_tree.specs.SoFar.{IsFullAt, IsListing, seen, so_far}
use Rattle.image_tree.specs.Paths.{join}
use Rattle.tree_face.specs.Known.{IfKnown}
use Rattle.root_tree.proofs.looking.list.Goals as goal

pub returns-in_err-see-clause-too_large : goal.returns-in_err-see-clause-too_large
returns-in_err-see-clause-too_large g c = λ e first.
    let names = c.as_slice-name-items.result.now in
    let name = c.as_bytes-in-loop-name.result.now in
    let rest = drop (c.loop-name.name-index + 1) names in
    let dir : c.as_bytes.result.now ≡ c.args.dir = search rules in
    let next = next_name names c.loop-name.name-index c.name-item.result name c.loop-name-test.true c.name-item.is c.as_bytes-in-loop-name.ensures in
    let before = subst (λ left. IsListing c.args.dir names left (so_far c.args.tree.now c.args.todo.now.items) (so_far c.loop-name.tree c.loop-name.todo.items)
    (g.F.Folder.state c.args.folder.now) (g.F.Folder.state c.loop-name.folder)) next c.loop-name.invariant in
    let full = c.in_err-see.ensures.full (search (rules, e)) in
    listing_full c.args.dir names name rest (so_far c.args.tree.now c.args.todo.now.items) (so_far c.loop-name.tree c.loop-name.todo.items)
    (g.F.Folder.state c.args.folder.now) (g.F.Folder.state c.loop-name.folder) (g.met.F.Folder.whole c.args.folder.now) c.see.ensures.is_tree before
    (subst (λ d. IfKnown (g.F.Folder.state c.loop-name.folder).contents (λ k. IsFullAt k.now c.loop-name.tree (join d name))) dir full) first

pub loop-name-preserved : goal.loop-name-preserved
loop-name-preserved g c =
    let names = c.as_slice-name-items.result.now in
    let name = c.as_bytes-in-loop-name.result.now in
    let rest = drop (c.loop-name.name-index + 1) names in
    let dir : c.as_bytes.result.now ≡ c.args.dir = search rules in
    let next = next_name names c.loop-name.name-index c.name-item.result name c.loop-name-test.true c.name-item.is c.as_bytes-in-loop-name.ensures in
    let before = subst (λ left. IsListing c.args.dir names left (so_far c.args.tree.now c.args.todo.now.items) (so_far c.loop-name.tree c.loop-name.todo.items)
    (g.F.Folder.state c.args.folder.now) (g.F.Folder.state c.loop-name.folder)) next c.loop-name.invariant in
    listing_on c.args.dir names name rest (so_far c.args.tree.now c.args.todo.now.items) (so_far c.loop-name.tree c.loop-name.todo.items)
    (g.F.Folder.state c.args.folder.now) (g.F.Folder.state c.loop-name.folder) (g.met.F.Folder.whole c.args.folder.now) c.see.ensures.is_tree before
    (so_far c.see.new.tree c.see.new.todo.items) (g.F.Folder.state c.see.new.folder)
    (subst (λ d. IfKnown (g.F.Folder.state c.loop-name.folder).contents
    (λ k. so_far c.see.new.tree c.see.new.todo.items ≡ seen k.now d (so_far c.loop-name.tree c.loop-name.todo.items) name)) dir c.in_ok-see.ensures.seen)
    c.in_ok-see.ensures.grows c.see.ensures.lists (read_ok c.in_ok-see.field-0 (g.F.Folder.state c.loop-name.folder) (g.F.Folder.state c.see.new.folder) c.in_ok-see.ensures.reads)
