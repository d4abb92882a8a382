use Rattle.std.proofs.Common.{rules, ◌≡◌, ◌<◌, length, true, false, refl, subst, sym}
use Rattle.std.proofs.lemmas.List.{length-map}
use Rattle.root_links.proofs.Lists.{within}
use Rattle.std.specs.List.{dedup}
use Rattle.std.specs.Result.{is_err}
use Rattle.std.specs.Str.{bytes_eq}
use Rattle.root_links.proofs.Settling.{dir_fails, dir_settled, next_is, next_later}
use Rattle.root_links.specs.Links.{dirs_in, dirs_of, links_in}
use Rattle.root_links.specs.Steps.{HasSettledFirst, is_last_of}
use Rattle.std.proofs.Common.{◌+◌, drop}
use Rattle.root_links.proofs.making.settle_all.Goals as goal
use Rattle.root_links.proofs.making.settle_all.Goals.{then-is_last_in+else-is_err, else-is_last_in}

pub returns-then-is_err-clause-failed : goal.returns-then-is_err-clause-failed
returns-then-is_err-clause-failed g c =
    let links = links_in c.args.links.now in
    let dirs = dirs_in links in
    let failed : is_err c.settle.result ≡ true = search rules in
    let last : is_last_of (drop c.loop-number.number dirs) ≡ true = search rules in
    let less : c.loop-number.number < length links = subst (λ n. c.loop-number.number < n) (length-map links _) (within dirs c.loop-number.number c.dir_at-dir.result.now c.dir_at-dir.ensures) in
    dir_fails (dirs_of links) c.dir_at-dir.result.now (dedup bytes_eq (drop (c.loop-number.number + 1) dirs)) (g.F.Folder.state c.args.folder.now) (g.F.Folder.state c.loop-number.folder)
    (g.F.Folder.state c.settle.new.self) (g.met.F.Folder.moments c.loop-number.folder)
    (next_is (dirs_of links) dirs c.loop-number.number c.dir_at-dir.result.now c.dir_at-dir.ensures _ _ c.loop-number.invariant last)
    links c.loop-number.number c.settle.result failed refl less c.settle.ensures.does c.settle.ensures.crash

pub loop-number-preserved : goal.loop-number-preserved
loop-number-preserved g c =
    let links = links_in c.args.links.now in
    let dirs = dirs_in links in
    let left = dedup bytes_eq (drop (c.loop-number.number + 1) dirs) in
    elim c.if-is_last_in.branch [
      | then-is_last_in+else-is_err w ↦
          let made : is_err w.settle.result ≡ false = search rules in
          let last : is_last_of (drop c.loop-number.number dirs) ≡ true = search rules in
          subst (λ f. HasSettledFirst (dirs_of links) left (g.F.Folder.state c.args.folder.now) (g.F.Folder.state f)) (sym w.folder-is)
          (dir_settled (dirs_of links) c.dir_at-dir.result.now left (g.F.Folder.state c.args.folder.now) (g.F.Folder.state c.loop-number.folder)
          (g.F.Folder.state w.settle.new.self) (g.met.F.Folder.moments c.loop-number.folder)
          (next_is (dirs_of links) dirs c.loop-number.number c.dir_at-dir.result.now c.dir_at-dir.ensures _ _ c.loop-number.invariant last)
          w.settle.result made w.settle.ensures.does w.settle.ensures.crash)
      | else-is_last_in w ↦
          let other : is_last_of (drop c.loop-number.number dirs) ≡ false = search rules in
          subst (λ f. HasSettledFirst (dirs_of links) left (g.F.Folder.state c.args.folder.now) (g.F.Folder.state f)) (sym w.folder-is)
          (next_later (dirs_of links) dirs c.loop-number.number c.dir_at-dir.result.now c.dir_at-dir.ensures _ _ c.loop-number.invariant other)
    ]
