use Rattle.std.proofs.Common.{rules, ◌≡◌, true, false}
use Rattle.std.specs.Result.{is_err}
use Rattle.root_links.proofs.Lists.{valid_at}
use Rattle.root_links.proofs.Step.{link_failed, link_made}
use Rattle.root_links.specs.Links.{link_of, links_in}
use Rattle.root_links.proofs.making.link_all.Goals as goal

pub link-requires-clause-path : goal.link-requires-clause-path
link-requires-clause-path g c = (valid_at (links_in c.args.links.now) c.loop-number.number (link_of c.link_at-link.result) c.link_at-link.ensures c.requires.valid).0

pub link-requires-clause-target : goal.link-requires-clause-target
link-requires-clause-target g c = (valid_at (links_in c.args.links.now) c.loop-number.number (link_of c.link_at-link.result) c.link_at-link.ensures c.requires.valid).1

pub returns-then-is_err-clause-failed : goal.returns-then-is_err-clause-failed
returns-then-is_err-clause-failed g c =
    let failed : is_err c.link.result ≡ true = search rules in
    link_failed c.args.tag (links_in c.args.links.now) c.loop-number.number (link_of c.link_at-link.result) c.link_at-link.ensures (g.F.Folder.state c.args.folder.now)
    (g.F.Folder.state c.loop-number.folder) (g.F.Folder.state c.link.new.self) c.loop-number.invariant c.link.result failed c.link.ensures.does c.link.ensures.crash

pub loop-number-preserved : goal.loop-number-preserved
loop-number-preserved g c =
    let made : is_err c.link.result ≡ false = search rules in
    link_made c.args.tag (links_in c.args.links.now) c.loop-number.number (link_of c.link_at-link.result) c.link_at-link.ensures (g.F.Folder.state c.args.folder.now)
    (g.F.Folder.state c.loop-number.folder) (g.F.Folder.state c.link.new.self) c.loop-number.invariant c.link.result made c.link.ensures.does c.link.ensures.crash
