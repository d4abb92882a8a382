use Rattle.std.proofs.Common.{rules, ◌≡◌, Err, length, sym}
use Rattle.std.proofs.lemmas.List.{length-map}
use Rattle.root_links.proofs.Made.{all_made, links_fail, some_made}
use Rattle.root_links.proofs.Results.{if_err_by}
use Rattle.root_links.specs.Links.{links_in}
use Rattle.root_links.proofs.making.make_links.Goals as goal
use Rattle.lib_types.proofs.Results.{on_ok_by}

pub returns-in_err-link_all-clause-failed : goal.returns-in_err-link_all-clause-failed
returns-in_err-link_all-clause-failed g c =
    let fault = c.in_err-link_all.field-0.0 in
    let same : c.from_residual.result ≡ Err fault = search rules in
    rw same (links_fail c.args.tag (links_in c.args.links.now) (g.F.Folder.state c.args.folder.now) (g.F.Folder.state c.link_all.new.folder) fault c.in_err-link_all.ensures.failed)

pub returns-clause-done : goal.returns-clause-done
returns-clause-done g c =
    let links = links_in c.args.links.now in
    on_ok_by _ _ c.settle_all.result
    (λ settled. all_made c.args.tag links (length c.args.links.now) (sym (length-map c.args.links.now _)) (g.F.Folder.state c.args.folder.now) (g.F.Folder.state c.link_all.new.folder) (g.F.Folder.state c.settle_all.new.folder)
    c.in_ok-link_all.ensures.done settled) c.settle_all.ensures.done

pub returns-clause-failed : goal.returns-clause-failed
returns-clause-failed g c =
    let links = links_in c.args.links.now in
    if_err_by _ _ c.settle_all.result
    (λ fault fails. some_made c.args.tag links (length c.args.links.now) (sym (length-map c.args.links.now _)) (g.F.Folder.state c.args.folder.now) (g.F.Folder.state c.link_all.new.folder) (g.F.Folder.state c.settle_all.new.folder)
    c.in_ok-link_all.ensures.done fault fails) c.settle_all.ensures.failed
