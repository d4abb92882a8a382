use Rattle.std.proofs.Common.{rules, ◌≡◌, ◌∙◌, if◌then◌else◌, map, Some, None, Ok, Err, ap}
use Rattle.ldconfig_core.specs.declared.fault.UpdateFault.TheVariants as updating
use Rattle.root_links.specs.Links.{links_in}
use Rattle.root_update.proofs.Made.{out_of_memory}
use Rattle.root_update.proofs.Repair.{repairs_root}
use Rattle.root_update.proofs.Written.{leaves_planned, writes_made}
use Rattle.root_update.specs.Update.{aux_for, linking}
use Rattle.root_update.specs.declared.fault.RootFault.TheVariants as faults
use Rattle.root_update.proofs.updating.update_root.Goals as goal

pub returns-in_err-links-clause-updates : goal.returns-in_err-links-clause-updates
returns-in_err-links-clause-updates g c =
    let same : c.from_residual-in_err-links.result ≡ Err (faults.Update updating.NoMemory) = search rules in
    let made = c.in_ok-prepared.ensures.prepares in
    rw same (out_of_memory _ _ made.0 _ _ _ _ made.1.0)

pub returns-in-Ok-clause-updates : goal.returns-in-Ok-clause-updates
returns-in-Ok-clause-updates g c =
    let made = c.in_ok-prepared.ensures.prepares in
    writes_made c.args.parts.now c.args.tag (Ok tt) (Some _) _ _ _ _ made.0 _ _ _ _ _ made.1.0
    (ap links_in c.as_slice-2.ensures.value ∙ c.in_ok-links.ensures.links ∙ ap (map linking) (c.as_slice.ensures ∙ c.asked_links-plan.ensures.links))
    (c.cache_for.ensures ∙ ap (λ b. if c.args.parts.now.cache then Some b else None) c.as_slice-3.ensures.value)
    (c.aux_for.ensures ∙ ap (aux_for c.args.parts.now.aux) c.as_slice-4.ensures.value)
    c.in-Ok.ensures.writes c.in-Ok.ensures.order (record { report = made.1.1.0; links = c.asked_links-plan.ensures.links; looked = made.1.1.1 })

pub returns-in-Ok-clause-planned : goal.returns-in-Ok-clause-planned
returns-in-Ok-clause-planned g c =
    let made = c.in_ok-prepared.ensures.prepares in
    leaves_planned c.args.parts.now c.args.tag None _ _ (writes_made c.args.parts.now c.args.tag (Ok tt) None _ _ _ _ made.0 _ _ _ _ _ made.1.0
    (ap links_in c.as_slice-2.ensures.value ∙ c.in_ok-links.ensures.links ∙ ap (map linking) (c.as_slice.ensures ∙ c.asked_links-plan.ensures.links))
    (c.cache_for.ensures ∙ ap (λ b. if c.args.parts.now.cache then Some b else None) c.as_slice-3.ensures.value)
    (c.aux_for.ensures ∙ ap (aux_for c.args.parts.now.aux) c.as_slice-4.ensures.value)
    c.in-Ok.ensures.writes c.in-Ok.ensures.order tt)

pub returns-in-Err-clause-updates : goal.returns-in-Err-clause-updates
returns-in-Err-clause-updates g c =
    let made = c.in_ok-prepared.ensures.prepares in
    writes_made c.args.parts.now c.args.tag (Err c.in-Err.fault) None _ _ _ _ made.0 _ _ _ _ _ made.1.0
    (ap links_in c.as_slice-2.ensures.value ∙ c.in_ok-links.ensures.links ∙ ap (map linking) (c.as_slice.ensures ∙ c.asked_links-plan.ensures.links))
    (c.cache_for.ensures ∙ ap (λ b. if c.args.parts.now.cache then Some b else None) c.as_slice-3.ensures.value)
    (c.aux_for.ensures ∙ ap (aux_for c.args.parts.now.aux) c.as_slice-4.ensures.value)
    c.in-Err.ensures.writes c.in-Err.ensures.order tt

pub returns-in-Ok-clause-repairs : goal.returns-in-Ok-clause-repairs
returns-in-Ok-clause-repairs g c =
    let made = c.in_ok-prepared.ensures.prepares in
    repairs_root c.args.parts.now c.args.tag (Ok tt) None _ _ (writes_made c.args.parts.now c.args.tag (Ok tt) None _ _ _ _ made.0 _ _ _ _ _ made.1.0
    (ap links_in c.as_slice-2.ensures.value ∙ c.in_ok-links.ensures.links ∙ ap (map linking) (c.as_slice.ensures ∙ c.asked_links-plan.ensures.links))
    (c.cache_for.ensures ∙ ap (λ b. if c.args.parts.now.cache then Some b else None) c.as_slice-3.ensures.value)
    (c.aux_for.ensures ∙ ap (aux_for c.args.parts.now.aux) c.as_slice-4.ensures.value)
    c.in-Ok.ensures.writes c.in-Ok.ensures.order tt) (g.met.F.Folder.moments c.args.folder.now) (g.met.F.Folder.whole c.args.folder.now) (g.met.F.Folder.whole c.write_root-written.new.folder)

pub returns-in-Err-clause-repairs : goal.returns-in-Err-clause-repairs
returns-in-Err-clause-repairs g c =
    let made = c.in_ok-prepared.ensures.prepares in
    repairs_root c.args.parts.now c.args.tag (Err c.in-Err.fault) None _ _ (writes_made c.args.parts.now c.args.tag (Err c.in-Err.fault) None _ _ _ _ made.0 _ _ _ _ _ made.1.0
    (ap links_in c.as_slice-2.ensures.value ∙ c.in_ok-links.ensures.links ∙ ap (map linking) (c.as_slice.ensures ∙ c.asked_links-plan.ensures.links))
    (c.cache_for.ensures ∙ ap (λ b. if c.args.parts.now.cache then Some b else None) c.as_slice-3.ensures.value)
    (c.aux_for.ensures ∙ ap (aux_for c.args.parts.now.aux) c.as_slice-4.ensures.value)
    c.in-Err.ensures.writes c.in-Err.ensures.order tt) (g.met.F.Folder.moments c.args.folder.now) (g.met.F.Folder.whole c.args.folder.now) (g.met.F.Folder.whole c.write_root-written.new.folder)
