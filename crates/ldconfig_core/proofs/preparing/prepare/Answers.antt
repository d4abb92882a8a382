use Rattle.std.proofs.Common.{rules, ◌≡◌, ℕ, Bool, List, Option, Err, ap, subst, sym}
use Rattle.std.specs.Bool.{IsTrue}
use Rattle.ldconfig_core.proofs.PreparedTexts.{finding_answers, finding_ends, looked_is, making_answers, making_ends, plan_is, settled_by, update_texts, updated_is, writes_is}
use Rattle.library_search.specs.declared.finding.Found.{Found}
use Rattle.ldconfig_core.specs.declared.preparing.Prepared.{Prepared}
use Rattle.ldconfig_core.specs.Faults.{of_finding}
use Rattle.aux_cache.specs.declared.stamps.Stamp.{Stamp}
use Rattle.image_tree.specs.Tree.{Nodes}
use Rattle.image_session.specs.Session.{Loaded}
use Rattle.ldconfig_core.specs.Outcome.{update_outcome}
use Rattle.ldconfig_core.specs.Update.{IsAnswer}
use Rattle.soname_links.specs.Apply.{is_plan}
use Rattle.link_plan.specs.declared.kinds.Planned.{Planned}
use Rattle.tree_face.specs.Known.{IfKnown}
use Rattle.tree_face.specs.Store.{StoreState}
use Rattle.ldconfig_core.proofs.preparing.prepare.Goals as goal

-- the image with these parts
abbrev image_of : Nodes → List Stamp → Bool → Option ℕ → Loaded
image_of tree stamps edited damaged = record { tree = tree; stamps = stamps; edited = edited; damaged = damaged }

pub returns-in_err-found-clause-answers : goal.returns-in_err-found-clause-answers
returns-in_err-found-clause-answers g c =
    let image : Loaded = image_of c.image.inside.tree c.image.inside.stamps c.image.inside.edited c.image.inside.damaged in
    let same : c.from_residual.result ≡ Err (of_finding c.in_err-found.field-0.0) = search rules in
    rw (same, ← c.image.view_is)
    (finding_answers c.args.scope.now Prepared image _ _ Found c.in_err-found.field-0.0 (λ nodes e. c.in_err-found.ensures.too_large nodes (ap Err e))
    (rw c.in_err-found.was at c.find.ensures.reads))

pub returns-in_err-found-clause-reads : goal.returns-in_err-found-clause-reads
returns-in_err-found-clause-reads g c =
    let image : Loaded = image_of c.image.inside.tree c.image.inside.stamps c.image.inside.edited c.image.inside.damaged in
    let same : c.from_residual.result ≡ Err (of_finding c.in_err-found.field-0.0) = search rules in
    rw (same, ← c.image.view_is)
    (finding_ends c.args.scope.now Prepared image _ _ Found c.in_err-found.field-0.0 (rw c.in_err-found.was at c.find.ensures.reads))

pub returns-in_err-prepared-clause-answers : goal.returns-in_err-prepared-clause-answers
returns-in_err-prepared-clause-answers g c =
    let image : Loaded = image_of c.image.inside.tree c.image.inside.stamps c.image.inside.edited c.image.inside.damaged in
    let store : StoreState = g.S.Store.state c.args.store.now in
    let after : StoreState = g.S.Store.state c.find.new.store in
    let same : c.from_residual-in_err-prepared.result ≡ Err c.in_err-prepared.field-0.0 = search rules in
    rw same
    (subst (λ (s : Loaded). IfKnown store.held (λ held. IsAnswer {A = Prepared} (update_outcome c.args.scope.now held s) (Err c.in_err-prepared.field-0.0) store after)) c.image.view_is
    (making_answers c.args.scope.now image c.in_ok-found.found c.find.new.tree c.in_ok-found.ensures.alike store.held c.in_ok-found.ensures.found Prepared store after c.in_err-prepared.field-0.0
    c.in_err-prepared.ensures.others (λ nodes bytes e. c.in_err-prepared.ensures.too_large nodes bytes (ap Err e)) (λ count e. c.in_err-prepared.ensures.too_many count (ap Err e))))

pub returns-in_err-prepared-clause-reads : goal.returns-in_err-prepared-clause-reads
returns-in_err-prepared-clause-reads g c =
    let image : Loaded = image_of c.image.inside.tree c.image.inside.stamps c.image.inside.edited c.image.inside.damaged in
    let same : c.from_residual-in_err-prepared.result ≡ Err c.in_err-prepared.field-0.0 = search rules in
    rw (same, ← c.image.view_is)
    (making_ends c.args.scope.now Prepared image _ _ c.in_err-prepared.field-0.0 c.in_err-prepared.ensures.others c.in_ok-found.ensures.reads)

pub returns-clause-plan : goal.returns-clause-plan
returns-clause-plan g c =
    let image : Loaded = image_of c.image.inside.tree c.image.inside.stamps c.image.inside.edited c.image.inside.damaged in
    rw (← c.image.view_is)
    (plan_is c.args.scope.now image c.in_ok-found.found c.find.new.tree c.in_ok-found.ensures.alike _ c.in_ok-found.ensures.found c.in_ok-prepared.prepared c.in_ok-prepared.ensures.made)

pub returns-clause-valid : goal.returns-clause-valid
returns-clause-valid g c =
    subst (λ (plan : List Planned). IsTrue (is_plan plan)) (sym c.in_ok-prepared.ensures.made.plan) c.in_ok-found.ensures.valid

pub returns-clause-looked : goal.returns-clause-looked
returns-clause-looked g c =
    let image : Loaded = image_of c.image.inside.tree c.image.inside.stamps c.image.inside.edited c.image.inside.damaged in
    rw (← c.image.view_is)
    (looked_is c.args.scope.now image c.in_ok-found.found c.find.new.tree c.in_ok-found.ensures.alike _ c.in_ok-found.ensures.found c.in_ok-prepared.prepared c.in_ok-prepared.ensures.made
    c.in_ok-found.ensures.bests)

pub returns-clause-updated : goal.returns-clause-updated
returns-clause-updated g c =
    let image : Loaded = image_of c.image.inside.tree c.image.inside.stamps c.image.inside.edited c.image.inside.damaged in
    rw (← c.image.view_is)
    (updated_is c.args.scope.now image c.in_ok-found.found c.find.new.tree c.in_ok-found.ensures.alike _ c.in_ok-found.ensures.found c.in_ok-prepared.prepared c.in_ok-prepared.ensures.made
    (settled_by c.args.scope.now image c.in_ok-found.found c.find.new.tree c.in_ok-found.ensures.alike _ c.in_ok-found.ensures.found c.in_ok-found.ensures.is_tree c.in_ok-found.ensures.settled))

pub returns-clause-texts : goal.returns-clause-texts
returns-clause-texts g c =
    let image : Loaded = image_of c.image.inside.tree c.image.inside.stamps c.image.inside.edited c.image.inside.damaged in
    rw (← c.image.view_is)
    (update_texts c.args.scope.now image c.in_ok-found.found c.find.new.tree c.in_ok-found.ensures.alike _ c.in_ok-found.ensures.found c.in_ok-prepared.prepared c.in_ok-prepared.ensures.made
    (settled_by c.args.scope.now image c.in_ok-found.found c.find.new.tree c.in_ok-found.ensures.alike _ c.in_ok-found.ensures.found c.in_ok-found.ensures.is_tree c.in_ok-found.ensures.settled))

pub returns-clause-answers : goal.returns-clause-answers
returns-clause-answers g c =
    let image : Loaded = image_of c.image.inside.tree c.image.inside.stamps c.image.inside.edited c.image.inside.damaged in
    rw (← c.image.view_is)
    (writes_is c.args.scope.now image c.in_ok-found.found c.find.new.tree c.in_ok-found.ensures.alike _ c.in_ok-found.ensures.found c.in_ok-prepared.prepared c.in_ok-prepared.ensures.made)
