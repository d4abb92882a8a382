use Rattle.std.proofs.Common.{rules, ap, subst, ◌∙◌, MatchResult}
use Rattle.tree_face.specs.declared.memory.disks.SureDisk.{SureDisk}
use Rattle.tree_face.specs.declared.memory.past.Change.TheVariants.{Settled}
use Rattle.tree_face.specs.declared.memory.past.Past.{Past}
use Rattle.tree_face.specs.Past.{IsChangedBy, KeepsPast}
use Rattle.tree_face.proofs.Disks.{on_err, on_ok, same_files, settles, settles_content}
use Rattle.tree_face.proofs.memory.disks.SureDiskDisk.settle.Goals as goal

pub returns-clause-does : goal.returns-clause-does
returns-clause-does c =
    let first = c.add_call.ensures.rest in
    let next = c.add_change.ensures.rest in
    let change = subst (λ (p : Past). MatchResult c.add_change.result (λ _. IsChangedBy (Settled c.args.slot) p c.add_change.new.self.past) (λ _. KeepsPast p c.add_change.new.self.past))
    (ap (λ (d : SureDisk). d.past) first) c.add_change.ensures.past in
    let files = same_files c.args.self.now c.add_change.new.self (ap (λ (d : SureDisk). d.manifest) next ∙ ap (λ (d : SureDisk). d.manifest) first)
    (ap (λ (d : SureDisk). d.cache) next ∙ ap (λ (d : SureDisk). d.cache) first) (ap (λ (d : SureDisk). d.aux) next ∙ ap (λ (d : SureDisk). d.aux) first) in
    let keeps = settles_content c.args.self.now c.add_change.new.self c.args.slot c.add_change.result files change in
    record {
      done = on_ok c.add_change.result keeps;
      failed = on_err c.add_change.result keeps;
      added = search rules;
      may_add = search rules;
      reads = search rules;
      faults = search rules;
      no_fault = search rules;
      read_faults = search rules;
      cause = search rules;
    }

pub returns-clause-crash : goal.returns-clause-crash
returns-clause-crash c =
    settles c.args.self.now c.add_change.new.self c.args.slot c.add_change.result
    (subst (λ (p : Past). MatchResult c.add_change.result (λ _. IsChangedBy (Settled c.args.slot) p c.add_change.new.self.past) (λ _. KeepsPast p c.add_change.new.self.past))
    (ap (λ (d : SureDisk). d.past) c.add_call.ensures.rest) c.add_change.ensures.past)
