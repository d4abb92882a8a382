use Rattle.std.proofs.Common.{rules, ◌≡◌, ap, subst, ◌∙◌}
use Rattle.tree_face.specs.declared.memory.disks.SureDisk.{SureDisk}
use Rattle.tree_face.specs.declared.memory.past.Past.{Past}
use Rattle.tree_face.specs.Past.{KeepsPast}
use Rattle.tree_face.proofs.Disks.{SameFiles, may_publish_file, on_err, publishes, publishes_file, refuses_publishing, same_files, whole_change}
use Rattle.tree_face.proofs.memory.disks.SureDiskDisk.publish.Goals as goal

files_by : (a b d : SureDisk) → b ≡ record a { calls = b.calls; faults = b.faults } → d ≡ record b { past = d.past; faults = d.faults } → SameFiles a d
files_by a b d first next = same_files a d (ap (λ (d : SureDisk). d.manifest) next ∙ ap (λ (d : SureDisk). d.manifest) first)
    (ap (λ (d : SureDisk). d.cache) next ∙ ap (λ (d : SureDisk). d.cache) first) (ap (λ (d : SureDisk). d.aux) next ∙ ap (λ (d : SureDisk). d.aux) first)

past_by : (a b d : SureDisk) → b ≡ record a { calls = b.calls; faults = b.faults } → KeepsPast b.past d.past → KeepsPast a.past d.past
past_by a b d first keeps = subst (λ (p : Past). KeepsPast p d.past) (ap (λ (d : SureDisk). d.past) first) keeps

pub returns-in_err-make_room-clause-does : goal.returns-in_err-make_room-clause-does
returns-in_err-make_room-clause-does c = record {
  done = search rules;
  failed = on_err c.from_residual-in_err-make_room.result (refuses_publishing c.args.self.now c.make_room.new.self c.args.tag.0 c.args.slot
      (past_by c.args.self.now c.add_call.new.self c.make_room.new.self c.add_call.ensures.rest c.make_room.ensures.past)
      (files_by c.args.self.now c.add_call.new.self c.make_room.new.self c.add_call.ensures.rest c.make_room.ensures.rest));
  added = search rules;
  may_add = search rules;
  reads = search rules;
  faults = search rules;
  no_fault = search rules;
  read_faults = search rules;
  cause = search rules;
}

pub returns-clause-does : goal.returns-clause-does
returns-clause-does c =
    let a = c.args.self.now in
    let m = c.make_room.new.self in
    let n = c.take-file.new.self in
    let b = c.add_change.new.self in
    let here = files_by a c.add_call.new.self m c.add_call.ensures.rest c.make_room.ensures.rest in
    let room = past_by a c.add_call.new.self m c.add_call.ensures.rest c.make_room.ensures.past in
    let there = same_files n b (ap (λ (d : SureDisk). d.manifest) c.add_change.ensures.rest) (ap (λ (d : SureDisk). d.cache) c.add_change.ensures.rest) (ap (λ (d : SureDisk). d.aux) c.add_change.ensures.rest) in
    record {
      done = publishes_file a m n b c.args.tag.0 c.args.slot c.take-file.result c.add_change.result here room (ap (λ (d : SureDisk). d.past) c.take-file.ensures.rest) c.take-file.ensures.file
          c.take-file.ensures.ended c.take-file.ensures.others there c.add_change.ensures.past;
      failed = may_publish_file a m n b c.args.tag.0 c.args.slot c.take-file.result c.add_change.result here room (ap (λ (d : SureDisk). d.past) c.take-file.ensures.rest) c.take-file.ensures.file
          c.take-file.ensures.ended c.take-file.ensures.others there c.add_change.ensures.past;
      added = search rules;
      may_add = search rules;
      reads = search rules;
      faults = search rules;
      no_fault = search rules;
      read_faults = search rules;
      cause = search rules;
    }

pub returns-clause-crash : goal.returns-clause-crash
returns-clause-crash c =
    let a = c.args.self.now in
    let m = c.make_room.new.self in
    let n = c.take-file.new.self in
    let b = c.add_change.new.self in
    let here = files_by a c.add_call.new.self m c.add_call.ensures.rest c.make_room.ensures.rest in
    let room = past_by a c.add_call.new.self m c.add_call.ensures.rest c.make_room.ensures.past in
    let there = same_files n b (ap (λ (d : SureDisk). d.manifest) c.add_change.ensures.rest) (ap (λ (d : SureDisk). d.cache) c.add_change.ensures.rest) (ap (λ (d : SureDisk). d.aux) c.add_change.ensures.rest) in
    publishes a b c.args.slot c.args.tag.0 c.add_change.result
    (whole_change a m n b c.args.tag.0 c.args.slot c.take-file.result c.add_change.result here room (ap (λ (d : SureDisk). d.past) c.take-file.ensures.rest) c.take-file.ensures.file
    c.take-file.ensures.ended c.take-file.ensures.others there c.add_change.ensures.past)
