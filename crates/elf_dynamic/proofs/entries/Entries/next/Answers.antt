use Rattle.std.proofs.Common.{◌≡◌, ◌∷◌, [], ◌+◌, ◌-◌, ◌==◌, ◌*◌, ◌≤◌, false, refl, ap, sym, subst, ◌∙◌, arith}
use Rattle.std.proofs.lemmas.Bool.Decides.{nat_tests}
use Rattle.tree_face.specs.Known.{IfKnown}
use Rattle.elf_headers.specs.Layout.{word_size}
use Rattle.elf_headers.specs.Reading.{known_content}
use Rattle.elf_dynamic.specs.declared.entries.Entries.{Entries}
use Rattle.elf_dynamic.specs.Entries.{rest_of}
use Rattle.elf_dynamic.specs.Windows.{ready, part}
use Rattle.elf_dynamic.proofs.Windows.{next_part, ready_on}
use Rattle.elf_dynamic.proofs.Live.{ended, ended_at, next_at}
use Rattle.elf_dynamic.proofs.entries.Entries.next.Goals as goal

pub returns-then-not-branch-clause-entry : goal.returns-then-not-branch-clause-entry
returns-then-not-branch-clause-entry g c = ended _ c.args.self.now (c.in_ok-hold.ensures.next.none (grind (arith, c.if-not-branch.true)))

pub returns-then-entry-eq-DT_NULL-clause-entry : goal.returns-then-entry-eq-DT_NULL-clause-entry
returns-then-entry-eq-DT_NULL-clause-entry g c =
    let n = c.hold.new.self in
    let w = c.hold.new.file.cursor.section in
    let h = c.in_ok-hold.ensures in
    let there : 2 * word_size n.wide ≤ n.held = h.next.some (grind (arith, c.if-not-branch.false)) in
    let held = h.reader in
    let long : 2 * word_size n.wide ≤ n.left = omega (arith, there, held.held) in
    let enough : 2 * word_size n.wide ≤ ready w (n.end - n.left) = omega (arith, there, held.ready) in
    subst (λ (x : Entries). IfKnown (known_content (g.S.Store.state c.args.file.now.store.now)) (λ bytes. rest_of x bytes ≡ [])) h.next.same
    (ended_at _ n (ready w (n.end - n.left)) c.from.result.now c.entry-entry.result long enough c.entry-entry.ensures c.if-entry-eq-DT_NULL.true
    (next_part _ _ c.hold.new.file.cursor.head w (n.end - n.left) c.from.result.now h.reads.reads h.reads.cursor.section (c.from.ensures.part ∙ ap (part w) c.at.ensures)))

pub returns-clause-entry : goal.returns-clause-entry
returns-clause-entry g c =
    let n = c.hold.new.self in
    let w = c.hold.new.file.cursor.section in
    let h = c.in_ok-hold.ensures in
    let there : 2 * word_size n.wide ≤ n.held = h.next.some (grind (arith, c.if-not-branch.false)) in
    let held = h.reader in
    let long : 2 * word_size n.wide ≤ n.left = omega (arith, there, held.held) in
    let enough : 2 * word_size n.wide ≤ ready w (n.end - n.left) = omega (arith, there, held.ready) in
    let within : n.left ≤ n.end = subst (λ (x : Entries). x.left ≤ x.end) (sym h.next.same) c.requires.reader.within in
    let live : (c.entry-entry.result.tag == 0) ≡ false = grind (arith, nat_tests, c.if-entry-eq-DT_NULL.false) in
    let each = c.entry_length-each.result in
    let new : Entries = record { wide = n.wide; end = n.end; left = n.left - each; held = n.held - each } in
    subst (λ (x : Entries). IfKnown (known_content (g.S.Store.state c.args.file.now.store.now)) (λ bytes. rest_of x bytes ≡ c.entry-entry.result ∷ rest_of new bytes)) h.next.same
    (next_at _ n new (ready w (n.end - n.left)) c.from.result.now c.entry-entry.result long within enough c.entry-entry.ensures live (rw c.entry_length-each.ensures refl)
    (next_part _ _ c.hold.new.file.cursor.head w (n.end - n.left) c.from.result.now h.reads.reads h.reads.cursor.section (c.from.ensures.part ∙ ap (part w) c.at.ensures)))

pub returns-clause-reader : goal.returns-clause-reader
returns-clause-reader g c =
    let n = c.hold.new.self in
    let w = c.hold.new.file.cursor.section in
    let h = c.in_ok-hold.ensures in
    let there : 2 * word_size n.wide ≤ n.held = h.next.some (grind (arith, c.if-not-branch.false)) in
    let held = h.reader in
    let each = c.entry_length-each.result in
    let size : each ≡ 2 * word_size n.wide = c.entry_length-each.ensures in
    let on : n.end - n.left + each ≡ n.end - (n.left - each) = omega (arith, there, held.held, size, held.within) in
    let next : ready w (n.end - (n.left - each)) ≡ ready w (n.end - n.left) - each = ap (ready w) (sym on) ∙ ready_on w (n.end - n.left) each (omega (arith, there, held.ready, size)) in
    record {
      wide = held.wide;
      within = omega (arith, held.within);
      in_file = held.in_file;
      held = omega (arith, held.held);
      ready = omega (arith, next, held.ready);
    }
