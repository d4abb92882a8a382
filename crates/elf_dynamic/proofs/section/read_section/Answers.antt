use Rattle.std.proofs.Common.{◌≡◌, Ok, subst, sym, ◌∙◌, ap, rules}
use Rattle.tree_face.specs.Known.{IfKnown}
use Rattle.elf_headers.specs.Layout.{word_size}
use Rattle.elf_headers.specs.Reading.{known_content}
use Rattle.elf_dynamic.specs.Kept.{kept, kept_of}
use Rattle.elf_dynamic.specs.Sections.{section_in}
use Rattle.elf_dynamic.specs.Texts.{no_texts}
use Rattle.elf_dynamic.proofs.Sections.{known_textless}
use Rattle.elf_dynamic.proofs.section.read_section.Goals as goal

pub returns-then-values-eq0-clause-section : goal.returns-then-values-eq0-clause-section
returns-then-values-eq0-clause-section g c =
    let known = known_content (g.S.Store.state c.args.file.now.store.now) in
    let w = word_size c.args.file.now.cursor.head.wide in
    record {
      kept = subst (λ d. IfKnown known (λ bytes. kept_of c.args.keep (section_in w bytes c.args.dynamic) ≡ Ok (kept c.args.keep d))) (sym (c.no_texts-found.ensures ∙ ap no_texts c.has_nodeflib.ensures))
          (known_textless c.args.keep known w c.args.dynamic c.in_ok-values.values c.in_ok-values.ensures.values c.if-values-eq0.true);
      name = search rules;
    }
