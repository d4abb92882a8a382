use Rattle.std.proofs.Common.{Some, Ok, Err, refl, sym, ap, ◌∙◌, arith}
use Rattle.elf_headers.proofs.Heads.{gives, inside}
use Rattle.elf_headers.proofs.Windows.{head_of_content, head_of_known, content_known}
use Rattle.elf_headers.proofs.reader.head.Goals as goal

pub returns-in-Ok-clause-head : goal.returns-in-Ok-clause-head
returns-in-Ok-clause-head g c =
    head_of_content (Ok c.in-Ok.head) c.in_ok-size.ensures c.in_ok-count.ensures refl (sym c.head_of.ensures.head ∙ c.in-Ok.is)

pub returns-in-Ok-clause-begun_head : goal.returns-in-Ok-clause-begun_head
returns-in-Ok-clause-begun_head g c =
    let e = sym c.head_of.ensures.head ∙ c.in-Ok.is in
    record {
      size = c.in_ok-count.ensures.size ∙ c.in_ok-size.ensures.size ∙ ap Some (sym (gives e).size_is);
      small = let known = (gives e).size_is in omega arith;
      headers = inside _ _ _ e;
      content = head_of_known (Ok c.in-Ok.head) c.in_ok-size.ensures c.in_ok-count.ensures refl e;
    }

pub returns-in-Ok-clause-content : goal.returns-in-Ok-clause-content
returns-in-Ok-clause-content g c = content_known c.in_ok-size.ensures c.in_ok-count.ensures refl

pub returns-in-Err-clause-defect : goal.returns-in-Err-clause-defect
returns-in-Err-clause-defect g c =
    head_of_content (Err c.in-Err.defect) c.in_ok-size.ensures c.in_ok-count.ensures refl (sym c.head_of.ensures.head ∙ c.in-Err.is)
