use Rattle.std.proofs.Common.{◌≡◌, Bool, length, Some, find, sym, ap, subst, ◌∙◌, ◌&&◌}
use Rattle.std.specs.Option.{option_and_then}
use Rattle.elf_headers.specs.declared.kinds.Segment.{Segment}
use Rattle.tree_face.specs.Known.{IfKnown}
use Rattle.elf_headers.specs.Reading.{known_content}
use Rattle.elf_headers.specs.Layout.{word_size, segments}
use Rattle.elf_dynamic.specs.Section.{is_load, has_address, place_in, place_of}
use Rattle.elf_dynamic.proofs.Known.{both, sized}
use Rattle.elf_dynamic.proofs.file.ElfFile.place_of.Goals as goal

pub returns-in-Some-clause-place : goal.returns-in-Some-clause-place
returns-in-Some-clause-place g c =
    let s = g.S.Store.state c.args.self.now.store.now in
    let h = c.args.self.now.cursor.head in
    let a = c.args.address in
    let p : Segment → Bool = λ s. is_load s && has_address a s in
    let load = c.in-Some.load in
    both {P = λ bytes. Some load ≡ find p (segments (word_size h.wide) bytes)} {Q = λ bytes. length bytes ≡ h.length}
    {R = λ bytes. c.place_in.result ≡ place_of bytes (segments (word_size h.wide) bytes) a} (known_content s)
    (subst (λ o. IfKnown (known_content s) (λ bytes. o ≡ find p (segments (word_size h.wide) bytes))) c.in-Some.is c.in_ok-load.ensures.found) (sized s h c.requires.cursor.head)
    (λ bytes found size.
    c.place_in.ensures.place ∙ ap (λ h. place_in h.length a load) c.in_ok-load.ensures.reads.head ∙ ap (λ n. place_in n a load) (sym size)
    ∙ ap (λ o. option_and_then (place_in (length bytes) a) o) found)
