use Rattle.std.proofs.Common.{◌≡◌, ◌-◌, [], find, map, Some, None}
use Rattle.std.specs.List.{range_with_len}
use Rattle.elf_headers.specs.Layout.{segment, segments, word_size}
use Rattle.elf_headers.specs.Reading.{IsHeadOf, KeepsFile, known_content}
use Rattle.elf_interpreter.specs.Interpreter.{is_interpreter}
use Rattle.elf_interpreter.proofs.reader.find_segment.Given as goal
use Rattle.tree_face.specs.Known.{IfKnown}
use Rattle.tree_face.specs.StoreUse.{Complete, ReadsFiles}

-- none of the segments so far names an interpreter
abbrev pub invariant-loop-index : goal.invariant-loop-index
invariant-loop-index g l =
    let old = g.S.Store.state l.fn.store in
    let new = g.S.Store.state l.store in
    record {
      begun_head : IsHeadOf new l.head;
      keeps : KeepsFile old new;
      reads : ReadsFiles ⊥ (Some []) None Complete old new;
      rest : IfKnown (known_content old) (λ bytes.
          find is_interpreter (segments (word_size l.head.wide) bytes)
          ≡ find is_interpreter (map (segment (word_size l.head.wide) bytes) (range_with_len l.index (l.head.phnum - l.index))));
    }
