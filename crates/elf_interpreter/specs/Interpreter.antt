-- The interpreter that a program names (gABI, "Program Interpreter"; execve(2)).
use Rattle.std.specs.Prelude.{ℕ, Bool, ◌==◌, List, find, take, drop, nat_lt, if◌then◌else◌, Option, Some, None, option_and_then, Result, Ok, Err}
use Rattle.std.specs.List.{before_first}
use Rattle.elf_headers.specs.Header.{head}
use Rattle.elf_headers.specs.Layout.{segments, word_size}
use Rattle.elf_headers.specs.declared.kinds.Head.{Head}
use Rattle.elf_headers.specs.declared.kinds.Segment.{Segment}
use Rattle.elf_interpreter.specs.declared.reader.TheConstants.{TEXT_MAX}
use Rattle.lib_types.specs.Bytes.{is_byte}
use Rattle.lib_types.specs.declared.analysis.Defect.{Defect}

-- PT_INTERP
abbrev pub is_interpreter : Segment → Bool
is_interpreter s = s.kind == 3

-- The path is the segment's bytes before the first NUL. Linux takes at most 4,096 bytes.
abbrev pub text_in : List ℕ → Segment → Option (List ℕ)
text_in bytes s = if nat_lt TEXT_MAX s.filesz then None else Some (before_first (is_byte 0) (take s.filesz (drop s.offset bytes)))

-- the path in the first segment that has one
abbrev pub interpreter_by : ℕ → List ℕ → Option (List ℕ)
interpreter_by w bytes = option_and_then (text_in bytes) (find is_interpreter (segments w bytes))

abbrev pub interpreter_of : Result Head Defect → List ℕ → Option (List ℕ)
interpreter_of (Ok h) bytes = interpreter_by (word_size h.wide) bytes
interpreter_of (Err d) bytes = None

-- the path of the interpreter, if this is the content of an ELF file that names one
abbrev pub interpreter : List ℕ → Option (List ℕ)
interpreter bytes = interpreter_of (head bytes) bytes
