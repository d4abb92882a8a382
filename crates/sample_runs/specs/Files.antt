-- The libraries of a sample. Their version numbers are pseudo-random.
use Rattle.std.specs.Prelude.{ℕ, zero, suc, ◌+◌, ◌*◌, ◌^◌, ◌==◌, Bool, List, [], ◌∷◌, ◌++◌, codes, decimal, ◌/◌, ◌%◌, Some, None, false}
use Rattle.elf_maker.specs.Made.{made}
use Rattle.elf_maker.specs.declared.kinds.Spec.{Spec}
use Rattle.lib_types.specs.declared.abi.Abi.TheVariants.{X86_64}
use Rattle.sample_runs.specs.declared.files.SampleFile.{SampleFile}

-- ---- draws

-- the state of the generator after one more draw
abbrev pub next : ℕ → ℕ
next state = (state * 1103515245 + 12345) % (2 ^ 31)

-- what is drawn: the upper bits of the state
abbrev pub drawn : ℕ → ℕ
drawn state = state / 65536

-- ---- the libraries

-- this number of libraries from this state and index on: for each, the major number is drawn first, then the minor number
abbrev pub files_from : ℕ → ℕ → ℕ → List SampleFile
files_from state index zero = []
files_from state index (suc count) =
    record { index = index; major = drawn (next state) % 20; minor = drawn (next (next state)) % 4 }
    ∷ files_from (next (next state)) (index + 1) count

unfoldable pub sample_files : ℕ → List SampleFile
sample_files n = files_from n 0 n

-- ---- names and contents

abbrev pub soname : SampleFile → List ℕ
soname file = codes "libs" ++ decimal file.index ++ codes ".so." ++ decimal file.major

-- the file of a library in /usr/lib, with this minor number
abbrev pub library_path : SampleFile → ℕ → List ℕ
library_path file minor = codes "/usr/lib/libs" ++ decimal file.index ++ codes ".so." ++ decimal file.major ++ codes "." ++ decimal minor

-- the file of a library for processors of x86-64-v3
abbrev pub hwcaps_path : SampleFile → List ℕ
hwcaps_path file = codes "/usr/lib/glibc-hwcaps/x86-64-v3/libs" ++ decimal file.index ++ codes ".so." ++ decimal file.major ++ codes "." ++ decimal file.minor

-- the key of a library's content
abbrev pub key : SampleFile → List ℕ
key file = codes "s" ++ decimal file.index

-- an x86-64 shared object that has only a soname
abbrev pub shared_object : List ℕ → Spec
shared_object name = record {
  abi = X86_64;
  etype = 3;
  dynamic = record { soname = Some name; needed = []; rpath = None; runpath = None; nodeflib = false };
}

unfoldable pub content : SampleFile → List ℕ
content file = made (shared_object (soname file))

-- whether a library also has a file for processors of x86-64-v3
abbrev pub has_hwcaps_file : SampleFile → Bool
has_hwcaps_file file = file.index % 4 == 3

-- whether a library is replaced before the second update
abbrev pub is_replaced : SampleFile → Bool
is_replaced file = file.index % 10 == 0
