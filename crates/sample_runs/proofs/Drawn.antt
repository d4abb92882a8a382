-- The libraries of a sample are drawn one after the other.
use Rattle.std.proofs.Common.{◌≡◌, ◌+◌, ◌%◌, ◌++◌, ℕ, suc, List, [], ◌∷◌, sym, ap, ◌∙◌, append_assoc}
use Rattle.std.proofs.lemmas.List.{append-nil}
use Rattle.sample_runs.specs.declared.files.SampleFile.{SampleFile}
use Rattle.sample_runs.specs.Files.{drawn, files_from, next}

module _ (files all : List SampleFile) (state index : ℕ) where
  -- one more library is drawn, and the rest remains
  pub one_more : (count rest : ℕ) → count ≡ suc rest → files ++ files_from state index count ≡ all
      → (files ++ record { index = index; major = drawn (next state) % 20; minor = drawn (next (next state)) % 4 } ∷ []) ++ files_from (next (next state)) (index + 1) rest ≡ all
  one_more count rest more is =
      append_assoc files (record { index = index; major = drawn (next state) % 20; minor = drawn (next (next state)) % 4 } ∷ []) (files_from (next (next state)) (index + 1) rest)
      ∙ ap (λ k. files ++ files_from state index k) (sym more) ∙ is

  -- no library remains
  pub all_drawn : (count : ℕ) → count ≡ 0 → files ++ files_from state index count ≡ all → files ≡ all
  all_drawn count none is = sym (append-nil files) ∙ ap (λ k. files ++ files_from state index k) (sym none) ∙ is
