-- The text of a sample has the numbers of its updates.
use Rattle.std.proofs.Common.{◌≡◌, ℕ, Option, Some, None, refl}
use Rattle.tree_face.specs.Disk.{DiskContent, DiskState}
use Rattle.tree_face.specs.Known.{IfKnown}
use Rattle.tree_face.specs.Store.{Contents, StoreState}
use Rattle.sample_runs.specs.declared.updates.SampleUpdate.{SampleUpdate}
use Rattle.sample_runs.specs.Sample.{IsSample, IsTextOf}
use Rattle.sample_runs.specs.Text.{sample_text, text_with}
use Rattle.sample_runs.specs.Updates.{AreUpdatesOf, UpdatesTwice}

module _ (n : ℕ) (first second : SampleUpdate) (store after_store : StoreState) (disk after_disk : DiskState) (u : UpdatesTwice n (first, second) store after_store disk after_disk) where
  same_text : (held : Contents) → AreUpdatesOf held n u.first u.second (first, second) → first.cache ≡ u.first.cache → second.cache ≡ u.second.cache
      → text_with n first second ≡ sample_text held n u.first.cache u.second.cache
  unfolding sample_text
  same_text held made one two =
      let a = made.first_numbers in
      let b = made.second_numbers in
      rw (a.libs, a.links, a.opened, b.libs, b.links, b.opened, one, two) refl

  by : (known : Option Contents) (content : Option DiskContent) → IfKnown content (λ _. first.cache ≡ u.first.cache) → IfKnown content (λ _. second.cache ≡ u.second.cache)
      → IfKnown known (λ held. AreUpdatesOf held n u.first u.second (first, second)) → IfKnown known (λ held. IfKnown content (λ _. IsTextOf held n (text_with n first second) u.first u.second))
  by None content one two made = tt
  by (Some held) None one two made = tt
  by (Some held) (Some c) one two made = record {
    first_are = made.first_are;
    second_are = made.second_are;
    first_right = made.first_right;
    second_right = made.second_right;
    first_all = made.first_all;
    second_all = made.second_all;
    text_is = same_text held made one two;
  }

  pub is_sample : IsSample n (text_with n first second) store after_store disk after_disk
  is_sample = record {
    first = u.first;
    second = u.second;
    written = u.written;
    is = by store.held disk.contents u.first_cache u.second_cache u.are;
    reads = u.reads;
  }
