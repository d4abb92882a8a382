-- Facts about updates that hold for every command.
use Rattle.hwcap_dirs.specs.declared.kinds.Scope.TheVariants.{Image}
use Rattle.ldconfig_core.proofs.OneText.{one_update, one_written, some_texts}
use Rattle.library_search.proofs.Reliable.{info_law, stamps_true}
use Rattle.ldconfig_cli.specs.Laws.{UpdateLaws}

pub laws : UpdateLaws
laws = record {
  one_update = one_update Image;
  some_update = some_texts Image;
  right = λ held s here. info_law Image held s.tree here.1 s.stamps here.0;
  any_stamps = λ held s rebuilt a b tree edited here too. one_written Image held s rebuilt tree edited here.1 here.0 too.0 a b;
  true_stamps = λ held s here u same. stamps_true Image held s.tree here.1 s.stamps here.0 u same;
}
