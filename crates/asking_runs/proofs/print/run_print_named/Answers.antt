use Rattle.std.proofs.Common.{refl}
use Rattle.asking_runs.proofs.Asking.{asks}
use Rattle.asking_runs.specs.Print.{print_answer, printed_answer}
use Rattle.asking_runs.proofs.print.run_print_named.Goals as goal

pub returns-clause-runs : goal.returns-clause-runs
returns-clause-runs g c store source =
    asks _ _ c.end.result (λ printed. printed_answer printed.name.now printed.view) (print_answer c.args.name.now) c.read_slot-read.result c.print.result c.read_slot-read.ensures c.print.ensures c.end.ensures.ends refl refl
