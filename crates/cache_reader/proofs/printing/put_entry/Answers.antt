use Rattle.std.proofs.Common.{◌≡◌, Err, arith, ℕ, ◌++◌, ap, codes, option_map}
use Rattle.std.proofs.lemmas.Grind.{common_steps}
use Rattle.cache_reader.specs.Printed.{kind, abi, abi_number, hwcap}
use Rattle.cache_reader.proofs.Putting.{then, stop, same_text}
use Rattle.cache_reader.proofs.printing.put_entry.Goals as goal

pub returns-in_err-put_name : goal.returns-in_err-put_name
returns-in_err-put_name g c =
    let failed : c.from_residual.result ≡ Err c.in_err-put_name.field-0.0 = grind (arith, common_steps) in
    rw failed (stop (codes ") => " ++ c.args.entry.now.path.now ++ codes "\n") (stop (hwcap c.args.entry.now.hwcap (option_map (λ t. t.now) c.args.entry.now.cap)) (same_text (ap (λ (flags : ℕ). codes "\t" ++ c.args.entry.now.name.now ++ codes " (" ++ kind flags ++ abi (abi_number flags)) c.bits.ensures) c.in_err-put_name.ensures)))

pub returns-in_err-put_hwcap : goal.returns-in_err-put_hwcap
returns-in_err-put_hwcap g c =
    let failed : c.from_residual-in_err-put_hwcap.result ≡ Err c.in_err-put_hwcap.field-0.0 = grind (arith, common_steps) in
    rw failed (stop (codes ") => " ++ c.args.entry.now.path.now ++ codes "\n") (then (same_text (ap (λ (flags : ℕ). codes "\t" ++ c.args.entry.now.name.now ++ codes " (" ++ kind flags ++ abi (abi_number flags)) c.bits.ensures) c.in_ok-put_name.ensures) c.in_err-put_hwcap.ensures))

pub returns : goal.returns
returns g c = then (then (same_text (ap (λ (flags : ℕ). codes "\t" ++ c.args.entry.now.name.now ++ codes " (" ++ kind flags ++ abi (abi_number flags)) c.bits.ensures) c.in_ok-put_name.ensures) c.in_ok-put_hwcap.ensures) c.put_between.ensures
