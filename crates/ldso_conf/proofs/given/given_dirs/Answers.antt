use Rattle.std.proofs.Common.{◌≡◌, ap, length, arith}
use Rattle.ldso_conf.proofs.CommandLine.{as_given}
use Rattle.ldso_conf.proofs.given.given_dirs.Goals as goal

pub returns-clause-conf : goal.returns-clause-conf
returns-clause-conf c held t =
    let as_many : length c.as_slice-dir-items.result.now ≡ length c.args.dirs.now = ap length c.as_slice-dir-items.ensures in
    as_given c.into_conf.result c.loop-dir.reader c.args.dirs.now c.loop-dir.dir-index (omega (arith, as_many, c.loop-dir-test.false)) c.loop-dir.invariant c.into_conf.ensures.conf held t
