use Rattle.ldso_conf.proofs.given.add_given.Goals as goal

pub returns : goal.returns
returns c = rw (c.in_ok-copy.ensures, c.in_ok-origin.ensures) at c.add_dir.ensures
