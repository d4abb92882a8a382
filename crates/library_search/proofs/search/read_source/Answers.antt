use Rattle.library_search.proofs.search.read_source.Goals as goal

pub returns-in-Image-clause-conf : goal.returns-in-Image-clause-conf
returns-in-Image-clause-conf g c = rw c.in-Image.is c.read_conf.ensures.conf

pub returns-in-Image-clause-reads : goal.returns-in-Image-clause-reads
returns-in-Image-clause-reads g c = rw c.in-Image.is c.read_conf.ensures.reads
