use Rattle.sim_core.proofs.stretch.go_far.Goals as goal

pub go_once-requires-clause-fits : goal.go_once-requires-clause-fits
go_once-requires-clause-fits g c = λ op at. c.requires.fits _ op at
