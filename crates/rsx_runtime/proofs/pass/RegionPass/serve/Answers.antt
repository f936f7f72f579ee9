use Rattle.rsx_runtime.proofs.pass.RegionPass.serve.Goals as goal

pub returns-clause-pass : goal.returns-clause-pass
returns-clause-pass g c = let h = c.serve_seat-served.ensures in (h.0, h.1, (h.2.is, h.2.holds, h.2.fits))

pub returns-clause-region : goal.returns-clause-region
returns-clause-region g c = c.serve_seat-served.ensures
