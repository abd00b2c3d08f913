use Rattle.std.proofs.Common.{arith}
use Rattle.walter_workers.proofs.working.serve.Goals as goal

pub loop-client-smaller : goal.loop-client-smaller
loop-client-smaller g c =
    omega (arith, c.saturating_add-client.ensures, c.requires.threads, c.loop-client-test.true, c.ranges.clients.fits)
