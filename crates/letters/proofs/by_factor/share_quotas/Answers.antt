-- `share_quotas` loads the quotas with the factors on top, hands the dots over to the first factors, and takes the factors off. Assumes nothing.
use Rattle.letters.proofs.ByFactor.{quotas-shared}
use Rattle.letters.proofs.by_factor.share_quotas.Goals as goal

pub returns : goal.returns
returns c = quotas-shared c.args.dots _ c.args.rests.now _ _ _ c.load_quotas-over.ensures.0 c.load_quotas-over.ensures.1 c.take_odd.ensures c.take_off.ensures
