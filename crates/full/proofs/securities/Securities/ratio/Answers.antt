use Rattle.std.proofs.Common.{◌-◌, min, arith, rules}
use Rattle.full.specs.declared.securities.TheConstants.{MOST_SECURITIES}
use Rattle.full.proofs.Tables.{ratio_absent, ratio_found}
use Rattle.full.proofs.securities.Securities.ratio.Goals as goal

pub returns-in_err-place : goal.returns-in_err-place
returns-in_err-place c = search (rules, ratio_absent)

pub returns : goal.returns
returns c =
    ratio_found c.args.self.now.table c.args.number (c.count-count.result - 0) (min c.args.self.now.filled MOST_SECURITIES) (omega (arith, c.count-count.ensures.held))
    c.in_ok-place.place c.index-self-place.result (omega (arith, c.count-count.ensures.whole)) c.in_ok-place.ensures.place c.in_ok-place.ensures.within
