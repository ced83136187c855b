use Rattle.std.proofs.Common.{subst, sym}
use Rattle.std.proofs.lemmas.Result.{IfOk-weaker}
use Rattle.full.specs.Trades.{moves_of, Following}
use Rattle.full.proofs.Places.{four_parts, four_apart, four_standing}
use Rattle.full.proofs.Swaps.{apart_follow}
use Rattle.full.proofs.trade_registers.exchange.Goals as goal

pub returns-clause-follow : goal.returns-clause-follow
returns-clause-follow g c =
    let parts = four_parts (g.S.Store.rows c.args.store.now) c.args.pair.buy.account c.args.pair.sell.account c.args.pair.buy.security c.in_ok-registers.registers (sym c.in_ok-registers.ensures.answer) in
    let apart = four_apart _ _ _ _ _ parts c.requires c.args.pair.quantity.value c.money-value.result.units c.money.result.units in
    let standing = four_standing _ _ _ _ _ parts c.args.pair.quantity.value c.money-value.result.units c.money.result.units in
    IfOk-weaker c.ended.result _ _ (λ ms e. subst (Following _) (sym e) (apart_follow _ (moves_of c.in_ok-registers.registers c.args.pair.quantity.value c.money-value.result.units c.money.result.units) apart standing)) c.ended.ensures.moves
